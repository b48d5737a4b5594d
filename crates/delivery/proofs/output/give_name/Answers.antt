use Rattle.delivery.proofs.Delivered.{named, not_named}
use Rattle.delivery.proofs.output.give_name.Goals as goal

pub returns-in-Ok : goal.returns-in-Ok
returns-in-Ok g c = λ plots own.
    named g.D.Voice.does plots own c.args.desk.now c.rename.new.self c.args.part.now c.args.path.now c.requires (rw c.in-Ok.is at c.rename.ensures)

pub returns-in-Err : goal.returns-in-Err
returns-in-Err g c = λ plots own.
    not_named g.D.Voice.does plots own c.args.desk.now c.rename.new.self c.refuse_write.new.desk c.args.part.now c.args.path.now
    c.refuse_write.result c.refuse_write.ensures.says.0 c.requires (rw c.in-Err.is at c.rename.ensures) c.refuse_write.ensures.says.1 c.refuse_write.ensures.status
