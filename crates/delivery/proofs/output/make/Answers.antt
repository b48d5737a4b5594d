use Rattle.delivery.proofs.Delivered.{made, not_made}
use Rattle.delivery.proofs.output.make.Goals as goal

pub returns-in-Ok : goal.returns-in-Ok
returns-in-Ok g c = λ plots own.
    made g.D.Voice.does plots own c.args.desk.now c.remove.new.self c.create.new.self c.fill.new.desk c.args.part.now c.args.path.now (g.C.Content.item c.args.content) c.fill.result
    c.remove.ensures (rw c.in-Ok.is at c.create.ensures) (c.fill.ensures plots own)

pub returns-in-Err : goal.returns-in-Err
returns-in-Err g c = λ plots own.
    not_made g.D.Voice.does plots own c.args.desk.now c.remove.new.self c.create.new.self c.refuse_write.new.desk c.args.part.now c.args.path.now (g.C.Content.item c.args.content)
    c.refuse_write.result c.refuse_write.ensures.says.0 c.remove.ensures (rw c.in-Err.is at c.create.ensures) c.refuse_write.ensures.says.1
    c.refuse_write.ensures.status
