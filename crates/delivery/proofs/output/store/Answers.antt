use Rattle.delivery.proofs.Delivered.{not_stored, stored}
use Rattle.delivery.proofs.output.store.Goals as goal

pub returns-in-Ok : goal.returns-in-Ok
returns-in-Ok g c = λ plots own.
    stored g.D.Voice.does plots own c.args.desk.now c.sync.new.self c.tell.new.voice c.give_name.new.desk c.args.part.now c.args.path.now c.give_name.result
    (rw c.in-Ok.is at c.sync.ensures) (rw c.requires.whole at c.tell.ensures) (c.give_name.ensures plots own)

pub returns : goal.returns
returns g c = λ plots own.
    not_stored g.D.Voice.does plots own c.args.desk.now c.sync.new.self c.leave.new.desk c.args.part.now c.args.path.now c.leave.result
    (g.B.Answer.ends c.unstored-answer.result) (rw c.in-Err.is at c.sync.ensures) (c.leave.ensures plots own)
