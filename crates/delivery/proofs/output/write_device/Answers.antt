use Rattle.std.proofs.Common.{◌∙◌, ap}
use Rattle.delivery.specs.Deeds.{status_of}
use Rattle.delivery.proofs.Delivered.{not_reached, written}
use Rattle.delivery.proofs.output.write_device.Goals as goal

pub returns-in-Ok : goal.returns-in-Ok
returns-in-Ok g c = λ plots own.
    written g.D.Voice.does plots own c.args.desk.now c.reach.new.self c.write-answer.new.self c.tell.new.voice c.args.path.now (g.C.Content.item c.args.content) (g.C.Answer.Answer.ends c.write-answer.result.1)
    c.status_of.result (rw c.in-Ok.is at c.reach.ensures) c.write-answer.ensures.done c.tell.ensures (c.status_of.ensures ∙ ap status_of c.ending.ensures)

pub returns-in-Err : goal.returns-in-Err
returns-in-Err g c = λ plots own.
    not_reached g.D.Voice.does plots own c.args.desk.now c.reach.new.self c.refuse_write.new.desk c.args.path.now (g.C.Content.item c.args.content) c.refuse_write.result
    c.refuse_write.ensures.says.0 (rw c.in-Err.is at c.reach.ensures) c.refuse_write.ensures.says.1 c.refuse_write.ensures.status
