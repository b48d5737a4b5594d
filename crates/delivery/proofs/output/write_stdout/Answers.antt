use Rattle.std.proofs.Common.{◌∙◌, ap}
use Rattle.delivery.specs.Deeds.{status_of}
use Rattle.delivery.proofs.Delivered.{shown}
use Rattle.delivery.proofs.output.write_stdout.Goals as goal

pub returns : goal.returns
returns g c = λ plots own.
    shown g.D.Voice.does plots own c.args.desk.now c.write-answer.new.self c.tell.new.voice (g.C.Content.item c.args.content) (g.C.Answer.Answer.ends c.write-answer.result.1)
    c.status_of.result c.write-answer.ensures.done c.tell.ensures (c.status_of.ensures ∙ ap status_of c.ending.ensures)
