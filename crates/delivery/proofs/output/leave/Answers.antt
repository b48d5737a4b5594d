use Rattle.std.proofs.Common.{◌∙◌, sym}
use Rattle.delivery.proofs.Delivered.{lost}
use Rattle.delivery.proofs.output.leave.Goals as goal

pub returns-in-Lost : goal.returns-in-Lost
returns-in-Lost g c = λ plots own.
    lost g.D.Voice.does plots own c.args.desk.now c.tell.new.voice c.remove.new.self c.args.part.now (g.A.Answer.ends c.args.answer.now) c.in-Lost.status
    (sym c.ending-ending.ensures ∙ c.in-Lost.is) c.tell.ensures c.remove.ensures
