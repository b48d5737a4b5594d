use Rattle.std.proofs.Common.{◌∙◌, sym}
use Rattle.delivery.proofs.Delivered.{filled, not_filled}
use Rattle.delivery.proofs.output.fill.Goals as goal

pub returns-in-Whole : goal.returns-in-Whole
returns-in-Whole g c = λ plots own.
    filled g.D.Voice.does plots own c.args.desk.now c.write-file.new.self c.store.new.desk c.args.part.now c.args.path.now (g.C.Content.item c.args.content) c.store.result
    c.requires (rw (sym c.ending.ensures ∙ c.in-Whole.is) at c.write-file.ensures.done) (c.store.ensures plots own)

pub returns-in-Kept : goal.returns-in-Kept
returns-in-Kept g c = λ plots own.
    not_filled g.D.Voice.does plots own c.args.desk.now c.write-file.new.self c.leave.new.desk c.args.part.now c.args.path.now (g.C.Content.item c.args.content) c.leave.result
    (g.C.Answer.Answer.ends c.write-file.result.1) c.write-file.ensures.done (c.leave.ensures plots own)
