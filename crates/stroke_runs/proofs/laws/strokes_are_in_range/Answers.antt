use Rattle.std.proofs.Common.{sym, take}
use Rattle.std.proofs.lemmas.List.{take_all}
use Rattle.std.proofs.lemmas.List.Elements.{All-more, All-same}
use Rattle.std.proofs.Common.{subst}
use Rattle.plot_page.specs.Segments.{Segment}
use Rattle.stroke_runs.specs.Ranges.{IsInRange}
use Rattle.stroke_runs.proofs.laws.strokes_are_in_range.Goals as goal

pub loop-stroke-preserved : goal.loop-stroke-preserved
loop-stroke-preserved c =
    let P : Segment → Type 0 = λ z. IsInRange z in
    let s = c.stroke-item.result in
    All-more P c.args.strokes.now c.loop-stroke.stroke-index s c.loop-stroke-test.true c.loop-stroke.invariant (subst P c.stroke-item.is c.is_in_range.ensures)

pub returns : goal.returns
returns c =
    let ss = c.args.strokes.now in
    let P : Segment → Type 0 = λ z. IsInRange z in
    All-same P ss (take c.loop-stroke.stroke-index ss) (sym (take_all c.loop-stroke.stroke-index ss c.loop-stroke-test.false)) c.loop-stroke.invariant
