use Rattle.std.proofs.Common.{rules, ◌≤◌, ◌^◌, nat_abs, FitsSigned}
use mir.Syntax.{w64, w128}
use Rattle.std.proofs.lemmas.Int.{to_z-of_z}
use Rattle.plot_frame.specs.Bounds.{IsEnds, IsFittedRange}
use Rattle.plot_frame.proofs.SideBounds.{both_on_axis}
use Rattle.plot_frame.proofs.lines.fitted_axis.Goals as goal

pub side_of-side-requires-clause-ends : goal.side_of-side-requires-clause-ends
side_of-side-requires-clause-ends c = rw c.on_axis.ensures (both_on_axis IsEnds c.args.name c.args.points.now c.requires.points)

pub side_of-side-requires-clause-range : goal.side_of-side-requires-clause-range
side_of-side-requires-clause-range c = rw c.on_axis-own.ensures (both_on_axis IsFittedRange c.args.name c.args.fitting.now c.requires.fitting).range

pub even_axis-requires-clause-percent_in : goal.even_axis-requires-clause-percent_in
even_axis-requires-clause-percent_in c =
    let f : FitsSigned w64 c.on_axis-own.result.share = search rules in
    let g : FitsSigned w128 c.from.result = search rules in
    let e = simp to_z-of_z at c.from.ensures in
    let h : nat_abs c.on_axis-own.result.share ≤ 10 ^ 8 = rw c.on_axis-own.ensures (both_on_axis IsFittedRange c.args.name c.args.fitting.now c.requires.fitting).share_in in
    simp to_z-of_z (rw e h)
