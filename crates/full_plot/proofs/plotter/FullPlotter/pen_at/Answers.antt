use Rattle.std.proofs.Common.{◌≡◌, ◌∙◌, ◌∷◌, [], ap, subst, true, Some}
use Rattle.exact.specs.declared.spot.Spot.{Spot}
use Rattle.hpgl_plot.specs.Frames.{place}
use Rattle.hpgl_plot.specs.Machine as core
use Rattle.std.specs.Bool.{⊤}
use Rattle.full_plot.specs.Curves.{if_in_range, curve_pen}
use Rattle.full_plot.specs.Machine.{seen, Runs}
use Rattle.full_plot.proofs.Curved.{out_of_range}
use Rattle.full_plot.proofs.LinesAlong.{core_stopped}
use Rattle.full_plot.proofs.plotter.FullPlotter.pen_at.Goals as goal

pub returns-in_err-begin-clause-runs : goal.returns-in_err-begin-clause-runs
returns-in_err-begin-clause-runs c =
    let w = seen c.args.self.now in
    let q = c.place_of-place.result in
    let e : q ≡ (curve_pen w c.args.is_relative c.args.point).place =
    c.place_of-place.ensures ∙ ap (λ (u : Spot). place w.core.page w.core.state.frame u) c.target-coordinates.ensures.value in
    subst (λ (p : Spot). Runs (if_in_range w.core.range (p ∷ []) (Some w)) w c.from_residual.result) e
    (core_stopped ⊤ (core.travelled w.core true (q ∷ [])) (if_in_range w.core.range (q ∷ []) (Some w)) w.core w c.in_err-begin.field-0.0 c.from_residual.result
    (out_of_range w q) (c.in_err-begin.ensures.runs true) c.from_residual.ensures.1)
