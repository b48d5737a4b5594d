use Rattle.std.proofs.Common.{◌≡◌, ◌∙◌, ◌∷◌, ℕ, Bool, true, List, Option, Some, None, ap, subst, sym}
use Rattle.std.specs.Prelude.{if◌then◌else◌}
use Rattle.exact.specs.declared.spot.Spot.{Spot}
use Rattle.hpgl_plot.specs.Strokes.{are_in_range}
use Rattle.full_plot.specs.Machine.{seen, Runs}
use Rattle.full_plot.specs.Polygons.{figure_kept, only_figure, with_buffer}
use Rattle.full_plot.specs.Worlds.{FullWorld}
use Rattle.full_plot.proofs.LinesAlong.{along_in, along_keeps}
use Rattle.full_plot.proofs.plotter.FullPlotter.draw_figure.Goals as goal

pub returns : goal.returns
returns c =
    let w = seen c.args.self.now in
    let v = seen c.draw_along.new.self in
    let places : List Spot = c.args.start ∷ c.args.places.now in
    let drawn = c.in_ok-draw_along.ensures in
    let inside : are_in_range v.core.range places ≡ true =
    ap (λ (n : ℕ). are_in_range n places) (along_keeps w v true places drawn).range_is ∙ along_in w v true places drawn in
    let kept : figure_kept v places ≡ Some (record v { buffer = only_figure places }) =
    ap (λ (b : Bool). if b then Some (record v { buffer = only_figure places }) else None) inside in
    subst (λ (o : Option FullWorld). Runs o (seen c.keep_figure.new.self) c.keep_figure.result)
    (kept ∙ sym (ap (λ (o : Option FullWorld). with_buffer (only_figure places) o) drawn))
    c.keep_figure.ensures
