use Rattle.std.proofs.Common.{◌∙◌, ◌∷◌, List, Option, true, ap, refl, subst, sym, rules}
use Rattle.exact.specs.declared.spot.Spot.{Spot}
use Rattle.plot_settings.specs.Meanings.{DrawCircle}
use Rattle.hpgl_plot.specs.Machine as core
use Rattle.hpgl_plot.specs.Paths.{along}
use Rattle.full_plot.specs.Machine.{seen, Runs}
use Rattle.full_plot.specs.Worlds.{FullWorld}
use Rattle.full_plot.proofs.LinesAlong.{solid_runs, still_by}
use Rattle.full_plot.proofs.plotter.FullPlotter.circle_along.Goals as goal

pub returns-then-is_solid : goal.returns-then-is_solid
returns-then-is_solid c =
    solid_runs (seen c.args.self.now) (DrawCircle c.args.circle) (core.seen c.circle.new.self) c.circle.result refl (search rules) c.circle.ensures

pub returns : goal.returns
returns c =
    let w = seen c.args.self.now in
    let start = c.in_ok-outline.outline.start in
    let end = c.in_ok-outline.outline.end in
    let places : List Spot = c.as_slice.result.now in
    let path = c.in_ok-outline.ensures.path ∙ ap (λ (qs : List Spot). along (start ∷ qs) true end) (search rules) in
    subst (λ (o : Option FullWorld). Runs o (seen c.draw_along.new.self) c.draw_along.result)
    (sym (still_by w (DrawCircle c.args.circle) true (start ∷ places) end path refl)) c.draw_along.ensures
