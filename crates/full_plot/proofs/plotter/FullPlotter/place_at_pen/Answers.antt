use Rattle.std.proofs.Common.{◌∙◌, ap, sym, true, [], ◌∷◌, Some, None}
use Rattle.std.specs.Prelude.{⊤}
use Rattle.hpgl_plot.specs.Machine as core
use Rattle.raster_graphics.specs.declared.place.Place.{Place}
use Rattle.full_plot.specs.Commands.{at_pen, placed_at, with_machine}
use Rattle.full_plot.specs.Machine.{seen}
use Rattle.full_plot.specs.Worlds.{Graphics}
use Rattle.full_plot.proofs.CarriedPlaces.{in_range_by}
use Rattle.full_plot.proofs.LinesAlong.{core_stopped}
use Rattle.full_plot.proofs.plotter.FullPlotter.place_at_pen.Goals as goal

pub returns-in_err-begin : goal.returns-in_err-begin
returns-in_err-begin c =
    let w = seen c.args.self.now in
    let q = w.core.state.place in
    core_stopped ⊤ (core.travelled w.core true (q ∷ [])) (at_pen w) w.core w c.in_err-begin.field-0.0 c.from_residual.result
    (in_range_by w (with_machine w (placed_at q w.graphics.machine)) q None) (c.in_err-begin.ensures.runs true) c.from_residual.ensures.1

pub returns : goal.returns
returns c =
    let w = seen c.args.self.now in
    let q = w.core.state.place in
    in_range_by w (with_machine w (placed_at q w.graphics.machine)) q (Some w.core) (c.in_ok-begin.ensures.runs true)
    ∙ ap (λ (g : Graphics). Some (record w { graphics = g })) (sym (c.set_place.ensures
    ∙ ap (λ (p : Place). record w.graphics { machine = record w.graphics.machine { place = p } }) c.place_of.ensures))
