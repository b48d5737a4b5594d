use Rattle.std.proofs.Common.{refl, not, [], ◌∷◌}
use Rattle.plot_settings.specs.Meanings.{Touch}
use Rattle.hpgl_plot.specs.Machine.{seen}
use Rattle.hpgl_plot.specs.Paths.{position}
use Rattle.hpgl_plot.proofs.Travels.{Line, still_runs}
use Rattle.hpgl_plot.proofs.plotter.Plotter.touch.Goals as goal

pub returns : goal.returns
returns c =
    let w = seen c.args.self.now in
    let s = w.state in
    let p : Line = record { places = s.place ∷ (s.place ∷ []); draws = not s.is_down; ends = position s } in
    still_runs w (seen c.travel_to.new.self) Touch p c.travel_to.result refl refl c.travel_to.ensures
