use Rattle.std.proofs.Common.{◌≡◌, ◌∙◌, ◌∷◌, ◌-◌, List, Option, pos, get_or, take, drop, length, subst, rules}
use Rattle.exact.specs.declared.spot.Spot.{Spot}
use Rattle.full_plot.specs.Machine.{seen, Runs}
use Rattle.full_plot.specs.Wedges.{wedge_places}
use Rattle.full_plot.specs.Worlds.{FullWorld}
use Rattle.full_plot.proofs.Curved.{first_and_rest, wedge_is}
use Rattle.full_plot.proofs.plotter.FullPlotter.edge_wedge.Goals as goal

pub returns : goal.returns
returns c =
    let w = seen c.args.self.now in
    let places : List Spot = c.as_slice.result.now in
    let d : Spot = record { x = pos 0; y = pos 0 } in
    let same : places ≡ wedge_places w.core.page w.core.state c.args.wedge = search rules in
    let parts : (get_or places 0 d ∷ take (length places - 1) (drop 1 places)) ≡ places = first_and_rest places d (search rules) in
    subst (λ (o : Option FullWorld). Runs o (seen c.draw_figure.new.self) c.draw_figure.result)
    (wedge_is w c.args.wedge (get_or places 0 d ∷ take (length places - 1) (drop 1 places)) (parts ∙ same)) c.draw_figure.ensures
