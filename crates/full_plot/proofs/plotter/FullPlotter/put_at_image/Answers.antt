use Rattle.std.proofs.Common.{◌≡◌, ◌∙◌, ap, subst, sym, [], ◌∷◌, Option, Some, None}
use Rattle.std.specs.Prelude.{⊤}
use Rattle.exact.specs.declared.spot.Spot.{Spot}
use Rattle.hpgl_plot.specs.Machine as core
use Rattle.hpgl_plot.specs.Paths.{pen_placed}
use Rattle.full_plot.specs.Commands.{at_image, spot_of}
use Rattle.full_plot.specs.Curves.{arrived, if_in_range}
use Rattle.full_plot.specs.Machine.{seen, Runs}
use Rattle.full_plot.specs.Worlds.{FullWorld}
use Rattle.full_plot.proofs.CarriedPlaces.{arrived_by_put}
use Rattle.full_plot.proofs.LinesAlong.{core_stopped}
use Rattle.full_plot.proofs.plotter.FullPlotter.put_at_image.Goals as goal

-- the pen at a place
abbrev put_at : FullWorld → Spot → Option FullWorld
put_at w q = if_in_range w.core.range (q ∷ []) (Some (arrived (pen_placed w.core.page w.core.state.frame q) w))

pub returns-in_err-put : goal.returns-in_err-put
returns-in_err-put c =
    let w = seen c.args.self.now in
    let q = c.spot_of-place.result in
    let v : FullWorld = record w { core = core.seen c.put.new.self } in
    let same : put_at w q ≡ at_image w = ap (put_at w) (c.spot_of-place.ensures ∙ ap spot_of c.place.ensures) in
    subst (λ (o : Option FullWorld). Runs o v c.from_residual.result) same
    (core_stopped ⊤ (core.put_at w.core (pen_placed w.core.page w.core.state.frame q)) (put_at w q) (core.seen c.put.new.self) v c.in_err-put.field-0.0
    c.from_residual.result (arrived_by_put w q None) c.in_err-put.ensures c.from_residual.ensures.1)

pub returns : goal.returns
returns c =
    let w = seen c.args.self.now in
    let q = c.spot_of-place.result in
    let same : put_at w q ≡ at_image w = ap (put_at w) (c.spot_of-place.ensures ∙ ap spot_of c.place.ensures) in
    sym same ∙ arrived_by_put w q (Some (core.seen c.put.new.self)) c.in_ok-put.ensures
