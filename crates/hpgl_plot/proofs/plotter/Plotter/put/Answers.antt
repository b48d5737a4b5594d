use Rattle.std.proofs.Common.{◌∷◌, [], true}
use Rattle.hpgl_plot.specs.Paths.{pen_placed}
use Rattle.hpgl_plot.specs.Machine.{seen, travelled, put_at}
use Rattle.hpgl_plot.proofs.Fed.{travelled_one}
use Rattle.hpgl_plot.proofs.Letters.{put_out, put_there}
use Rattle.hpgl_plot.proofs.Travels.{stopped}
use Rattle.hpgl_plot.proofs.plotter.Plotter.put.Goals as goal

pub returns-in_err-begin : goal.returns-in_err-begin
returns-in_err-begin c =
    let w = seen c.args.self.now in
    let q = c.args.place in
    stopped (travelled w true (q ∷ [])) (put_at w (pen_placed w.page w.state.frame q)) w w c.in_err-begin.field-0.0 c.from_residual.result
    (put_out w q) (c.in_err-begin.ensures.runs true) c.from_residual.ensures.1

pub returns : goal.returns
returns c =
    let w = seen c.args.self.now in
    let q = c.args.place in
    put_there w (seen c.set_position.new.self) q c.coordinates_at-coordinates.result c.coordinates_at-coordinates.ensures.value
    (travelled_one w true q c.in_ok-begin.ensures.in_range) c.set_position.ensures
