use Rattle.std.proofs.Common.{◌≡◌, ◌∙◌, max, arith, refl}
use Rattle.hpgl_plot.proofs.plotter.Plotter.line.Goals as goal

pub returns : goal.returns
returns c =
    let s = c.args.self.now.state in
    let p : max s.pen 1 ≡ max 1 s.pen = omega arith in
    let e : c.max.result ≡ max 1 s.pen = c.max.ensures ∙ p in
    c.line_of_width.ensures ∙ rw (c.width_of-width.ensures.value, e) refl
