use Rattle.std.proofs.Common.{◌≡◌, ◌∙◌, ℕ, max, ap, arith}
use Rattle.dxf.specs.Forms.{crossed, square}
use Rattle.dxf.proofs.Heights.{cross_in}
use Rattle.dxf.proofs.forms.height_of.Goals as goal

pub square_over-requires-clause-few : goal.square_over-requires-clause-few
square_over-requires-clause-few c =
    let u = c.args.u in
    let v = c.args.v in
    let size : c.from.result ≡ crossed u v = c.from.ensures ∙ c.crossed-crossed.ensures.value in
    let most : c.max.result ≡ max (square u) 1 = c.max.ensures ∙ ap (λ (n : ℕ). max n 1) c.square.ensures.value in
    rw (size, most) (cross_in u.x u.y v.x v.y (omega (arith, c.requires.vx)) (omega (arith, c.requires.vy)))
