use Rattle.std.proofs.Common.{◌≡◌, ◌∙◌, ◌&&◌, Bool, true, ap, refl, sym, rules}
use mir.Syntax.{w32}
use mir.Val.{SFits}
use Rattle.std.proofs.lemmas.Int.{to_z-of_z}
use Rattle.turning.specs.Turns.{is_corner_at, spot, turned_place}
use Rattle.turning.proofs.strokes.has_corners.Goals as goal

both : (p q : Bool) → p ≡ true → q ≡ (p && q)
both p q h = rw h refl

pub returns-then-is_corner : goal.returns-then-is_corner
returns-then-is_corner c =
    let w = c.args.window in
    let w0 : SFits w32 w.x0 = search rules in
    let w1 : SFits w32 w.y0 = search rules in
    let w2 : SFits w32 w.x1 = search rules in
    let w3 : SFits w32 w.y1 = search rules in
    let low = simp to_z-of_z at c.turned_place.ensures in
    let high = simp to_z-of_z at c.turned_place-then-is_corner.ensures in
    let on : is_corner_at (turned_place c.args.turn c.args.page.now (spot w.x0 w.y0)) ≡ true =
    sym (c.is_corner.ensures ∙ ap is_corner_at low) ∙ c.if-is_corner.true in
    c.is_corner-then-is_corner.ensures ∙ ap is_corner_at high ∙ both _ _ on
