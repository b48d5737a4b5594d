use Rattle.std.proofs.Common.{rules, ◌≡◌, ◌∙◌, ap, ◌+ℤ◌, FitsSigned}
use mir.Syntax.{w8, w64}
use Rattle.std.proofs.lemmas.Int.{to_z-of_z}
use Rattle.exact.specs.declared.spot.Spot.{Spot}
use Rattle.labels.specs.Labels.{place_of}
use Rattle.lettering.specs.Letters.{letter_point}
use Rattle.lettering.proofs.checked.Lettering.grid_place.Goals as goal

pub returns-clause-value : goal.returns-clause-value
returns-clause-value c =
    let start = c.args.start in
    let fits : FitsSigned w8 c.args.point.j = search rules in
    let few : FitsSigned w64 c.args.at.letters = search rules in
    let corner = simp to_z-of_z at c.corner.ensures.value in
    let offset = simp to_z-of_z at c.point-offset.ensures.value in
    c.of.ensures.value
    ∙ ap place_of c.offset_by.ensures
    ∙ ap (λ (q : Spot). place_of (record { x = start.x +ℤ q.x; y = start.y +ℤ q.y })) offset
    ∙ ap (λ (p : Spot). let q = letter_point c.args.self.now.style p c.args.point.i c.args.point.j in
    place_of (record { x = start.x +ℤ q.x; y = start.y +ℤ q.y })) corner
