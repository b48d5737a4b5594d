use Rattle.std.proofs.Common.{◌≡◌, ◌^◌, false, refl, arith, ℤ, pos, ◌*ℤ◌}
use Rattle.exact.specs.declared.spot.Spot.{Spot}
use Rattle.directions.specs.Directions.{vector_turned}
use Rattle.directions.specs.declared.turn.Turn.TheVariants.{Half}
use Rattle.curves.specs.Arcs.{whole_circle}
use Rattle.curves.specs.Vectors.{turned_against, unit_of}
use Rattle.curves.specs.declared.circle.Circle.{Circle}
use Rattle.curves.proofs.Products.{multiple}
use Rattle.curves.proofs.circle.Circle.whole.Goals as goal

whole_is : (a b v f l : Spot) (x y : ℤ) → v ≡ turned_against false b → f ≡ unit_of v → l ≡ vector_turned Half f → x ≡ pos 128 *ℤ b.x → y ≡ pos 128 *ℤ b.y
    → ◌≡◌ {A = Circle} (record { start = a; centre = record { x = x; y = y }; clockwise = false; first = f; last = l }) (whole_circle a b)
unfolding whole_circle
whole_is a b v f l x y e g h i j = rw (h, g, e, i, j) refl

pub returns-clause-value : goal.returns-clause-value
returns-clause-value c =
    let m = multiple 128 (2 ^ 28) c.args.b.x (omega arith) c.requires.b_in.x_in (omega arith) in
    let n = multiple 128 (2 ^ 28) c.args.b.y (omega arith) c.requires.b_in.y_in (omega arith) in
    whole_is c.args.a c.args.b _ _ _ _ _ c.turned_against.ensures c.unit_of-first.ensures.value c.turned.ensures m.back n.back
