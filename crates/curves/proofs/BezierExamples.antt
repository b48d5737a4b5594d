-- Bezier curves: theorems that compute.
use Rattle.std.proofs.Common.{◌≡◌, ◌^◌, [], ◌∷◌, refl, pos, negsuc}
use Rattle.exact.proofs.Tables.{Table, at}
use Rattle.curves.specs.Beziers.{chords_of_bend, greatest_bend, curve_place, bezier_places}

-- bends on both sides of a change of the number of chords
numbers_of_chords : Table chords_of_bend (
    (256, 4)
    ∷ (257, 8)
    ∷ (262144, 128)
    ∷ (262145, 256)
    ∷ (2 ^ 29, 256)  -- the greatest bend
    ∷ [])
unfolding chords_of_bend
numbers_of_chords = refl

-- a bow: its bend is 128 at both control points, in x
bow_bend : greatest_bend (at (pos 0) (pos 0)) (at (pos 0) (pos 64)) (at (pos 128) (pos 64)) (at (pos 128) (pos 0)) ≡ 128
bow_bend = refl

bow : bezier_places (at (pos 0) (pos 0)) (at (pos 0) (pos 64)) (at (pos 128) (pos 64)) (at (pos 128) (pos 0))
    ≡ at (pos 20) (pos 36) ∷ at (pos 64) (pos 48) ∷ at (pos 108) (pos 36) ∷ at (pos 128) (pos 0) ∷ []
unfolding chords_of_bend curve_place
bow = refl

-- a straight line in four parts, each place rounded
straight : bezier_places (at (pos 0) (pos 0)) (at (pos 100) (pos 0)) (at (pos 200) (pos 0)) (at (pos 301) (pos 0))
    ≡ at (pos 75) (pos 0) ∷ at (pos 150) (pos 0) ∷ at (pos 225) (pos 0) ∷ at (pos 301) (pos 0) ∷ []
unfolding chords_of_bend curve_place
straight = refl

-- halves are rounded up, on both sides of 0
halves : curve_place 2 1 (at (pos 4) (negsuc 3)) (at (pos 0) (pos 0)) (at (pos 0) (pos 0)) (at (pos 0) (pos 0)) ≡ at (pos 1) (pos 0)
unfolding curve_place
halves = refl
