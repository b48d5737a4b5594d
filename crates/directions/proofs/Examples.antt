-- Directions of some vectors, and offsets that follow them: theorems that compute.
use Rattle.std.proofs.Common.{◌≡◌, ◌^◌, ◌-◌, ◌∷◌, [], refl, pos, negsuc, neg_ℤ}
use Rattle.exact.specs.Roots.{root_by}
use Rattle.exact.proofs.Tables.{Agree, at}
use Rattle.directions.specs.Directions.{surplus, surplus_of, short_vector, unit, vector_turned, swung}
use Rattle.directions.specs.Laws.{right}
use Rattle.directions.specs.declared.turn.Turn.TheVariants.{Quarter, Half, ThreeQuarters}

-- vectors as long as 2^30, for which long ones are halved until their numbers have 31 binary digits
units : Agree (
    (unit (pos 3) (pos 4), at (pos 644245094) (pos 858993459))  -- 0.6 and 0.8, to the nearest
    ∷ (unit (pos 1) (pos 1), at (pos 759250125) (pos 759250125))  -- the root of one half
    ∷ (unit (negsuc 0) (negsuc 1), at (negsuc 480191941) (negsuc 960383882))  -- to the left and down
    ∷ (unit (pos 0) (negsuc 6), at (pos 0) (neg_ℤ (pos (2 ^ 30))))  -- along an axis
    ∷ (unit (pos (2 ^ 125)) (pos 0), right)  -- far to the right
    ∷ (unit (pos (10 ^ 9)) (pos 1), at (pos (2 ^ 30)) (pos 1))  -- a part that is small beside the other
    ∷ (short_vector (pos (2 ^ 31)) (pos 3), at (pos (2 ^ 30)) (pos 2))  -- halved
    ∷ (short_vector (pos (2 ^ 32 - 1)) (pos 0), at (pos (2 ^ 31)) (pos 0))  -- rounding may give 2^31 itself
    ∷ [])
unfolding root_by surplus
units = refl

-- numbers of 31 binary digits are as they are
as_they_are : surplus_of (pos (2 ^ 31 - 1)) (pos 0) ≡ 0
unfolding surplus
as_they_are = refl

-- vectors turned counterclockwise, and offsets in the direction of a vector
turned : Agree (
    (vector_turned Quarter (at (pos 3) (pos 4)), at (negsuc 3) (pos 3))  -- a quarter
    ∷ (vector_turned Half (at (pos 3) (pos 4)), at (negsuc 2) (negsuc 3))  -- a half
    ∷ (vector_turned ThreeQuarters (at (pos 3) (pos 4)), at (pos 4) (negsuc 2))  -- three quarters
    ∷ (swung (unit (pos 3) (pos 4)) (at (pos 1216) (pos 0)), at (pos 730) (pos 973))  -- a width of 1216 grains, in the direction of 3 to 4
    ∷ (swung (unit (pos 3) (pos 4)) (at (pos 0) (pos 1728)), at (negsuc 1381) (pos 1037))  -- a height of 1728 grains, in the direction of 3 to 4
    ∷ (swung (at (pos (2 ^ 29)) (pos 0)) (at (pos 1) (negsuc 0)), at (pos 1) (pos 0))  -- halves are rounded up
    ∷ [])
unfolding root_by surplus
turned = refl
