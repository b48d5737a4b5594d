-- The rounding at some fractions, where a half is rounded up on both sides of 0, and square roots, rounded down.
use Rattle.std.proofs.Common.{◌≡◌, ◌∷◌, [], ◌^◌, ◌*◌, ◌+◌, ◌-◌, refl, pos, negsuc}
use Rattle.exact.specs.Fraction.{round, quotient, floor, whole}
use Rattle.exact.proofs.Tables.{Table}
use Rattle.exact.specs.Roots.{root, root_by}

-- fractions, rounded
roundings : Table round (
    (quotient (pos 5) (pos 2), pos 3)  -- two and a half
    ∷ (quotient (negsuc 4) (pos 2), negsuc 1)  -- a half below 0
    ∷ (quotient (pos 2) (pos 3), pos 1)  -- two thirds
    ∷ (quotient (pos 1) (pos 3), pos 0)  -- one third
    ∷ (quotient (negsuc 0) (pos 3), pos 0)  -- minus one third
    ∷ (quotient (pos 5) (negsuc 1), negsuc 1)  -- a negative divisor gives its sign to the other number
    ∷ (whole (negsuc 6), negsuc 6)  -- a whole number
    ∷ (quotient (pos 56000000) (pos 1000000), pos 56)  -- 3.5 plotter units, from millionths to grains
    ∷ (quotient (pos 16) (pos 1000000), pos 0)  -- a millionth of a plotter unit
    ∷ (quotient (pos 500000) (pos 1000000), pos 1)  -- 1/32 of a plotter unit
    ∷ [])
roundings = refl

floor_below_zero : floor (quotient (negsuc 0) (pos 2)) ≡ negsuc 0
floor_below_zero = refl

floor_above_zero : floor (quotient (pos 7) (pos 2)) ≡ pos 3
floor_above_zero = refl

-- square roots, rounded down
roots : Table root (
    (0, 0)
    ∷ (3, 1)
    ∷ (4, 2)
    ∷ (2 ^ 24 * (300 * 300 + 400 * 400), 4096 * 500)  -- the diagonal of a rectangle of 300 by 400, in 4096ths
    ∷ (2000000, 1414)  -- the root of 2, in thousandths
    ∷ (2 ^ 128 - 1, 2 ^ 64 - 1)  -- the greatest number
    ∷ [])
unfolding root_by
roots = refl
