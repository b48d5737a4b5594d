-- What a sine is, in whole numbers. For an angle x of 0 to 2 radians, Taylor's polynomials are bounds of its sine:
-- x - x^3/3! + .. - x^15/15! is not above it, and x - x^3/3! + .. + x^13/13! is not below it. Here x is a/b, and all
-- terms are multiplied by 15! * b^15.
use Rattle.std.specs.Prelude.{ℕ, ◌+◌, ◌*◌, ◌^◌, ◌≤◌, Bool, ◌&&◌, nat_lt, IsTrue}
use Rattle.plot_arc.specs.Arcs.{sine_of_degrees}

-- 1
abbrev pub one : ℕ → ℕ
one b = 1307674368000 * b ^ 15

-- the terms that are added, up to x^13/13!
abbrev pub added : ℕ → ℕ → ℕ
added a b = 1307674368000 * a * b ^ 14 + 10897286400 * a ^ 5 * b ^ 10 + 3603600 * a ^ 9 * b ^ 6 + 210 * a ^ 13 * b ^ 2

-- the terms that are subtracted, up to x^11/11!; x^15/15! is a^15
abbrev pub subtracted : ℕ → ℕ → ℕ
subtracted a b = 217945728000 * a ^ 3 * b ^ 12 + 259459200 * a ^ 7 * b ^ 8 + 32760 * a ^ 11 * b ^ 4

-- (2s - 1)/20000 is below the sine of least/b, and (2s + 1)/20000 above the sine of most/b
abbrev pub is_nearest : ℕ → ℕ → ℕ → ℕ → Bool
is_nearest s least most b =
    nat_lt (2 * s * one b + 20000 * (subtracted least b + least ^ 15)) (one b + 20000 * added least b)
    && nat_lt (20000 * added most b) ((2 * s + 1) * one b + 20000 * subtracted most b)

-- d degrees are d*pi/180, and pi is between these two numbers over 10^20
abbrev pub is_sine : ℕ → ℕ → Bool
is_sine d s = is_nearest s (d * 314159265358979323846) (d * 314159265358979323847) (180 * 10 ^ 20)

-- each entry of the table is the number of ten-thousandths that is nearest to the sine
abbrev pub SinesAreNearest : Type 0
SinesAreNearest = (d : ℕ) → d ≤ 90 → IsTrue (is_sine d (sine_of_degrees d))
