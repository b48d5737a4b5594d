-- The patterns of line types (HP-GL/2 guide: LT, UL). A pattern is a list of gaps: the first is drawn, the second is
-- not, the third is drawn, and so on. Only the ratios of the gaps count. A length is in ticks of 1/256 grain.
use Rattle.std.specs.Prelude.{ℕ, ◌+◌, ◌-◌, ◌*◌, ◌%◌, ◌^◌, min, max, List, [], ◌∷◌, take, filter, sum, nat_eq, nat_abs}
use Rattle.std.specs.Prelude.{ℤ, pos, slice_index_or}
use Rattle.std.specs.List.{range_with_len}
use Rattle.exact.specs.Fraction.{quotient, round}
use Rattle.exact.specs.Roots.{root}

-- types 1 to 8, in percent of the pattern's length
abbrev pub fixed_table : List (List ℕ)
fixed_table =
    (0 ∷ 100 ∷ [])
    ∷ (50 ∷ 50 ∷ [])
    ∷ (70 ∷ 30 ∷ [])
    ∷ (80 ∷ 10 ∷ 0 ∷ 10 ∷ [])
    ∷ (70 ∷ 10 ∷ 10 ∷ 10 ∷ [])
    ∷ (50 ∷ 10 ∷ 10 ∷ 10 ∷ 10 ∷ 10 ∷ [])
    ∷ (70 ∷ 10 ∷ 0 ∷ 10 ∷ 0 ∷ 10 ∷ [])
    ∷ (50 ∷ 10 ∷ 0 ∷ 10 ∷ 10 ∷ 10 ∷ 0 ∷ 10 ∷ [])
    ∷ []

-- types -1 to -8
abbrev pub adaptive_table : List (List ℕ)
adaptive_table =
    (0 ∷ 100 ∷ [])
    ∷ (25 ∷ 50 ∷ 25 ∷ [])
    ∷ (35 ∷ 30 ∷ 35 ∷ [])
    ∷ (40 ∷ 10 ∷ 0 ∷ 10 ∷ 40 ∷ [])
    ∷ (35 ∷ 10 ∷ 10 ∷ 10 ∷ 35 ∷ [])
    ∷ (25 ∷ 10 ∷ 10 ∷ 10 ∷ 10 ∷ 10 ∷ 25 ∷ [])
    ∷ (35 ∷ 10 ∷ 0 ∷ 10 ∷ 0 ∷ 10 ∷ 35 ∷ [])
    ∷ (25 ∷ 10 ∷ 0 ∷ 10 ∷ 10 ∷ 10 ∷ 0 ∷ 10 ∷ 25 ∷ [])
    ∷ []

-- the patterns of type n and of type -n, for n from 1 to 8
abbrev pub fixed_gaps : ℕ → List ℕ
fixed_gaps n = slice_index_or fixed_table (n - 1) []

abbrev pub adaptive_gaps : ℕ → List ℕ
adaptive_gaps n = slice_index_or adaptive_table (n - 1) []

-- the sum of the first j gaps: where gap j begins
abbrev pub start_of : List ℕ → ℕ → ℕ
start_of gaps j = sum (take j gaps)

-- of n gaps those that are drawn: gaps 0, 2, 4 and so on
abbrev pub drawn_gaps : ℕ → List ℕ
drawn_gaps n = filter (λ j. nat_eq (j % 2) 0) (range_with_len 0 n)

-- the whole number nearest to a / b
abbrev pub nearest_quotient : ℕ → ℕ → ℕ
nearest_quotient a b = nat_abs (round (quotient (pos a) (pos b)))

-- a pattern is 1 grain to 2^32 grains long
abbrev pub cut_length : ℕ → ℕ
cut_length ticks = max 256 (min ticks (2 ^ 40))

-- the diagonal of P1 and P2, in ticks, by their differences in plotter units, each of 4096 ticks
abbrev pub diagonal_of : ℤ → ℤ → ℕ
diagonal_of d e = root (2 ^ 24 * (nat_abs d * nat_abs d + nat_abs e * nat_abs e))

-- a length in millionths of a percent of the diagonal
abbrev pub length_by_percent : ℕ → ℕ → ℕ
length_by_percent diagonal percent = cut_length (nearest_quotient (diagonal * percent) (100 * 10 ^ 6))

-- a length in millionths of a millimetre, which is 40 plotter units
abbrev pub length_by_millimetres : ℕ → ℕ
length_by_millimetres millimetres = cut_length (nearest_quotient (163840 * millimetres) (10 ^ 6))
