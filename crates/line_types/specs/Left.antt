-- The dashes that are left of a line, as code takes them one at a time: it carries the number of the repetition, that
-- of the next drawn gap, and the sum of the gaps before it. `proofs/Lefts.antt` shows that it comes to the definition.
use Rattle.std.specs.Prelude.{◌≡◌, ℕ, ◌+◌, ◌-◌, ◌*◌, ◌%◌, ◌^◌, ◌<◌, ◌≤◌, List, [], ◌++◌, length, sum, filter}
use Rattle.std.specs.Prelude.{nat_eq, nat_lt}
use Rattle.std.specs.Prelude.{if◌then◌else◌, Option, Some, None}
use Rattle.std.specs.List.{range_with_len, flat_map}
use Rattle.std.specs.Option.{option_to_list}
use Rattle.exact.specs.declared.spot.Spot.{Spot}
use Rattle.line_types.specs.declared.repeated.Repeated.{Repeated}
use Rattle.line_types.specs.declared.repeated.Spacing.{Spacing}
use Rattle.line_types.specs.declared.repeated.Spacing.TheVariants.{Even, Fitted}
use Rattle.line_types.specs.Bounds.{IsPattern}
use Rattle.line_types.specs.Lines.{long_of}
use Rattle.line_types.specs.Patterns.{start_of, drawn_gaps}
use Rattle.line_types.specs.Dashes.{Stretch, dash, dashes_along, fixed_distance, adaptive_distance}

-- of n gaps those that are drawn, from gap j on
abbrev pub drawn_from : ℕ → ℕ → List ℕ
drawn_from j n = filter (λ k. nat_eq (k % 2) 0) (range_with_len j (n - j))

-- the pieces of the drawn gaps of n, in the repetitions from r on before the last, from gap j of repetition r on
abbrev pub left_from : {X : Type 0} → (ℕ → ℕ → List X) → ℕ → ℕ → ℕ → ℕ → List X
left_from piece n last r j =
    if nat_lt r last then
    flat_map (piece r) (drawn_from j n)
    ++ flat_map (λ q. flat_map (piece q) (drawn_gaps n)) (range_with_len (r + 1) (last - (r + 1)))
    else []

-- the line of the dashes, and where it begins
abbrev pub stretch_of : Repeated → Stretch
stretch_of m = record { from = m.line.from; to = m.line.to; long = long_of m.line.from m.line.to; start = m.start }

-- the distance at which gaps of a sum s end in repetition r of `count`
abbrev pub distance_by : Spacing → ℕ → ℕ → ℕ → ℕ → ℕ → ℕ
distance_by (Even pattern_length) long count total r s = fixed_distance pattern_length total r s
distance_by Fitted long count total r s = adaptive_distance long count total r s

abbrev pub distance_of : Repeated → ℕ → ℕ → ℕ
distance_of m r s = distance_by m.spacing (long_of m.line.from m.line.to) m.repetitions (sum m.pattern.now) r s

-- what gap j of repetition r draws
abbrev pub gap_dash : Repeated → ℕ → ℕ → List (Spot × Spot)
gap_dash m r j = dash (stretch_of m) (distance_of m r (start_of m.pattern.now j)) (distance_of m r (start_of m.pattern.now (j + 1)))

abbrev pub repeated_left : Repeated → List (Spot × Spot)
repeated_left m = left_from (gap_dash m) (length m.pattern.now) m.repetitions m.repetition m.gap

-- all dashes of n repetitions, the first of which begins `start` ticks before the line
abbrev pub dashes_by : Spacing → List ℕ → Spot → Spot → ℕ → ℕ → List (Spot × Spot)
dashes_by spacing gaps a b start n =
    let long = long_of a b in
    dashes_along (distance_by spacing long n (sum gaps)) gaps
    (record { from = a; to = b; long = long; start = start })
    n

-- n repetitions lie so that their distances are in range
abbrev pub IsSpacing : Spacing → ℕ → Type 0
IsSpacing (Even pattern_length) n = (pattern_length ≤ 2 ^ 40) × (n * pattern_length ≤ 2 ^ 42) × (n ≤ 2 ^ 34)
IsSpacing Fitted n = n ≤ 2 ^ 30

-- all numbers are in their ranges, and the next gap is a drawn one
pub record IsRepeated (m : Repeated) : Type 0 where
  pub above : 0 < long_of m.line.from m.line.to
  pub start_in : m.start < 2 ^ 40
  pub pattern_in : IsPattern m.pattern.now
  pub spacing_in : IsSpacing m.spacing m.repetitions
  pub gap_in : m.gap < length m.pattern.now
  pub gap_drawn : m.gap % 2 ≡ 0
  pub passed_is : m.passed ≡ start_of m.pattern.now m.gap

-- what each step of the loop over gaps makes smaller: a pattern has at most 20 gaps
abbrev pub steps_left : Repeated → ℕ
steps_left m = (m.repetitions - m.repetition) * 32 - m.gap

-- the dashes that are left, and then the last dot
abbrev pub dashes_left : Option Repeated → Option (Spot × Spot) → List (Spot × Spot)
dashes_left None last = option_to_list last
dashes_left (Some repeated) last = repeated_left repeated ++ option_to_list last
