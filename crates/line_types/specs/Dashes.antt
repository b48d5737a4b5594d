-- The dashes of a line by a pattern that is repeated along it. A dash is the pair of its ends, in grains. A dot is a
-- dash whose ends are one place. Distances are in ticks, and count from the start of the first repetition, which may
-- be before the line's start.
use Rattle.std.specs.Prelude.{ℕ, ◌+◌, ◌-◌, ◌*◌, ◌/◌, min, max, List, [], ◌∷◌, ◌++◌, length, sum, nat_eq, nat_lt, nat_le}
use Rattle.std.specs.Prelude.{◌&&◌, if◌then◌else◌, slice_index_or}
use Rattle.std.specs.List.{range_with_len, flat_map}
use Rattle.exact.specs.declared.spot.Spot.{Spot}
use Rattle.line_types.specs.Lines.{long_of, spot_at}
use Rattle.line_types.specs.Patterns.{start_of, drawn_gaps, nearest_quotient}

-- a line that begins at the distance `start` and is `long` ticks long
pub record Stretch : Type 0 where
  pub from : Spot
  pub to : Spot
  pub long : ℕ
  pub start : ℕ

-- the place on the line at a distance
abbrev pub spot_of : Stretch → ℕ → Spot
spot_of stretch s = spot_at stretch.from stretch.to stretch.long (s - stretch.start)

-- a dot, if its distance is on the line and before the line's end
abbrev pub dot_at : Stretch → ℕ → List (Spot × Spot)
dot_at stretch s =
    if nat_le stretch.start s && nat_lt s (stretch.start + stretch.long) then (spot_of stretch s, spot_of stretch s) ∷ [] else []

-- what is drawn from one distance to another, if the first is less
abbrev pub part : Stretch → ℕ → ℕ → List (Spot × Spot)
part stretch s e = if nat_lt s e then (spot_of stretch s, spot_of stretch e) ∷ [] else []

-- the dash from s to e, cut to the line; a dot if s is e
abbrev pub dash : Stretch → ℕ → ℕ → List (Spot × Spot)
dash stretch s e =
    if nat_eq s e then dot_at stretch s else part stretch (max s stretch.start) (min e (stretch.start + stretch.long))

-- the dashes of the first n repetitions of a pattern: those of the drawn gaps of each, in order. In repetition r,
-- `distance` gives the distance at which gaps of a sum s end.
abbrev pub dashes_along : (ℕ → ℕ → ℕ) → List ℕ → Stretch → ℕ → List (Spot × Spot)
dashes_along distance gaps stretch n =
    flat_map (λ r. flat_map (λ j. dash stretch (distance r (start_of gaps j)) (distance r (start_of gaps (j + 1))))
    (drawn_gaps (length gaps)))
    (range_with_len 0 n)

-- a fixed pattern has its length in each repetition
abbrev pub fixed_distance : ℕ → ℕ → ℕ → ℕ → ℕ
fixed_distance pattern_length total r s = r * pattern_length + nearest_quotient (pattern_length * s) total

-- the line begins `phase` ticks after the start of the first repetition, and ends in the last one
abbrev pub fixed_dashes : List ℕ → ℕ → ℕ → Spot → Spot → List (Spot × Spot)
fixed_dashes gaps pattern_length phase a b =
    let long = long_of a b in
    dashes_along (fixed_distance pattern_length (sum gaps)) gaps
    (record { from = a; to = b; long = long; start = phase })
    ((long + phase) / pattern_length + 1)

-- how often an adaptive pattern is repeated: as often as its length is in the line's, rounded up
abbrev pub repetitions : ℕ → ℕ → ℕ
repetitions pattern_length long = (long + pattern_length - 1) / pattern_length

-- an adaptive pattern is shortened, so that a whole number of repetitions fill the line
abbrev pub adaptive_distance : ℕ → ℕ → ℕ → ℕ → ℕ → ℕ
adaptive_distance long count total r s = nearest_quotient (long * (r * total + s)) (count * total)

-- a line begins and ends as its pattern begins: with a dot, if the first gap is 0
abbrev pub last_dot : List ℕ → Spot → List (Spot × Spot)
last_dot gaps b = if nat_eq (slice_index_or gaps 0 1) 0 then (b, b) ∷ [] else []

abbrev pub adaptive_dashes : List ℕ → ℕ → Spot → Spot → List (Spot × Spot)
adaptive_dashes gaps pattern_length a b =
    let long = long_of a b in
    let count = repetitions pattern_length long in
    dashes_along (adaptive_distance long count (sum gaps)) gaps
    (record { from = a; to = b; long = long; start = 0 })
    count
    ++ last_dot gaps b
