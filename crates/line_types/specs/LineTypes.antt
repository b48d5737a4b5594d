-- What each line type draws of a line, and where a pattern goes on.
use Rattle.std.specs.Prelude.{ℕ, ◌+◌, ◌%◌, List, [], ◌∷◌, nat_eq, if◌then◌else◌, Option, Some, None}
use Rattle.exact.specs.Spots.{is_same_spot}
use Rattle.exact.specs.declared.spot.Spot.{Spot}
use Rattle.line_types.specs.declared.line_type.LineType.{LineType}
use Rattle.line_types.specs.declared.line_type.LineType.TheVariants as line_type
use Rattle.line_types.specs.declared.run.Run.{Run}
use Rattle.line_types.specs.Lines.{long_of}
use Rattle.line_types.specs.Dashes.{fixed_dashes, adaptive_dashes}

-- a line type as contracts see it: a pattern is its gaps, with its length
pub data LineShape : Type 0 where
  Solid : LineShape
  EndDot : LineShape
  Fixed : List ℕ → ℕ → LineShape
  Adaptive : List ℕ → ℕ → LineShape

abbrev pub line_shape : LineType → LineShape
line_shape line_type.Solid = Solid
line_shape line_type.EndDot = EndDot
line_shape (line_type.Fixed gaps l) = Fixed gaps l.ticks
line_shape (line_type.Adaptive gaps l) = Adaptive gaps l.ticks

-- how far a fixed pattern of this length has gone when a line begins at a place: as far as the run, if it ended there
abbrev pub phase_at : Option Run → Spot → ℕ → ℕ
phase_at None a pattern_length = 0
phase_at (Some run) a pattern_length = if is_same_spot run.end a then run.phase % pattern_length else 0

-- how far it has gone when a line from a to b ends
abbrev pub phase_after : Option Run → Spot → Spot → ℕ → ℕ
phase_after run a b pattern_length = (phase_at run a pattern_length + long_of a b) % pattern_length

-- a line of no length is one dot
abbrev pub whole_or : List (Spot × Spot) → Spot → Spot → List (Spot × Spot)
whole_or dashes a b = if nat_eq (long_of a b) 0 then (a, b) ∷ [] else dashes

-- what is drawn of a line from a to b
abbrev pub dashes_of : LineShape → Option Run → Spot → Spot → List (Spot × Spot)
dashes_of Solid run a b = (a, b) ∷ []
dashes_of EndDot run a b = (b, b) ∷ []
dashes_of (Fixed gaps ticks) run a b = whole_or (fixed_dashes gaps ticks (phase_at run a ticks) a b) a b
dashes_of (Adaptive gaps ticks) run a b = whole_or (adaptive_dashes gaps ticks a b) a b

-- the run after a line from a to b: a line of no length leaves it as it was, and so does a type without a pattern
abbrev pub run_or : Option Run → Option Run → Spot → Spot → Option Run
run_or new run a b = if nat_eq (long_of a b) 0 then run else new

abbrev pub run_after : LineShape → Option Run → Spot → Spot → Option Run
run_after Solid run a b = run
run_after EndDot run a b = run
run_after (Fixed gaps ticks) run a b =
    run_or (Some (record { end = b; phase = phase_after run a b ticks })) run a b
run_after (Adaptive gaps ticks) run a b = run_or (Some (record { end = b; phase = 0 })) run a b
