-- What the laws say of runs.
use Rattle.std.specs.Prelude.{◌≡◌, ◌≤◌, ◌⊎◌, List, [], ◌∷◌, ◌++◌, length, map, MatchOption, is_some, true, false, if◌then◌else◌}
use Rattle.areas.specs.Shapes.{Shape, stroke_shape}
use Rattle.plot_page.specs.Segments.{Segment}
use Rattle.stroke_runs.specs.declared.runs.TheConstants.{MOST_IN_RUN}
use Rattle.stroke_runs.specs.Drawn.{is_alike}

-- runs one after another
abbrev pub joined : List (List Segment) → List Segment
joined [] = []
joined (run ∷ runs) = run ++ joined runs

-- each of these strokes is drawn as the one before it, and the first one as `last`
abbrev pub AreAlike : Segment → List Segment → Type 0
AreAlike last [] = Unit {0}
AreAlike last (s ∷ ss) = (is_alike last s ≡ true) × AreAlike s ss

-- at least one stroke, at most 1,000, and all are drawn in one way
abbrev pub IsRun : List Segment → Type 0
IsRun [] = ⊥
IsRun (s ∷ ss) = (length (s ∷ ss) ≤ MOST_IN_RUN) × AreAlike s ss

abbrev pub AreRuns : List (List Segment) → Type 0
AreRuns [] = Unit {0}
AreRuns (run ∷ runs) = IsRun run × AreRuns runs

-- the last of a stroke and those after it
abbrev pub last_of : Segment → List Segment → Segment
last_of last [] = last
last_of last (s ∷ ss) = last_of s ss

-- the second run does not go on the first one: it is drawn in another way, or the first one is full
abbrev pub IsCut : List Segment → List Segment → Type 0
IsCut (s ∷ ss) (t ∷ ts) = (length (s ∷ ss) ≡ MOST_IN_RUN) ⊎ (is_alike (last_of s ss) t ≡ false)
IsCut _ _ = ⊥

-- each run after the first does not go on the one before it
abbrev pub AreGreatest : List (List Segment) → Type 0
AreGreatest [] = Unit {0}
AreGreatest (run ∷ []) = Unit {0}
AreGreatest (run ∷ other ∷ runs) = IsCut run other × AreGreatest (other ∷ runs)

-- a run as the shapes that it has: an area, or strokes
abbrev pub split : Shape → List Shape
split run = if is_some run.rule then run ∷ [] else map stroke_shape run.strokes

-- an area, or a run of strokes
abbrev pub IsShapeRun : Shape → Type 0
IsShapeRun run = MatchOption run.rule (IsRun run.strokes) (λ rule. Unit {0})
