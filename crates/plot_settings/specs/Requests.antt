-- What an instruction asks for by its numbers, as the code has it: its meaning, and that it is in its range.
use Rattle.std.specs.Prelude.{ℤ, List, [], ◌∷◌, Some, true, false, ⊤}
use Rattle.plot_settings.specs.Bounds.{IsSetting, IsCorner, IsCircle, IsArc}
use Rattle.plot_settings.specs.Meanings.{Meaning, wrong, sets, plots, edges, asks, Step, Lower, Relate, DrawCircle}
use Rattle.plot_settings.specs.Meanings.{DrawArc, moves}
use Rattle.plot_settings.specs.Meanings.{lowered_then}
use Rattle.plot_settings.specs.declared.request.Request.{Request}
use Rattle.plot_settings.specs.declared.request.Request.TheVariants.{Set, Move, Edge, Circle, Arc, Wrong}
use Rattle.hpgl_text.specs.declared.moves.Moves.{Moves}
use Rattle.hpgl_text.specs.declared.moves.Moves.TheVariants.{Up, Down, Absolute, Relative}

-- the steps of PU, PD, PA and PR
abbrev pub move_steps : Moves → List ℤ → List Step
move_steps Up ns = Lower false ∷ moves ns
move_steps Down ns = lowered_then (moves ns)
move_steps Absolute ns = Relate false ∷ moves ns
move_steps Relative ns = Relate true ∷ moves ns

-- what is asked for of an instruction with these numbers
abbrev pub request_meaning : Request → List ℤ → Meaning
request_meaning (Set setting) ns = sets (Some setting)
request_meaning (Move kind) ns = plots (move_steps kind ns) ns
request_meaning (Edge relative corner) ns = edges relative (corner.x ∷ (corner.y ∷ []))
request_meaning (Circle circle) ns = asks DrawCircle (Some circle)
request_meaning (Arc relative arc) ns = asks (DrawArc relative) (Some arc)
request_meaning Wrong ns = wrong

abbrev pub IsRequest : Request → Type 0
IsRequest (Set setting) = IsSetting setting
IsRequest (Edge relative corner) = IsCorner corner
IsRequest (Circle circle) = IsCircle circle
IsRequest (Arc relative arc) = IsArc arc
IsRequest _ = ⊤
