-- The steps of UC: its moves, and the way on.
use Rattle.std.proofs.Common.{◌≡◌, ◌∙◌, ◌≤◌, ap, refl, arith, ℤ, List, [], ◌∷◌, ◌++◌, length, map, Option, Some, None}
use Rattle.full_settings.specs.UserMoves.{user_moves}
use Rattle.full_plot.specs.Items.{character_steps}
use Rattle.full_plot.specs.Machine.{FullStep, UserEnd, UserMoveBy, run}
use Rattle.full_plot.specs.UserCharacters.{user_ended}
use Rattle.full_plot.specs.Worlds.{FullWorld, full_followed}
use Rattle.full_plot.proofs.FullRuns.{run-append}

pub steps_are : (ns : List ℤ) → 1 ≤ length ns → character_steps ns ≡ map UserMoveBy (user_moves ns) ++ UserEnd ∷ []
steps_are [] h = absurd (omega (arith, h))
steps_are (n ∷ ns) h = refl

one_alone : (o : Option FullWorld) → full_followed o (λ (u : FullWorld). Some u) ≡ o
one_alone None = refl
one_alone (Some w) = refl

-- after the moves only the way on is left
pub moved_then : (w v : FullWorld) (ss : List FullStep) → run w ss ≡ Some v → run w (ss ++ UserEnd ∷ []) ≡ user_ended v
moved_then w v ss h =
    run-append w ss (UserEnd ∷ []) ∙ ap (λ (o : Option FullWorld). full_followed o (λ (u : FullWorld). run u (UserEnd ∷ []))) h ∙ one_alone (user_ended v)
