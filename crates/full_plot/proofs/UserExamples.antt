-- The steps of characters by moves, and which points are near enough. Where their lines are is said by worked examples of letters.
use Rattle.std.proofs.Common.{[], ◌∷◌, refl, ℤ, pos, negsuc, Bool, true, false}
use Rattle.exact.proofs.Tables.{at, Table}
use Rattle.full_plot.specs.Items.{character_steps}
use Rattle.full_plot.specs.Machine.{FullStep, UserEnd, UserMoveBy}
use Rattle.full_plot.specs.UserCharacters.{is_near}

abbrev move : Bool → ℤ → ℤ → ℤ → ℤ → FullStep
move is_drawn ax ay bx by = UserMoveBy (record { is_drawn = is_drawn; from = at ax ay; to = at bx by })

steps : Table character_steps (
    ([], [])  -- no numbers
    ∷ (pos 99000000 ∷ [], UserEnd ∷ [])  -- a pen alone
    ∷ (pos 5 ∷ pos 6 ∷ pos 99000000 ∷ pos 4 ∷ negsuc 6 ∷ pos 7 ∷ [], move false (pos 0) (pos 0) (pos 5) (pos 6) ∷ move true (pos 5) (pos 6) (pos 9) (negsuc 0) ∷ UserEnd ∷ [])  -- a number alone
    ∷ [])
steps = refl

near : Table is_near (
    (at (pos 9007199254740992) (negsuc 9007199254740991), true)
    ∷ (at (pos 9007199254740993) (pos 0), false)
    ∷ (at (pos 0) (negsuc 9007199254740992), false)
    ∷ [])
near = refl
