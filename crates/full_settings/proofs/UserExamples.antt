-- The moves of UC, in millionths.
use Rattle.std.proofs.Common.{◌≡◌, List, [], ◌∷◌, refl, ℤ, pos, negsuc, Bool, true, false}
use Rattle.exact.proofs.Tables.{at, Table}
use Rattle.full_settings.specs.UserMoves.{are_user_moves, user_moves}
use Rattle.full_settings.specs.declared.user_moves.UserMove.{UserMove}

abbrev moved : Bool → ℤ → ℤ → ℤ → ℤ → UserMove
moved is_drawn ax ay bx by = record { is_drawn = is_drawn; from = at ax ay; to = at bx by }

moves : Table user_moves (
    ([], [])
    ∷ (pos 1000000 ∷ pos 2000000 ∷ [], moved false (pos 0) (pos 0) (pos 1000000) (pos 2000000) ∷ [])  -- the pen is up at first
    ∷ (pos 99000000 ∷ pos 5 ∷ negsuc 6 ∷ pos 3 ∷ pos 0 ∷ [], moved true (pos 0) (pos 0) (pos 5) (negsuc 6) ∷ moved true (pos 5) (negsuc 6) (pos 8) (negsuc 6) ∷ [])  -- down
    ∷ (pos 98999999 ∷ pos 99000000 ∷ [], moved false (pos 0) (pos 0) (pos 98999999) (pos 99000000) ∷ [])  -- the second of a pair is no pen
    ∷ (pos 100000000 ∷ negsuc 98999999 ∷ pos 1 ∷ pos 1 ∷ [], moved false (pos 0) (pos 0) (pos 1) (pos 1) ∷ [])  -- down and up again
    ∷ (negsuc 98999998 ∷ pos 1 ∷ pos 7 ∷ [], moved false (pos 0) (pos 0) (negsuc 98999998) (pos 1) ∷ [])  -- above -99; a number alone
    ∷ (pos 7 ∷ [], [])
    ∷ [])
moves = refl

whole_ones : Table are_user_moves (
    ([], true)
    ∷ (pos 99000000 ∷ [], true)
    ∷ (pos 1 ∷ [], false)
    ∷ (pos 1 ∷ pos 99000000 ∷ [], true)
    ∷ (pos 1 ∷ pos 2 ∷ pos 99000000 ∷ pos 3 ∷ [], false)
    ∷ [])
whole_ones = refl
