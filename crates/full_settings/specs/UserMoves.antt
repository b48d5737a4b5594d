-- UC numbers (HP-GL/2 guide: User-Defined Character): the moves of a character's own pen, which is up at first and at the
-- point (0, 0). Points and numbers are in millionths of fourths of a letter's width and of eighths of its height.
use Rattle.std.specs.Prelude.{ℤ, pos, ◌+ℤ◌, neg_ℤ, int_le, Bool, true, false, ◌||◌, List, [], ◌∷◌, if◌then◌else◌}
use Rattle.exact.specs.declared.spot.Spot.{Spot}
use Rattle.full_settings.specs.declared.user_moves.UserMove.{UserMove}

-- a number of 99 or more puts the pen down, and one of -99 or less up; any other and the number after it, whatever that
-- is, are a move
abbrev pub lowers : ℤ → Bool
lowers n = int_le (pos 99000000) n

abbrev pub is_of_pen : ℤ → Bool
is_of_pen n = lowers n || int_le n (neg_ℤ (pos 99000000))

abbrev pub moved_on : Spot → ℤ → ℤ → Spot
moved_on at x y = record { x = at.x +ℤ x; y = at.y +ℤ y }

abbrev pub user_move : Bool → Spot → ℤ → ℤ → UserMove
user_move is_down at x y = record { is_drawn = is_down; from = at; to = moved_on at x y }

-- the moves from a point on, with the pen up or down; a last number alone makes none
abbrev pub moves_from : Bool → Spot → List ℤ → List UserMove
moves_from is_down at (x ∷ (y ∷ ns)) =
    if is_of_pen x then moves_from (lowers x) at (y ∷ ns) else
    user_move is_down at x y ∷ moves_from is_down (moved_on at x y) ns
moves_from is_down at _ = []

abbrev pub first_point : Spot
first_point = record { x = pos 0; y = pos 0 }

abbrev pub user_moves : List ℤ → List UserMove
user_moves ns = moves_from false first_point ns

-- no number is left alone
abbrev pub are_user_moves : List ℤ → Bool
are_user_moves (x ∷ (y ∷ ns)) = if is_of_pen x then are_user_moves (y ∷ ns) else are_user_moves ns
are_user_moves (x ∷ []) = is_of_pen x
are_user_moves [] = true
