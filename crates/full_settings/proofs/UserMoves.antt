-- How the moves of UC are taken one at a time.
use Rattle.std.proofs.Common.{◌≡◌, refl, ℤ, Bool, true, false, List, [], ◌∷◌}
use Rattle.exact.specs.declared.spot.Spot.{Spot}
use Rattle.full_settings.specs.UserMoves.{are_user_moves, is_of_pen, lowers, moved_on, moves_from, user_move}

pub pen_passed : (x : ℤ) (ns : List ℤ) → is_of_pen x ≡ true → are_user_moves (x ∷ ns) ≡ are_user_moves ns
pen_passed x [] h = h
pen_passed x (y ∷ ns) h = rw h refl

pub pair_passed : (x y : ℤ) (ns : List ℤ) → is_of_pen x ≡ false → are_user_moves (x ∷ (y ∷ ns)) ≡ are_user_moves ns
pair_passed x y ns h = rw h refl

pub by_pen : (is_down : Bool) (at : Spot) (x : ℤ) (ns : List ℤ) → is_of_pen x ≡ true → moves_from is_down at (x ∷ ns) ≡ moves_from (lowers x) at ns
by_pen is_down at x [] h = refl
by_pen is_down at x (y ∷ ns) h = rw h refl

pub by_pair : (is_down : Bool) (at : Spot) (x y : ℤ) (ns : List ℤ) → is_of_pen x ≡ false
    → moves_from is_down at (x ∷ (y ∷ ns)) ≡ user_move is_down at x y ∷ moves_from is_down (moved_on at x y) ns
by_pair is_down at x y ns h = rw h refl
