use Rattle.std.proofs.Common.{◌≡◌, length}
use Rattle.full_settings.specs.UserMoves as moves
use Rattle.full_settings.proofs.user_moves.are_user_moves.Given as goal

-- whether none of the numbers that are left is alone is whether none of all is
abbrev pub invariant-numbers : goal.invariant-numbers
invariant-numbers l = moves.are_user_moves l.rest ≡ moves.are_user_moves l.fn.numbers

abbrev pub decreases-numbers : goal.decreases-numbers
decreases-numbers l = length l.rest
