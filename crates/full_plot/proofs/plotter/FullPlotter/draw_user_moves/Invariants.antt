use Rattle.std.proofs.Common.{◌≡◌, ◌^◌, length, map}
use Rattle.directions.specs.Bounds.{IsWithin}
use Rattle.full_settings.specs.UserMoves.{moves_from, user_moves}
use Rattle.full_plot.specs.Machine.{seen, run, UserMoveBy}
use Rattle.full_plot.proofs.plotter.FullPlotter.draw_user_moves.Given as goal

-- what is left of the moves comes to what all of them come to, and the point is near enough to go on from
abbrev pub invariant-moves : goal.invariant-moves
invariant-moves l = record {
  near : IsWithin (2 ^ 53) l.at;
  same : run (seen l.self) (map UserMoveBy (moves_from l.is_down l.at l.rest)) ≡ run (seen l.fn.self) (map UserMoveBy (user_moves l.fn.numbers));
}

abbrev pub decreases-moves : goal.decreases-moves
decreases-moves l = length l.rest
