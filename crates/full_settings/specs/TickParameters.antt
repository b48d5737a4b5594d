-- What the numbers of TL (Tick Length) set, or None if they are wrong. Numbers are in millionths, and those after the
-- last that TL has are ignored.
use Rattle.std.specs.Prelude.{◌^◌, ◌≤◌, ℤ, pos, nat_abs, ◌&&◌, List, [], ◌∷◌, Option, Some}
use Rattle.plot_settings.specs.Parameters.{when}
use Rattle.full_settings.specs.Percentages.{is_percentage}
use Rattle.full_settings.specs.declared.tick_length.TickLength.{TickLength}

abbrev pub ticks : ℤ → ℤ → TickLength
ticks up down = record { up = up; down = down }

-- 0.5 percent up, and as much down
abbrev pub usual_ticks : TickLength
usual_ticks = ticks (pos 500000) (pos 500000)

-- TL up, down: percentages of the distances from P1 to P2; if only one is named, no part of a tick leads down
abbrev pub tick_length : List ℤ → Option TickLength
tick_length [] = Some usual_ticks
tick_length (u ∷ []) = when (is_percentage u) (ticks u (pos 0))
tick_length (u ∷ (d ∷ ns)) = when (is_percentage u && is_percentage d) (ticks u d)

pub record IsTickLength (length : TickLength) : Type 0 where
  pub up_in : nat_abs length.up ≤ 10 ^ 9
  pub down_in : nat_abs length.down ≤ 10 ^ 9
