-- The ranges of a style, which keep the arithmetic in 128 bits, and of the offsets of strokes.
use Rattle.std.specs.Prelude.{ℕ, ◌≡◌, ◌≤◌, ◌%◌, ◌^◌, nat_abs, pos}
use Rattle.exact.specs.declared.spot.Spot.{Spot}
use Rattle.directions.specs.Bounds.{IsWithin}
use Rattle.directions.specs.Directions.{vector_turned}
use Rattle.directions.specs.Laws.{right}
use Rattle.directions.specs.declared.turn.Turn.{Turn}
use Rattle.lettering.specs.declared.style.Style.{Style}

-- the greatest slant, 1000.2 in millionths: 1000, and 0.2 of an italic font
abbrev pub most_slant : ℕ
most_slant = 1000200000

-- the greatest step, 101 in millionths
abbrev pub most_step : ℕ
most_step = 101000000

-- a slant of up to 1000.2 either way, steps of up to 101, and LO's numbers, 1 to 9 and 11 to 19
pub record IsStyle (style : Style) : Type 0 where
  pub width_in : nat_abs style.width ≤ 2 ^ 40
  pub height_in : nat_abs style.height ≤ 2 ^ 40
  pub slant_in : nat_abs style.slant ≤ most_slant
  pub step_x_in : nat_abs style.step_x ≤ most_step
  pub step_y_in : nat_abs style.step_y ≤ most_step
  pub origin_digit : 1 ≤ style.origin % 10
  pub origin_most : style.origin ≤ 19

-- both ends are within 2^95 grains of a label's start
pub record IsStrokeWithin (s : Spot × Spot) : Type 0 where
  pub from_in : IsWithin (2 ^ 95) s.0
  pub to_in : IsWithin (2 ^ 95) s.1

-- a letter of which the points are computed in 64 bits: it is upright, of a usual size, near the label's start, and
-- turned by quarters
pub record IsNear (style : Style) (corner : Spot) (turn : Turn) : Type 0 where
  pub upright : style.slant ≡ pos 0
  pub width_in : nat_abs style.width ≤ 2 ^ 24
  pub height_in : nat_abs style.height ≤ 2 ^ 24
  pub corner_in : IsWithin (2 ^ 35) corner
  pub along : style.direction ≡ vector_turned turn right
