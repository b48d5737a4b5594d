-- What holds of sines, of the ends of chords and of turns.
use Rattle.std.specs.Prelude.{◌≡◌, ℕ, ◌<◌, ◌*◌, ◌^◌, ℤ, pos, neg_ℤ, nat_abs, ◌+ℤ◌, ◌-ℤ◌}
use Rattle.exact.specs.Fraction.{Fraction}
use Rattle.exact.specs.Rounding.{IsRounded}
use Rattle.exact.specs.declared.spot.Spot.{Spot}
use Rattle.plot_arc.specs.Arcs.{sine_of, vector, turned_x, turned_y, chord_point_of, chords_of, turn_after}

pub record SineSymmetries : Type 0 where
  pub period : (t : ℤ) → sine_of (t +ℤ pos 360000) ≡ sine_of t
  pub odd : (t : ℤ) → sine_of (neg_ℤ t) ≡ neg_ℤ (sine_of t)
  pub mirror : (t : ℤ) → sine_of (pos 180000 -ℤ t) ≡ sine_of t

-- ten-millionths as a fraction
abbrev pub ten_millionths : ℤ → Fraction
ten_millionths z = record { over = z; under = 10 ^ 7 }

-- the way from the centre to the chord's end is the turned vector, rounded once in x and once in y
pub record ChordsAreRounded : Type 0 where
  pub x : (centre from : Spot) (t : ℤ)
      → IsRounded (ten_millionths (turned_x (vector centre from) t)) ((chord_point_of centre from t).x -ℤ centre.x)
  pub y : (centre from : Spot) (t : ℤ)
      → IsRounded (ten_millionths (turned_y (vector centre from) t)) ((chord_point_of centre from t).y -ℤ centre.y)

-- no turn leaves the point in its place, and turns by 360 degrees more or less lead to the same point
pub record WholeTurnsLeadBack : Type 0 where
  pub none : (centre from : Spot) → chord_point_of centre from (pos 0) ≡ from
  pub period : (centre from : Spot) (t : ℤ)
      → chord_point_of centre from (t +ℤ pos 360000) ≡ chord_point_of centre from t

pub record LastTurnIsSweep : Type 0 where
  pub last : (chord : ℕ) (sweep : ℤ) → 0 < chord → turn_after chord sweep (chords_of chord sweep) ≡ sweep
  pub before : (chord : ℕ) (sweep : ℤ) (k : ℕ)
      → 0 < chord → 0 < k → k < chords_of chord sweep → k * chord < nat_abs sweep
