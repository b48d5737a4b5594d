-- What holds of frames and of their lines, on each axis.
use Rattle.std.specs.Prelude.{◌≡◌, ℕ, ◌<◌, ℤ}
use Rattle.exact.specs.Fraction.{Fraction, whole}
use Rattle.exact.specs.Rounding.{SameNumber}
use Rattle.plot_frame.specs.declared.pair.AxisName.{AxisName}
use Rattle.plot_frame.specs.declared.pair.Pair.{Pair}
use Rattle.plot_frame.specs.declared.scaling.Ends.{Ends}
use Rattle.plot_frame.specs.declared.scaling.Scaling.{Scaling}
use Rattle.plot_frame.specs.Frame.{axis_units, grains, coordinate, solved}
use Rattle.plot_frame.specs.Line.{place, back, axis_line}
use Rattle.plot_frame.specs.Bounds.{IsPoints, IsScaling}

-- the line's place is the frame's
abbrev pub LineIsFrame : Type 0
LineIsFrame = (n : AxisName) (p : Pair Ends) (s : Scaling) (u : ℤ) (margin : ℕ)
    → IsPoints p → IsScaling s → grains (axis_units n p s (whole u)) margin ≡ place (axis_line n p s margin) u

-- the line's coordinate is the frame's
abbrev pub BackSolves : Type 0
BackSolves = (n : AxisName) (p : Pair Ends) (s : Scaling) (q : ℤ) (margin : ℕ)
    → IsPoints p → IsScaling s → coordinate (axis_units n p s) q margin ≡ back (axis_line n p s margin) q

-- X(u) is x for the solution
abbrev pub IsSolution : (Fraction → Fraction) → Fraction → Type 0
IsSolution at x = SameNumber (at (solved at x)) x

-- and for no other number
abbrev pub IsOnlySolution : (Fraction → Fraction) → Fraction → Type 0
IsOnlySolution at x = (u : Fraction) → 0 < u.under → SameNumber (at u) x → SameNumber u (solved at x)

abbrev pub SolvedIsSolution : Type 0
SolvedIsSolution = (n : AxisName) (p : Pair Ends) (s : Scaling) (x : Fraction)
    → IsPoints p → IsScaling s → 0 < x.under → IsSolution (axis_units n p s) x × IsOnlySolution (axis_units n p s) x
