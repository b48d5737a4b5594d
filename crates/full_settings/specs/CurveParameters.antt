-- What the numbers of AT and RT (Absolute and Relative Arc Three Point), BZ and BR (Bezier Absolute and Relative) ask
-- for, or None if they are wrong. Numbers are in millionths, and those after the last that AT or RT has are ignored.
use Rattle.std.specs.Prelude.{ℤ, ◌%◌, length, nat_eq, nat_lt, Bool, true, ◌&&◌, List, [], ◌∷◌, Option, None}
use Rattle.plot_settings.specs.Parameters.{when, is_chord, thousandths_of}
use Rattle.full_settings.specs.declared.points.ArcPoints.{ArcPoints}
use Rattle.full_settings.specs.declared.points.CurvePoints.{CurvePoints}
use Rattle.full_settings.specs.declared.points.Point.{Point}

abbrev pub point_at : ℤ → ℤ → Point
point_at x y = record { x = x; y = y }

-- the angle of a chord is tested, but not used: that arcs have 64 chords is our choice
abbrev pub is_chord_given : List ℤ → Bool
is_chord_given [] = true
is_chord_given (c ∷ ns) = is_chord (thousandths_of c)

-- AT and RT x, y, x, y, chord: a point on the way, and the end
abbrev pub arc_points : List ℤ → Option ArcPoints
arc_points (a ∷ (b ∷ (c ∷ (d ∷ ns)))) =
    when (is_chord_given ns) (record { through = point_at a b; to = point_at c d })
arc_points _ = None

-- BZ and BR x, y, x, y, x, y, ..: a curve for each six numbers, by two control points and its end; numbers after the
-- last six make none
abbrev pub curve_points : List ℤ → List CurvePoints
curve_points (a ∷ (b ∷ (c ∷ (d ∷ (e ∷ (f ∷ ns)))))) =
    record { first = point_at a b; second = point_at c d; to = point_at e f } ∷ curve_points ns
curve_points _ = []

-- the numbers are those of whole curves, and of at least one
abbrev pub are_curves : List ℤ → Bool
are_curves ns = nat_lt 0 (length ns) && nat_eq (length ns % 6) 0
