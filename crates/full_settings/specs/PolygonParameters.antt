-- What the numbers of PM (Polygon Mode), FP (Fill Polygon), AC (Anchor Corner), RA and RR (Fill Rectangle Absolute and
-- Relative), EW and WG (Edge and Fill Wedge) and CT (Chord Tolerance Mode) ask for, or None if they are wrong. Numbers
-- are in millionths, and those after the last that an instruction has are ignored.
use Rattle.std.specs.Prelude.{ℕ, ◌≤◌, ◌<◌, ◌^◌, ℤ, pos, negsuc, nat_abs, Bool, true, false, if◌then◌else◌}
use Rattle.std.specs.Prelude.{List, [], ◌∷◌, take, Option, Some, None}
use Rattle.std.specs.Int.{int_max, int_min, int_rem_euclid}
use Rattle.std.specs.Ordering.{int_eq}
use Rattle.hpgl_text.specs.declared.further.Further as further
use Rattle.hpgl_text.specs.declared.further.Further.TheVariants as of
use Rattle.plot_settings.specs.Parameters.{when, whole_of, is_chord, thousandths_of}
use Rattle.plot_settings.specs.declared.figure.Corner.{Corner}
use Rattle.full_settings.specs.CurveParameters.{point_at}
use Rattle.full_settings.specs.declared.polygon_setting.Anchor.{Anchor}
use Rattle.full_settings.specs.declared.polygon_setting.Anchor.TheVariants.{PageOrigin, At}
use Rattle.full_settings.specs.declared.polygon_setting.PolygonStep.{PolygonStep}
use Rattle.full_settings.specs.declared.polygon_setting.PolygonStep.TheVariants.{Begin, Close, End}
use Rattle.full_settings.specs.declared.polygon_setting.Wedge.{Wedge}

-- PM mode: 0 begins polygon mode, and is meant if none is named; 1 closes a polygon; 2 closes it, and ends polygon mode
abbrev pub step_by : ℤ → Option PolygonStep
step_by n =
    if int_eq n (pos 0) then Some Begin else
    if int_eq n (pos 1) then Some Close else
    if int_eq n (pos 2) then Some End else
    None

abbrev pub polygon_step : List ℤ → Option PolygonStep
polygon_step [] = Some Begin
polygon_step (n ∷ ns) = step_by (whole_of n)

-- 0, which is meant if no number is there, or 1
abbrev pub choice_by : ℤ → Option Bool
choice_by n =
    if int_eq n (pos 0) then Some false else
    if int_eq n (pos 1) then Some true else
    None

abbrev pub choice : List ℤ → Option Bool
choice [] = Some false
choice (n ∷ ns) = choice_by (whole_of n)

-- FP rule: 0 fills by odd counts, and 1 by winding
abbrev pub by_winding : List ℤ → Option Bool
by_winding ns = choice ns

-- CT mode: by 0 chords have the angles that are named, and by 1 the usual one
abbrev pub usual_chords : List ℤ → Option Bool
usual_chords ns = choice ns

-- AC x, y: a line of hatching goes through this point, or through the page's origin if no number is there
abbrev pub anchor : List ℤ → Option Anchor
anchor [] = Some PageOrigin
anchor (x ∷ []) = None
anchor (x ∷ (y ∷ ns)) = Some (At (point_at x y))

-- RA and RR x, y: the corner opposite the pen
abbrev pub opposite_corner : List ℤ → Option Corner
opposite_corner (x ∷ (y ∷ ns)) = Some (record { x = x; y = y })
opposite_corner _ = None

-- an angle in thousandths of a degree, without whole turns, which change no direction
abbrev pub angle_of : ℤ → ℤ
angle_of n = int_rem_euclid (thousandths_of n) (pos 360000)

-- a sweep is cut to a whole turn
abbrev pub cut_sweep : ℤ → ℤ
cut_sweep n = int_max (negsuc 359999) (int_min (pos 360000) n)

-- EW and WG radius, start, sweep, chord
abbrev pub wedge_of : ℤ → ℕ → ℤ → ℤ → Option Wedge
wedge_of radius start sweep chord =
    when (is_chord chord)
    (record { radius = radius; start = start; sweep = cut_sweep sweep; chord = nat_abs chord })

abbrev pub wedge : List ℤ → Option Wedge
wedge (r ∷ (a ∷ (s ∷ []))) = wedge_of r (nat_abs (angle_of a)) (thousandths_of s) (pos 5000)
wedge (r ∷ (a ∷ (s ∷ (c ∷ ns)))) = wedge_of r (nat_abs (angle_of a)) (thousandths_of s) (thousandths_of c)
wedge _ = None

pub record IsWedge (w : Wedge) : Type 0 where
  pub radius_in : nat_abs w.radius ≤ 2 ^ 55
  pub start_in : w.start < 360000
  pub sweep_in : nat_abs w.sweep ≤ 360000
  pub chord_above : 0 < w.chord

-- the numbers that are read after CT 1: no chord of an arc or a wedge
abbrev pub without_polygon_chord : further.Further → List ℤ → List ℤ
without_polygon_chord of.ArcAbsoluteThreePoint ns = take 4 ns
without_polygon_chord of.ArcRelativeThreePoint ns = take 4 ns
without_polygon_chord of.EdgeWedge ns = take 3 ns
without_polygon_chord of.FillWedge ns = take 3 ns
without_polygon_chord f ns = ns
