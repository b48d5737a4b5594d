-- What the parameters of an instruction set or ask for, or None if they are wrong. Numbers are in millionths. The
-- instructions are those of the HP-GL/2 and HP RTL Reference Guide, each under its name. That whole numbers are rounded
-- before they are tested, angles to thousandths of a degree, and all others tested as written, is our choice, and so
-- are the limits of a width and of a character's size, and that only the four axes are directions.
use Rattle.std.specs.Prelude.{ℕ, ℤ, pos, ◌+ℤ◌, ◌-ℤ◌, ◌*ℤ◌, nat_abs, Bool, not, ◌&&◌, ◌||◌, List, [], ◌∷◌, Option, Some}
use Rattle.std.specs.Prelude.{None, if◌then◌else◌, negsuc, nat_le, int_lt}
use Rattle.std.specs.Ordering.{int_eq}
use Rattle.exact.specs.Fraction.{round}
use Rattle.exact.specs.Ranges.{is_between}
use Rattle.plot_frame.specs.declared.pair.Pair.{Pair}
use Rattle.plot_frame.specs.declared.scaling.Ends.{Ends}
use Rattle.plot_frame.specs.declared.scaling.Range.{Range}
use Rattle.plot_frame.specs.declared.scaling.Factor.{Factor}
use Rattle.plot_frame.specs.declared.scaling.Scaling.TheVariants.{Off, Anisotropic, Isotropic, PointFactor}
use Rattle.plot_settings.specs.declared.setting.Rotation.TheVariants as rotation
use Rattle.plot_settings.specs.declared.setting.Setting.{Setting}
use Rattle.plot_settings.specs.declared.setting.Setting.TheVariants.{PageCorners, FirstPoint, BothPoints, Scale, Rotate}
use Rattle.plot_settings.specs.declared.setting.Setting.TheVariants.{PageWindow, CornerWindow, Pen, Width, WidthOfAll}
use Rattle.plot_settings.specs.declared.setting.Setting.TheVariants.{PenColour, DefaultColours, Size, Direction}
use Rattle.plot_settings.specs.Colours.{rgb, default_colour}
use Rattle.stick_font.specs.declared.size.CharacterSize.{CharacterSize}
use Rattle.plot_settings.specs.declared.setting.Rotation.{Rotation}
use Rattle.plot_settings.specs.declared.figure.Arc.{Arc}
use Rattle.plot_settings.specs.declared.figure.Circle.{Circle}

-- rounded to a whole number
abbrev pub whole_of : ℤ → ℤ
whole_of n = round (record { over = n; under = 1000000 })

-- a value, if a test holds
abbrev pub when : {A : Type 0} → Bool → A → Option A
when test value = if test then Some value else None

-- pens, and the red, green and blue of a colour, are 0 to 255; 255 as the last pen is our choice
abbrev pub is_byte : ℤ → Bool
is_byte n = is_between (pos 0) (pos 255) n

-- SP (Select Pen) pen: pen 0 if none is named
abbrev pub selected_pen : List ℤ → Option Setting
selected_pen [] = Some (Pen 0)
selected_pen (n ∷ ns) = when (is_byte (whole_of n)) (Pen (nat_abs (whole_of n)))

-- PW (Pen Width) width, pen: the width is 0 to 20 mm, as written; the limit is our choice
abbrev pub is_width : ℤ → Bool
is_width n = is_between (pos 0) (pos 20000000) n

-- millimetres as grains, of which a plotter unit of 0.025 mm has 16
abbrev pub width_grains : ℤ → ℕ
width_grains n = nat_abs (round (record { over = pos 640 *ℤ n; under = 1000000 }))

-- all pens get the width if none is named, and 0.35 mm (224 grains) if no width is
abbrev pub pen_width_setting : List ℤ → Option Setting
pen_width_setting [] = Some (WidthOfAll 224)
pen_width_setting (n ∷ []) = when (is_width n) (WidthOfAll (width_grains n))
pen_width_setting (n ∷ (p ∷ ns)) = when (is_width n && is_byte (whole_of p)) (Width (nat_abs (whole_of p)) (width_grains n))

abbrev pub given_colour : ℤ → ℤ → ℤ → ℤ → Option Setting
given_colour pen red green blue =
    when (is_byte pen && (is_byte red && (is_byte green && is_byte blue)))
    (PenColour (nat_abs pen) (rgb (nat_abs red) (nat_abs green) (nat_abs blue)))

-- PC (Pen Color Assignment) pen, red, green, blue: without a colour the pen gets its default colour, and without a pen
-- all pens get theirs
abbrev pub pen_colour_setting : List ℤ → Option Setting
pen_colour_setting [] = Some DefaultColours
pen_colour_setting (p ∷ []) = let n = whole_of p in when (is_byte n) (PenColour (nat_abs n) (default_colour (nat_abs n)))
pen_colour_setting (p ∷ (r ∷ (g ∷ (b ∷ ns)))) = given_colour (whole_of p) (whole_of r) (whole_of g) (whole_of b)
pen_colour_setting _ = None

-- RO (Rotate Coordinate System) angle: 0, 90, 180 or 270 degrees
abbrev pub rotation_set : ℤ → Option Setting
rotation_set n =
    if int_eq n (pos 0) then Some (Rotate rotation.None) else
    if int_eq n (pos 90) then Some (Rotate rotation.Quarter) else
    if int_eq n (pos 180) then Some (Rotate rotation.Half) else
    if int_eq n (pos 270) then Some (Rotate rotation.ThreeQuarters) else
    None

abbrev pub rotated : List ℤ → Option Setting
rotated [] = Some (Rotate rotation.None)
rotated (n ∷ ns) = rotation_set (whole_of n)

-- P1 and P2 on an axis, kept apart: where both are the same, P2 gets one more, which is our choice
abbrev pub ends_at : ℤ → ℤ → Ends
ends_at a b = record { first = a; last = if int_eq a b then b +ℤ pos 1 else b }

abbrev pub points_at : ℤ → ℤ → ℤ → ℤ → Pair Ends
points_at ax ay bx by = record { x = ends_at ax bx; y = ends_at ay by }

-- IP (Input P1 and P2): none, only P1, or both
abbrev pub scaling_points : List ℤ → Option Setting
scaling_points [] = Some PageCorners
scaling_points (x ∷ (y ∷ [])) = Some (FirstPoint (whole_of x) (whole_of y))
scaling_points (a ∷ (b ∷ (c ∷ (d ∷ ns)))) =
    Some (BothPoints (points_at (whole_of a) (whole_of b) (whole_of c) (whole_of d)))
scaling_points _ = None

-- P1 elsewhere, and P2 as far from it as before
abbrev pub moved_ends : Ends → ℤ → Ends
moved_ends e first = record { first = first; last = first +ℤ (e.last -ℤ e.first) }

abbrev pub moved_points : Pair Ends → ℤ → ℤ → Pair Ends
moved_points p x y = record { x = moved_ends p.x x; y = moved_ends p.y y }

-- IW (Input Window): two corners, or the page
abbrev pub window_corners : List ℤ → Option Setting
window_corners [] = Some PageWindow
window_corners (a ∷ (b ∷ (c ∷ (d ∷ ns)))) = Some (CornerWindow (record { ax = a; ay = b; bx = c; by = d }))
window_corners _ = None

-- the four numbers of an SC
abbrev pub ranges_of : ℤ → ℤ → ℤ → ℤ → Pair Range
ranges_of a b c d = record { x = record { least = a; most = b }; y = record { least = c; most = d } }

-- the least coordinate is the greatest, in x or in y
abbrev pub has_empty_range : Pair Range → Bool
has_empty_range r = int_eq r.x.least r.x.most || int_eq r.y.least r.y.most

-- SC (Scale) of type 0, anisotropic: from the least to the greatest coordinate is from P1 to P2
abbrev pub anisotropic : Pair Range → Option Setting
anisotropic r = when (not (has_empty_range r)) (Scale (Anisotropic r))

-- a share of 0 to 100 percent, as written
abbrev pub is_percent : ℤ → Bool
is_percent n = is_between (pos 0) (pos 100000000) n

-- type 1, isotropic: both axes have one unit; of what is left over these percents are on the left and at the bottom
abbrev pub isotropic : Pair Range → ℤ → ℤ → Option Setting
isotropic r left below =
    when (not (has_empty_range r) && (is_percent left && is_percent below))
    (Scale (Isotropic (record { x = record { range = r.x; share = left }; y = record { range = r.y; share = below } })))

-- each percent is 50 where it is absent
abbrev pub isotropic_by : Pair Range → List ℤ → Option Setting
isotropic_by r [] = isotropic r (pos 50000000) (pos 50000000)
isotropic_by r (l ∷ []) = isotropic r l (pos 50000000)
isotropic_by r (l ∷ (b ∷ ns)) = isotropic r l b

-- type 2, point factor: the second number and the fourth are how many plotter units a unit has
abbrev pub factor_of : Range → Factor
factor_of r = record { least = r.least; factor = r.most }

abbrev pub point_factor : Pair Range → Option Setting
point_factor r =
    when (not (int_eq r.x.most (pos 0) || int_eq r.y.most (pos 0)))
    (Scale (PointFactor (record { x = factor_of r.x; y = factor_of r.y })))

abbrev pub scaling_of_type : ℤ → Pair Range → List ℤ → Option Setting
scaling_of_type kind r ns =
    if int_eq kind (pos 0) then anisotropic r else
    if int_eq kind (pos 1) then isotropic_by r ns else
    if int_eq kind (pos 2) then point_factor r else
    None

-- SC: off, or by four numbers, a type and two percents
abbrev pub user_scaling : List ℤ → Option Setting
user_scaling [] = Some (Scale Off)
user_scaling (a ∷ (b ∷ (c ∷ (d ∷ [])))) = anisotropic (ranges_of a b c d)
user_scaling (a ∷ (b ∷ (c ∷ (d ∷ (t ∷ ns))))) = scaling_of_type (whole_of t) (ranges_of a b c d) ns
user_scaling _ = None

-- 0.19 by 0.27 cm, in grains
abbrev pub usual_size : CharacterSize
usual_size = record { width = pos 1216; height = pos 1728 }

-- a width or a height is up to 40 cm on either side of 0, and not 0
abbrev pub is_size : ℤ → Bool
is_size n = not (int_eq n (pos 0)) && is_between (negsuc 39999999) (pos 40000000) n

-- centimetres as grains, of which a plotter unit of 0.025 mm has 16
abbrev pub size_grains : ℤ → ℤ
size_grains n = round (record { over = pos 6400 *ℤ n; under = 1000000 })

-- SI width, height
abbrev pub character_size : List ℤ → Option Setting
character_size [] = Some (Size usual_size)
character_size (w ∷ []) = None
character_size (w ∷ (h ∷ ns)) =
    when (is_size w && is_size h) (Size (record { width = size_grains w; height = size_grains h }))

-- the axis that is nearest to a direction: right or left, or up or down; the run's, if both are as near
abbrev pub nearest_axis : ℤ → ℤ → Rotation
nearest_axis run rise =
    if nat_le (nat_abs rise) (nat_abs run) then (if int_lt run (pos 0) then rotation.Half else rotation.None) else
    if int_lt rise (pos 0) then rotation.ThreeQuarters else rotation.Quarter

-- DI run, rise: to the right if none is named
abbrev pub label_direction : List ℤ → Option Setting
label_direction [] = Some (Direction rotation.None)
label_direction (x ∷ []) = None
label_direction (x ∷ (y ∷ ns)) = when (not (int_eq x (pos 0) && int_eq y (pos 0))) (Direction (nearest_axis x y))

-- rounded to thousandths
abbrev pub thousandths_of : ℤ → ℤ
thousandths_of n = round (record { over = n; under = 1000 })

-- a chord has 0.5 to 180 degrees, and 5 if none is named
abbrev pub is_chord : ℤ → Bool
is_chord n = is_between (pos 500) (pos 180000) n

-- a sweep has 360 degrees at most, counterclockwise if it is above 0
abbrev pub is_sweep : ℤ → Bool
is_sweep n = is_between (negsuc 359999) (pos 360000) n

abbrev pub circle_of : ℤ → ℤ → Option Circle
circle_of radius chord = when (is_chord chord) (record { radius = radius; chord = nat_abs chord })

-- CI radius, chord
abbrev pub circled : List ℤ → Option Circle
circled [] = None
circled (r ∷ []) = circle_of r (pos 5000)
circled (r ∷ (c ∷ ns)) = circle_of r (thousandths_of c)

abbrev pub arc_of : ℤ → ℤ → ℤ → ℤ → Option Arc
arc_of x y sweep chord =
    when (is_sweep sweep && is_chord chord) (record { x = x; y = y; sweep = sweep; chord = nat_abs chord })

-- AA and AR x, y, sweep, chord: x and y are the centre
abbrev pub arced : List ℤ → Option Arc
arced (x ∷ (y ∷ (s ∷ []))) = arc_of x y (thousandths_of s) (pos 5000)
arced (x ∷ (y ∷ (s ∷ (c ∷ ns)))) = arc_of x y (thousandths_of s) (thousandths_of c)
arced _ = None
