-- What LT (Line Type) and UL (User-Defined Line Type) have set, and the line type that it makes.
use Rattle.std.specs.Prelude.{ℕ, ◌-◌, ◌≤◌, ℤ, pos, ◌-ℤ◌, nat_abs, int_lt, List, Option, Some, None, replicate, set}
use Rattle.std.specs.Prelude.{slice_index_or, if◌then◌else◌, Bool, true, false, ⊤}
use Rattle.std.specs.Ordering.{int_eq}
use Rattle.plot_frame.specs.declared.pair.Pair.{Pair}
use Rattle.plot_frame.specs.declared.scaling.Ends.{Ends}
use Rattle.plot_settings.specs.Settings.{newer}
use Rattle.line_types.specs.LineTypes.{LineShape, Solid, EndDot, Fixed, Adaptive}
use Rattle.line_types.specs.Patterns.{fixed_gaps, adaptive_gaps, diagonal_of, length_by_percent, length_by_millimetres}
use Rattle.full_settings.specs.declared.line_setting.LineKind.{LineKind}
use Rattle.full_settings.specs.declared.line_setting.LineKind.TheVariants as kind
use Rattle.full_settings.specs.declared.line_setting.PatternLength.{PatternLength}
use Rattle.full_settings.specs.declared.line_setting.PatternLength.TheVariants.{Percent, Millimetres}
use Rattle.full_settings.specs.declared.line_setting.LineSetting.{LineSetting}
use Rattle.full_settings.specs.declared.line_setting.LineSetting.TheVariants as setting

-- what LT and UL have set: the type, the one before solid lines, the length of patterns, and UL's patterns of
-- types 1 to 8
pub record Style : Type 0 where
  pub kind : LineKind
  pub remembered : LineKind
  pub size : PatternLength
  pub own : List (Option (List ℕ))

-- at the start, and after IN and DF: solid lines, patterns of 4 percent
abbrev pub usual_style : Style
usual_style = record {
  kind = kind.Solid;
  remembered = kind.Solid;
  size = Percent 4000000;
  own = replicate 8 None;
}

abbrev pub is_solid : LineKind → Bool
is_solid kind.Solid = true
is_solid (kind.Patterned n) = false

abbrev pub line_kind_or : LineKind → LineKind → LineKind
line_kind_or kind.Solid before = before
line_kind_or (kind.Patterned n) before = kind.Patterned n

-- after an LT or a UL
abbrev pub style_with : LineSetting → Style → Style
style_with setting.Solid s = record s { kind = kind.Solid; remembered = line_kind_or s.kind s.remembered }
style_with setting.Again s = record s { kind = line_kind_or s.kind s.remembered }
style_with (setting.Type n) s = record s { kind = kind.Patterned n }
style_with (setting.TypeAndLength n l) s = record s { kind = kind.Patterned n; size = l }
style_with setting.UsualPatterns s = record s { own = replicate 8 None }
style_with (setting.UsualPattern n) s = record s { own = set s.own (n - 1) None }
style_with (setting.OwnPattern n gaps) s = record s { own = set s.own (n - 1) (Some gaps) }

-- types are -8 to 8, and those of UL 1 to 8
abbrev pub IsKind : LineKind → Type 0
IsKind kind.Solid = ⊤
IsKind (kind.Patterned n) = nat_abs n ≤ 8

abbrev pub IsLineSetting : LineSetting → Type 0
IsLineSetting (setting.Type n) = nat_abs n ≤ 8
IsLineSetting (setting.TypeAndLength n l) = nat_abs n ≤ 8
IsLineSetting (setting.UsualPattern n) = (1 ≤ n) × (n ≤ 8)
IsLineSetting (setting.OwnPattern n gaps) = (1 ≤ n) × (n ≤ 8)
IsLineSetting _ = ⊤

-- the gaps of type n: those that UL gave, or the usual ones
abbrev pub usual_gaps : ℤ → List ℕ
usual_gaps n = if int_lt n (pos 0) then adaptive_gaps (nat_abs n) else fixed_gaps (nat_abs n)

abbrev pub gaps_of : List (Option (List ℕ)) → ℤ → List ℕ
gaps_of own n = newer (slice_index_or own (nat_abs n - 1) None) (usual_gaps n)

-- from P1 to P2, in plotter units
abbrev pub distance : Ends → ℤ
distance e = e.last -ℤ e.first

abbrev pub diagonal : Pair Ends → ℕ
diagonal points = diagonal_of (distance points.x) (distance points.y)

-- the length of a pattern in ticks, by P1 and P2 when it is drawn
abbrev pub ticks_of : PatternLength → Pair Ends → ℕ
ticks_of (Percent p) points = length_by_percent (diagonal points) p
ticks_of (Millimetres m) points = length_by_millimetres m

-- the patterns of types above 0 are fixed, and those of types below 0 adaptive
abbrev pub patterned_shape : ℤ → List ℕ → ℕ → LineShape
patterned_shape n gaps ticks = if int_lt n (pos 0) then Adaptive gaps ticks else Fixed gaps ticks

-- type 0 draws dots at ends
abbrev pub shape_by : LineKind → List (Option (List ℕ)) → ℕ → LineShape
shape_by kind.Solid own ticks = Solid
shape_by (kind.Patterned n) own ticks =
    if int_eq n (pos 0) then EndDot else patterned_shape n (gaps_of own n) ticks

abbrev pub shape_of : Style → Pair Ends → LineShape
shape_of s points = shape_by s.kind s.own (ticks_of s.size points)
