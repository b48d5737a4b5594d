-- What the numbers of FT (Fill Type) set, or None if they are wrong. Numbers are in millionths, and those after the
-- last that a type has are ignored.
use Rattle.std.specs.Prelude.{ℕ, ◌≤◌, ◌<◌, ◌^◌, ℤ, pos, nat_abs, int_le, Bool, true, false, if◌then◌else◌, ◌||◌}
use Rattle.std.specs.Prelude.{List, [], ◌∷◌, Option, Some, None, IfSome, ⊤}
use Rattle.std.specs.Ordering.{int_eq}
use Rattle.plot_settings.specs.Parameters.{when, whole_of, is_percent}
use Rattle.plot_settings.specs.Settings.{newer}
use Rattle.full_settings.specs.PolygonParameters.{angle_of}
use Rattle.full_settings.specs.declared.fill_setting.FillKind.{FillKind}
use Rattle.full_settings.specs.declared.fill_setting.FillKind.TheVariants as kind
use Rattle.full_settings.specs.declared.fill_setting.FillSetting.{FillSetting}
use Rattle.full_settings.specs.declared.fill_setting.FillSetting.TheVariants as setting
use Rattle.full_settings.specs.declared.fill_setting.FillStyle.{FillStyle}

-- at the start, and after IN and DF: solid; hatching has the usual spacing and an angle of 0, shading a level of 50
-- percent
abbrev pub usual_fill : FillStyle
usual_fill = record { kind = kind.Solid; spacing = 0; angle = 0; level = 50000000 }

-- types 3 and 4, spacing, angle: hatching and cross-hatching, by a spacing that is at least 0, of which 0 is the usual
-- one; a number that is not there stays as it was
abbrev pub hatching : Bool → List ℤ → Option FillSetting
hatching is_crossed [] = Some (setting.Hatched is_crossed None None)
hatching is_crossed (s ∷ []) = when (int_le (pos 0) s) (setting.Hatched is_crossed (Some (nat_abs s)) None)
hatching is_crossed (s ∷ (a ∷ ns)) =
    when (int_le (pos 0) s) (setting.Hatched is_crossed (Some (nat_abs s)) (Some (nat_abs (angle_of a))))

-- type 10, level: shading of 0 to 100 percent, as written
abbrev pub shading : List ℤ → Option FillSetting
shading [] = Some (setting.Shaded None)
shading (l ∷ ns) = when (is_percent l) (setting.Shaded (Some (nat_abs l)))

-- types 1 and 2 are solid; 11, 21 and 22 are patterns, which are not drawn
abbrev pub is_solid_type : ℤ → Bool
is_solid_type n = int_eq n (pos 1) || int_eq n (pos 2)

abbrev pub is_pattern_fill : ℤ → Bool
is_pattern_fill n = int_eq n (pos 11) || (int_eq n (pos 21) || int_eq n (pos 22))

abbrev pub fill_type_given : ℤ → List ℤ → Option FillSetting
fill_type_given n ns =
    if is_solid_type n then Some setting.Solid else
    if int_eq n (pos 3) then hatching false ns else
    if int_eq n (pos 4) then hatching true ns else
    if int_eq n (pos 10) then shading ns else
    if is_pattern_fill n then Some setting.Pattern else
    None

abbrev pub fill_type : List ℤ → Option FillSetting
fill_type [] = Some setting.Solid
fill_type (t ∷ ns) = fill_type_given (whole_of t) ns

abbrev pub hatched_kind : Bool → FillKind
hatched_kind is_crossed = if is_crossed then kind.CrossHatched else kind.Hatched

-- after an FT; a pattern is solid
abbrev pub fill_with : FillSetting → FillStyle → FillStyle
fill_with (setting.Hatched is_crossed spacing angle) f =
    record f { kind = hatched_kind is_crossed; spacing = newer spacing f.spacing; angle = newer angle f.angle }
fill_with (setting.Shaded level) f = record f { kind = kind.Shaded; level = newer level f.level }
fill_with _ f = record f { kind = kind.Solid }

-- what is set is in its range
abbrev pub IsSpacing : ℕ → Type 0
IsSpacing n = n ≤ 2 ^ 55

abbrev pub IsAngle : ℕ → Type 0
IsAngle n = n < 360000

abbrev pub IsLevel : ℕ → Type 0
IsLevel n = n ≤ 100000000

abbrev pub IsFillSetting : FillSetting → Type 0
IsFillSetting (setting.Hatched is_crossed spacing angle) = IfSome spacing IsSpacing × IfSome angle IsAngle
IsFillSetting (setting.Shaded level) = IfSome level IsLevel
IsFillSetting _ = ⊤

pub record IsFillStyle (f : FillStyle) : Type 0 where
  pub spacing_in : f.spacing ≤ 2 ^ 55
  pub angle_in : f.angle < 360000
  pub level_in : f.level ≤ 100000000
