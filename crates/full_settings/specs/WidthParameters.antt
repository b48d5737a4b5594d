-- What the numbers of WU (Pen Width Unit Selection), of PW (Pen Width) in percent and of PT (Pen Thickness, in old
-- HP-GL) ask for, or None if they are wrong. Numbers are in millionths, and those after the last that an instruction
-- has are ignored. A PW in millimetres is core's.
use Rattle.std.specs.Prelude.{ℤ, pos, nat_abs, ◌&&◌, List, [], ◌∷◌, Option, Some, None, if◌then◌else◌}
use Rattle.std.specs.Ordering.{int_eq}
use Rattle.plot_settings.specs.Parameters.{whole_of, when, is_byte, is_percent, is_width, width_grains}
use Rattle.full_settings.specs.declared.width_setting.WidthSetting.{WidthSetting}
use Rattle.full_settings.specs.declared.width_setting.WidthSetting.TheVariants.{Millimetres, PercentOfAll, Percent}
use Rattle.full_settings.specs.declared.width_setting.WidthSetting.TheVariants.{Thickness}

-- WU unit: 0 for millimetres, which is meant if no unit is named, and 1 for percent of the distance from P1 to P2. All
-- pens get the usual width in the unit: 0.35 mm, or 0.1 percent
abbrev pub in_unit : ℤ → Option WidthSetting
in_unit n =
    if int_eq n (pos 0) then Some Millimetres else
    if int_eq n (pos 1) then Some (PercentOfAll 100000) else
    None

abbrev pub width_unit : List ℤ → Option WidthSetting
width_unit [] = Some Millimetres
width_unit (n ∷ ns) = in_unit (whole_of n)

-- PW percent, pen: 0 to 100 percent, as written. All pens get it if none is named, and 0.1 percent if no width is
abbrev pub percent_width : List ℤ → Option WidthSetting
percent_width [] = Some (PercentOfAll 100000)
percent_width (n ∷ []) = when (is_percent n) (PercentOfAll (nat_abs n))
percent_width (n ∷ (p ∷ ns)) = when (is_percent n && is_byte (whole_of p)) (Percent (nat_abs (whole_of p)) (nat_abs n))

-- PT width: 0 to 20 mm, as written, for the pen that is selected; 0.3 mm (192 grains) if no width is named
abbrev pub thickness : List ℤ → Option WidthSetting
thickness [] = Some (Thickness 192)
thickness (n ∷ ns) = when (is_width n) (Thickness (width_grains n))
