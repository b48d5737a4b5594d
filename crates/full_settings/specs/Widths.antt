-- Widths of pens, in grains or in percent of the distance from P1 to P2. Percentages are in millionths, and are taken
-- of P1 and P2 as they are when a stroke is drawn.
use Rattle.std.specs.Prelude.{ℕ, ◌*◌, ◌^◌, ◌≤◌, min, List, [], ◌∷◌, Option, Some, None, set, replicate, ⊤}
use Rattle.plot_page.specs.declared.stroke.TheConstants.{GREATEST_WIDTH}
use Rattle.plot_settings.specs.Settings.{all_pens}
use Rattle.line_types.specs.Patterns.{nearest_quotient}
use Rattle.full_settings.specs.declared.width_setting.WidthSetting.{WidthSetting}
use Rattle.full_settings.specs.declared.width_setting.WidthSetting.TheVariants.{Millimetres, PercentOfAll, Percent}
use Rattle.full_settings.specs.declared.width_setting.WidthSetting.TheVariants.{Thickness}

-- a percentage of a diagonal in ticks of 1/256 grain, as a width in grains
abbrev pub grains_of_percent : ℕ → ℕ → ℕ
grains_of_percent diagonal percent = min (nearest_quotient (diagonal * percent) (256 * (100 * 10 ^ 6))) GREATEST_WIDTH

-- a pen's width in grains: by its percentage, or else the one that it has
abbrev pub width_by : ℕ → Option ℕ → ℕ → ℕ
width_by diagonal (Some percent) width = grains_of_percent diagonal percent
width_by diagonal None width = width

-- those of all pens
abbrev pub widths_by : ℕ → List (Option ℕ) → List ℕ → List ℕ
widths_by diagonal [] widths = widths
widths_by diagonal (p ∷ percents) [] = []
widths_by diagonal (p ∷ percents) (w ∷ widths) = width_by diagonal p w ∷ widths_by diagonal percents widths

-- one percentage, or none, for all pens; not opened in proofs, where 256 places would be written out
unfoldable pub all_percents : Option ℕ → List (Option ℕ)
all_percents percent = replicate 256 percent

-- the percentages after a setting by the selected pen: one for each pen, or None if its width is in millimetres by PT;
-- they have no effect while widths are in millimetres
abbrev pub percents_with : WidthSetting → ℕ → List (Option ℕ) → List (Option ℕ)
percents_with Millimetres selected percents = percents
percents_with (PercentOfAll p) selected percents = all_percents (Some p)
percents_with (Percent pen p) selected percents = set percents pen (Some p)
percents_with (Thickness grains) selected percents = set percents selected None

-- the widths in grains after a setting by the selected pen
abbrev pub grains_with : WidthSetting → ℕ → List ℕ → List ℕ
grains_with Millimetres selected widths = all_pens 224
grains_with (Thickness grains) selected widths = set widths selected grains
grains_with _ selected widths = widths

-- what is set in grains is in the range of widths
abbrev pub IsWidthSetting : WidthSetting → Type 0
IsWidthSetting (Thickness grains) = grains ≤ GREATEST_WIDTH
IsWidthSetting _ = ⊤
