-- What the public laws say: the lists of widths and of colours have each pen's most recent one.
use Rattle.std.specs.Prelude.{◌≡◌, ◌<◌, ℕ, List, Option, Some, None, nat_eq, slice_index, slice_index_or, if◌then◌else◌}
use Rattle.plot_page.specs.declared.colour.Colour.{Colour}
use Rattle.plot_settings.specs.declared.setting.Setting.{Setting}
use Rattle.plot_settings.specs.declared.setting.Setting.TheVariants.{Start, Width, WidthOfAll, PenColour}
use Rattle.plot_settings.specs.declared.setting.Setting.TheVariants.{DefaultColours}
use Rattle.plot_settings.specs.Colours.{black, default_colour}
use Rattle.plot_settings.specs.Settings.{newest, by_setting, widths, colours}
use Rattle.plot_settings.specs.Meanings.{Step}

-- the width of pen p in grains: 224 at the start
abbrev pub sets_width : ℕ → Setting → Option ℕ
sets_width p Start = Some 224
sets_width p (Width q w) = if nat_eq p q then Some w else None
sets_width p (WidthOfAll w) = Some w
sets_width p _ = None

abbrev pub width : ℕ → List Step → ℕ
width p before = newest (by_setting (sets_width p)) 224 before

-- the colour of pen p: its default colour at the start; DF leaves it
abbrev pub sets_colour : ℕ → Setting → Option Colour
sets_colour p Start = Some (default_colour p)
sets_colour p (PenColour q c) = if nat_eq p q then Some c else None
sets_colour p DefaultColours = Some (default_colour p)
sets_colour p _ = None

abbrev pub colour : ℕ → List Step → Colour
colour p before = newest (by_setting (sets_colour p)) (default_colour p) before

-- the list of widths has each pen's most recent width
abbrev pub WidthsAreLookedBackFor : Type 0
WidthsAreLookedBackFor = (before : List Step) (p : ℕ) → p < 256 → slice_index (widths before) p ≡ width p before

-- and so has the list of colours
abbrev pub ColoursAreLookedBackFor : Type 0
ColoursAreLookedBackFor =
    (before : List Step) (p : ℕ) → p < 256 → slice_index_or (colours before) p black ≡ colour p before
