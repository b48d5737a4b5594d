-- What the numbers of TR (Transparency Mode) and SV (Screened Vectors) ask for, or None if they are wrong. Numbers are in
-- millionths, and those after the last that an instruction has are ignored. That the screens of SV but 1 are not drawn is
-- our choice.
use Rattle.std.specs.Prelude.{ℕ, ℤ, pos, nat_abs, Bool, true, false, ◌||◌, if◌then◌else◌, List, [], ◌∷◌, Option, Some, None}
use Rattle.std.specs.Ordering.{int_eq}
use Rattle.exact.specs.Ranges.{is_between}
use Rattle.plot_settings.specs.Parameters.{whole_of, when}
use Rattle.full_settings.specs.declared.ink_setting.InkSetting.{InkSetting}
use Rattle.full_settings.specs.declared.ink_setting.InkSetting.TheVariants.{HidesWhite, Screen, OtherScreen}

-- TR mode: by 0 white is drawn, and by 1 it is not there; 1 if none is named
abbrev pub transparency_by : ℤ → Option InkSetting
transparency_by n =
    if int_eq n (pos 0) then Some (HidesWhite false) else
    if int_eq n (pos 1) then Some (HidesWhite true) else
    None

abbrev pub transparency : List ℤ → Option InkSetting
transparency [] = Some (HidesWhite true)
transparency (n ∷ ns) = transparency_by (whole_of n)

-- how much of a colour is left, in percent: 0 to 100, 50 if it is not named
abbrev pub level_by : ℤ → Option InkSetting
level_by n = when (is_between (pos 0) (pos 100000000) n) (Screen (Some (nat_abs n)))

abbrev pub screen_level : List ℤ → Option InkSetting
screen_level [] = Some (Screen (Some 50000000))
screen_level (n ∷ ns) = level_by n

-- 2 for shading of PCL, 11 for a pattern of RF, 21 and 22 for patterns of PCL
abbrev pub is_other_screen : ℤ → Bool
is_other_screen n = int_eq n (pos 2) || (int_eq n (pos 11) || (int_eq n (pos 21) || int_eq n (pos 22)))

abbrev pub screen_by : ℤ → List ℤ → Option InkSetting
screen_by n ns =
    if int_eq n (pos 0) then Some (Screen None) else
    if int_eq n (pos 1) then screen_level ns else
    if is_other_screen n then Some OtherScreen else
    None

-- SV screen, level: off by 0, which is meant if none is named, and by 1 as much of a colour as the level says
abbrev pub screen : List ℤ → Option InkSetting
screen [] = Some (Screen None)
screen (n ∷ ns) = screen_by (whole_of n) ns
