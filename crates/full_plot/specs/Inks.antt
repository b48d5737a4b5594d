-- How strokes and areas show (HP-GL/2 guide: TR and SV): what they set, and which pens fill nothing.
use Rattle.std.specs.Prelude.{Bool, None}
use Rattle.hpgl_plot.specs.Inks.{draws_nothing, unscreened}
use Rattle.hpgl_plot.specs.declared.state.State.{State}
use Rattle.full_settings.specs.declared.fill_setting.FillKind.{FillKind}
use Rattle.full_settings.specs.declared.fill_setting.FillKind.TheVariants.{Hatched, CrossHatched}
use Rattle.full_settings.specs.declared.ink_setting.InkSetting.{InkSetting}
use Rattle.full_settings.specs.declared.ink_setting.InkSetting.TheVariants.{HidesWhite, Screen, OtherScreen}

-- after a TR or an SV; patterns of SV screen nothing
abbrev pub ink_set : InkSetting → State → State
ink_set (HidesWhite hides) s = record s { hides_white = hides }
ink_set (Screen screen) s = record s { screen = screen }
ink_set OtherScreen s = record s { screen = None }

-- lines of hatching are screened as other lines, and areas and shading are not
abbrev pub filling_state : FillKind → State → State
filling_state Hatched s = s
filling_state CrossHatched s = s
filling_state _ s = unscreened s

-- whether the pen that is selected fills nothing
abbrev pub fills_nothing : FillKind → State → Bool
fills_nothing kind s = draws_nothing (filling_state kind s)
