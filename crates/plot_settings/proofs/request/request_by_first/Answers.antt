use Rattle.plot_settings.proofs.SettingRanges.{points_setting_sound, scaling_setting_sound, rotation_setting_sound, window_setting_sound, colour_setting_sound, size_setting_sound, direction_setting_sound}
use Rattle.plot_settings.proofs.request.request_by_first.Goals as goal

pub set_by-requires : goal.set_by-requires
set_by-requires c = rw c.points_setting.ensures (points_setting_sound c.args.numbers.now c.requires.small)

pub set_by-requires-in-Scale : goal.set_by-requires-in-Scale
set_by-requires-in-Scale c = rw c.scaling_setting.ensures (scaling_setting_sound c.args.numbers.now c.requires.small)

pub set_by-requires-in-Rotate : goal.set_by-requires-in-Rotate
set_by-requires-in-Rotate c = rw c.rotation_setting.ensures (rotation_setting_sound c.args.numbers.now)

pub set_by-requires-in-InputWindow : goal.set_by-requires-in-InputWindow
set_by-requires-in-InputWindow c = rw c.window_setting.ensures (window_setting_sound c.args.numbers.now c.requires.small)

pub set_by-requires-in-PenColour : goal.set_by-requires-in-PenColour
set_by-requires-in-PenColour c = rw c.colour_setting.ensures (colour_setting_sound c.args.numbers.now)

pub set_by-requires-in-CharacterSize : goal.set_by-requires-in-CharacterSize
set_by-requires-in-CharacterSize c = rw c.size_setting.ensures (size_setting_sound c.args.numbers.now)

pub set_by-requires-in-Direction : goal.set_by-requires-in-Direction
set_by-requires-in-Direction c = rw c.direction_setting.ensures (direction_setting_sound c.args.numbers.now)
