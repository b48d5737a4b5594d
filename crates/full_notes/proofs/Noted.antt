-- What is noted on instructions of core that have no rules of their own is whether their numbers are wrong; a DI may be
-- along no axis.
use Rattle.std.proofs.Common.{◌≡◌, ◌∙◌, ap, refl, Bool, true, false, true≢false, ℤ, List, [], ◌∷◌}
use Rattle.hpgl_text.specs.declared.instruction.Instruction.{Instruction}
use Rattle.hpgl_text.specs.declared.instruction.Instruction.TheVariants.{PenWidth, PenColour, Circle, ArcAbsolute, ArcRelative, Direction}
use Rattle.plot_settings.specs.Meanings.{meaning, sets}
use Rattle.plot_settings.specs.Parameters.{nearest_axis, when}
use Rattle.plot_settings.specs.declared.setting.Setting.TheVariants as setting
use Rattle.full_settings.specs.LetterParameters.{letter_direction, is_vector, pair_of}
use Rattle.full_settings.specs.declared.letter_setting.LetterSetting.TheVariants as letter
use Rattle.full_notes.specs.Contexts.{Context, params_read}
use Rattle.full_notes.specs.Notes.{bad_if, bad_without, params_noted}

-- whether an instruction has rules of its own
abbrev pub is_own : Instruction → Bool
is_own PenWidth = true
is_own PenColour = true
is_own Circle = true
is_own ArcAbsolute = true
is_own ArcRelative = true
is_own _ = false

-- numbers that are no chord are read
pub all_read : (usual : Bool) (i : Instruction) (ns : List ℤ) → is_own i ≡ false → params_read usual i ns ≡ ns
all_read false i ns h = refl
all_read true Circle ns h = absurd (true≢false h)
all_read true ArcAbsolute ns h = absurd (true≢false h)
all_read true ArcRelative ns h = absurd (true≢false h)
all_read true i ns h = refl

pub vector_noted : (good : Bool) (x y : ℤ)
    → bad_without (when good (letter.Direction (pair_of x y))) ≡ bad_if (sets (when good (setting.Direction (nearest_axis x y)))).is_wrong
vector_noted true x y = refl
vector_noted false x y = refl

direction_noted : (ns : List ℤ) → bad_without (letter_direction ns) ≡ bad_if (meaning Direction ns).is_wrong
direction_noted [] = refl
direction_noted (x ∷ []) = refl
direction_noted (x ∷ (y ∷ ns)) = vector_noted (is_vector x y) x y

other_noted : (c : Context) (i : Instruction) (ns : List ℤ) → is_own i ≡ false → params_noted c i ns ≡ bad_if (meaning i ns).is_wrong
other_noted c PenWidth ns h = absurd (true≢false h)
other_noted c PenColour ns h = absurd (true≢false h)
other_noted c Direction ns h = direction_noted ns
other_noted c i ns h = refl

pub read_noted : (c : Context) (i : Instruction) (ns : List ℤ) → is_own i ≡ false
    → params_noted c i (params_read c.usual_chords i ns) ≡ bad_if (meaning i ns).is_wrong
read_noted c i ns h = ap (λ (read : List ℤ). params_noted c i read) (all_read c.usual_chords i ns h) ∙ other_noted c i ns h
