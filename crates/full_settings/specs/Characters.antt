-- The sets of characters and the fonts that a plot chooses, and the size of a font's letters.
use Rattle.std.specs.Prelude.{ℕ, ◌*◌, ◌^◌, ℤ, pos, false, if◌then◌else◌, List, Option, Some, None, unwrap_or}
use Rattle.exact.specs.Fraction.{round}
use Rattle.character_sets.specs.Signs.{sets_after}
use Rattle.character_sets.specs.declared.set.CharacterSet.{CharacterSet}
use Rattle.character_sets.specs.declared.set.CharacterSet.TheVariants.{Roman8}
use Rattle.character_sets.specs.declared.sets.Selection.{Selection}
use Rattle.character_sets.specs.declared.sets.Selection.TheVariants.{Standard, Alternate}
use Rattle.character_sets.specs.declared.sets.Sets.{Sets}
use Rattle.plot_frame.specs.declared.pair.Pair.{Pair}
use Rattle.full_settings.specs.LetterParameters.{pair_of}
use Rattle.full_settings.specs.CharacterParameters.{IsFontSize}
use Rattle.full_settings.specs.declared.font.Font.{Font}
use Rattle.full_settings.specs.declared.character_setting.CharacterSetting.{CharacterSetting}
use Rattle.full_settings.specs.declared.character_setting.CharacterSetting.TheVariants as setting
use Rattle.full_settings.specs.declared.character_setting.FontSetting.{FontSetting}

-- the standard and the alternate set and which of them is selected, and a font with each
pub record Characters : Type 0 where
  pub sets : Sets
  pub standard_font : Font
  pub alternate_font : Font

-- fixed spacing, 9 characters an inch, 11.5 points, upright, not bold
abbrev pub usual_font : Font
usual_font = record {
  is_proportional = false;
  pitch = 9000000;
  height = 11500000;
  is_italic = false;
  is_bold = false;
}

-- at the start, and after IN and DF
abbrev pub usual_characters : Characters
usual_characters = record {
  sets = record { standard = Roman8; alternate = Roman8; selection = Standard };
  standard_font = usual_font;
  alternate_font = usual_font;
}

-- with another standard or alternate set, if one is named
abbrev pub sets_with : Selection → Option CharacterSet → Sets → Sets
sets_with selection None sets = sets
sets_with Standard (Some set) sets = record sets { standard = set }
sets_with Alternate (Some set) sets = record sets { alternate = set }

-- with what is named of a font
abbrev pub font_with : FontSetting → Font → Font
font_with f font = record {
  is_proportional = unwrap_or f.is_proportional font.is_proportional;
  pitch = unwrap_or f.pitch font.pitch;
  height = unwrap_or f.height font.height;
  is_italic = unwrap_or f.is_italic font.is_italic;
  is_bold = unwrap_or f.is_bold font.is_bold;
}

-- with a set and a font, if they are named
abbrev pub fonts_with : Selection → FontSetting → Characters → Characters
fonts_with Standard f c =
    record c { sets = sets_with Standard f.set c.sets; standard_font = font_with f c.standard_font }
fonts_with Alternate f c =
    record c { sets = sets_with Alternate f.set c.sets; alternate_font = font_with f c.alternate_font }

-- after an instruction that chooses
abbrev pub characters_with : CharacterSetting → Characters → Characters
characters_with (setting.Set selection set) c = record c { sets = sets_with selection set c.sets }
characters_with (setting.Font selection f) c = fonts_with selection f c
characters_with (setting.Select selection) c = record c { sets = record c.sets { selection = selection } }

-- after a text, whose bytes 14 and 15 select a set
abbrev pub characters_after : Characters → List ℕ → Characters
characters_after c text = record c { sets = sets_after c.sets text }

-- the font of the set that is selected
abbrev pub font_by : Selection → Characters → Font
font_by Standard c = c.standard_font
font_by Alternate c = c.alternate_font

abbrev pub selected_font : Characters → Font
selected_font c = font_by c.sets.selection c

-- The size of a font's letters in grains. A capital is about two thirds of the font's height, so that letters of the
-- usual pitch and height have core's size, 1,216 by 1,728. The width of proportional spacing is our choice: about the
-- mean width of such letters.
abbrev pub font_width : Font → ℤ
font_width font =
    if font.is_proportional
    then round (record { over = pos (1980 * font.height); under = 23 * 10 ^ 6 })
    else round (record { over = pos (10944 * 10 ^ 6); under = font.pitch })

abbrev pub font_size : Font → Pair ℤ
font_size font = pair_of (font_width font) (round (record { over = pos (3456 * font.height); under = 23 * 10 ^ 6 }))

-- what is chosen is in its range
pub record IsFont (font : Font) : Type 0 where
  pub pitch_in : IsFontSize font.pitch
  pub height_in : IsFontSize font.height

pub record IsCharacters (c : Characters) : Type 0 where
  pub standard_in : IsFont c.standard_font
  pub alternate_in : IsFont c.alternate_font
