-- Texts whose labels in the usual style are those of the stick font.
use Rattle.std.specs.Prelude.{ℕ, List, ◌==◌, Bool, not, ◌&&◌, ◌||◌}
use Rattle.std.specs.List.{list_all}
use Rattle.stick_font.specs.Glyphs.{is_small}
use Rattle.character_sets.specs.Ascii.{is_unshifted, reads_ascii}
use Rattle.character_sets.specs.declared.encoding.Encoding.{Encoding}
use Rattle.character_sets.specs.declared.sets.Sets.{Sets}

-- a byte of ASCII that is no small letter, and none of BS, HT, SO and SI
abbrev pub is_core_byte : ℕ → Bool
is_core_byte byte = is_unshifted byte && not (is_small byte || (byte == 8 || byte == 9))

-- a text of such bytes, if they are the characters of ASCII
abbrev pub is_core_text : Encoding → Sets → List ℕ → Bool
is_core_text encoding sets text = reads_ascii encoding sets && list_all is_core_byte text
