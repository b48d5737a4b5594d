-- The signs that are left of a text, as code takes them one at a time.
use Rattle.std.specs.Prelude.{ℕ, List}
use Rattle.character_sets.specs.Texts.{utf8_signs}
use Rattle.character_sets.specs.Signs.{signs_by_sets}
use Rattle.character_sets.specs.declared.sign.Sign.{Sign}
use Rattle.character_sets.specs.declared.unread.By.{By}
use Rattle.character_sets.specs.declared.unread.By.TheVariants.{Sets, Utf8}
use Rattle.character_sets.specs.declared.unread.Unread.{Unread}

abbrev pub signs_by : By → List ℕ → List Sign
signs_by (Sets sets) text = signs_by_sets sets text
signs_by Utf8 text = utf8_signs text

abbrev pub signs_left : Unread → List Sign
signs_left unread = signs_by unread.by unread.rest.now
