use Rattle.std.proofs.Common.{refl}
use Rattle.stick_font.specs.Glyphs.{last_rows}
use Rattle.stick_font.proofs.Tables.{texts-get_or}
use Rattle.stick_font.proofs.characters.last_row.Goals as goal

pub returns : goal.returns
unfolding last_rows
returns c = rw texts-get_or refl
