use Rattle.std.proofs.Common.{refl}
use Rattle.pdf.proofs.AddedObjects.{added_more}
use Rattle.pdf.proofs.fonts.put_row.Goals as goal

pub returns : goal.returns
returns g c = record { adds = added_more c.put_font.ensures.adds c.put_unicode.ensures.adds refl }
