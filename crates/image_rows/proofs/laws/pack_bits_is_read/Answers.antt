use Rattle.image_rows.proofs.RowLaws.{pack_bits_is_read_lem}
use Rattle.image_rows.proofs.laws.pack_bits_is_read.Goals as goal

pub returns : goal.returns
returns c = pack_bits_is_read_lem
