use Rattle.std.proofs.Common.{ap, ◌++◌, ℕ}
use Rattle.bit_rows.specs.Bits.{packed}
use Rattle.picture_out.specs.Pcl.{transfer_command}
use Rattle.picture_out.proofs.Shown.{bits_show}
use Rattle.picture_out.proofs.Sizes.{packed_size}
use Rattle.picture_out.proofs.laws.pcl_shows_ink.Goals as goal

pub returns : goal.returns
returns c = λ row inks cells. record {
  parts = ap (λ (n : ℕ). transfer_command n ++ packed cells) (packed_size cells);
  bits = bits_show cells;
}
