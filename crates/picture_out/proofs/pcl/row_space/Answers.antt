use Rattle.std.proofs.Common.{arith}
use Rattle.picture_out.proofs.Sizes.{transferred_size}
use Rattle.picture_out.proofs.pcl.row_space.Goals as goal

pub returns-clause-whole : goal.returns-clause-whole
returns-clause-whole c = record { any = λ index inks cells in_range bytes within. omega (arith, transferred_size cells (omega arith), c.room.ensures) }
