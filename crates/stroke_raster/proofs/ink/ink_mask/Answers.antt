use Rattle.std.proofs.Common.{refl}
use Rattle.stroke_raster.proofs.Words.{mask_inked}
use Rattle.stroke_raster.proofs.ink.ink_mask.Goals as goal

pub returns : goal.returns
returns c = mask_inked c.args.low c.args.many c.args.mask _ c.args.line.now _ c.requires.few c.requires.small refl c.ink_word.ensures
