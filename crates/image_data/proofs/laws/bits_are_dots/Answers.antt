use Rattle.image_data.proofs.BitLaws.{bits_named}
use Rattle.image_data.proofs.laws.bits_are_dots.Goals as goal

pub returns : goal.returns
returns c = bits_named c.args.image.now c.args.position c.args.column c.requires
