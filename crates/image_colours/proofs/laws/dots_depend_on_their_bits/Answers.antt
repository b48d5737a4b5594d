use Rattle.image_colours.proofs.DotLaws.{dots_depend_on_their_bits_lem}
use Rattle.image_colours.proofs.laws.dots_depend_on_their_bits.Goals as goal

pub returns : goal.returns
returns c = dots_depend_on_their_bits_lem
