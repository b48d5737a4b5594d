use Rattle.image_colours.proofs.DotLaws.{dots_have_colours_lem}
use Rattle.image_colours.proofs.laws.dots_have_colours.Goals as goal

pub returns : goal.returns
returns c = dots_have_colours_lem
