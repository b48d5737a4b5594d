use Rattle.image_colours.proofs.DotLaws.{zeros_are_index_zero_lem}
use Rattle.image_colours.proofs.laws.zeros_are_index_zero.Goals as goal

pub returns : goal.returns
returns c = zeros_are_index_zero_lem
