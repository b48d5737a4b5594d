use Rattle.character_sets.proofs.AsciiSigns.{unshifted}
use Rattle.character_sets.proofs.laws.unshifted_texts_are_ascii.Goals as goal

pub returns : goal.returns
returns c = unshifted
