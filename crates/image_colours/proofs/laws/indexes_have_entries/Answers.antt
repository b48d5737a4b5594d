use Rattle.image_colours.proofs.DotLaws.{indexes_have_entries_lem}
use Rattle.image_colours.proofs.laws.indexes_have_entries.Goals as goal

pub returns : goal.returns
returns c = indexes_have_entries_lem
