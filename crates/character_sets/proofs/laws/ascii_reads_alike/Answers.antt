use Rattle.character_sets.proofs.AsciiSigns.{alike}
use Rattle.character_sets.proofs.laws.ascii_reads_alike.Goals as goal

pub returns : goal.returns
returns c = alike
