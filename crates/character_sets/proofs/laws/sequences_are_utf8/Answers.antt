use Rattle.character_sets.proofs.Sequences.{complete, sound}
use Rattle.character_sets.proofs.laws.sequences_are_utf8.Goals as goal

pub returns : goal.returns
returns c = record { sound = sound; complete = complete }
