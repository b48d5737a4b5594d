use Rattle.std.proofs.Common.{◌≡◌, drop}
use Rattle.character_sets.specs.Signs.{sets_after}
use Rattle.character_sets.proofs.sets.Sets.after.Given as goal

-- the bytes that are left decide
abbrev pub invariant-loop-byte : goal.invariant-loop-byte
invariant-loop-byte l = sets_after l.sets (drop l.byte-index l.text) ≡ sets_after l.fn.self l.text
