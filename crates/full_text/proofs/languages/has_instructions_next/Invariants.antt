use Rattle.std.proofs.Common.{◌≡◌, ◌≤◌, length}
use Rattle.full_text.specs.Languages.{has_instructions_next}
use Rattle.full_text.proofs.languages.has_instructions_next.Given as goal

-- the first form is in the bytes that are left
abbrev pub invariant-escapes : goal.invariant-escapes
invariant-escapes l = (has_instructions_next l.left ≡ has_instructions_next l.text) × (length l.left ≤ length l.text)

abbrev pub decreases-escapes : goal.decreases-escapes
decreases-escapes l = length l.left
