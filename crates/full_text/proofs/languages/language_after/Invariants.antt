use Rattle.std.proofs.Common.{◌≡◌, length}
use Rattle.std.specs.Prelude.{fold}
use Rattle.escapes.specs.Views.{all_of, left}
use Rattle.full_text.specs.Languages.{language_after, language_then}
use Rattle.full_text.proofs.languages.language_after.Given as goal

-- the commands after the last one that was read lead to the same language
abbrev pub invariant-commands : goal.invariant-commands
invariant-commands l = fold (language_then l.rest) l.left (left l.last.more l.last.rest.now).0 ≡ language_after l.fn.language (all_of l.fn.first)

abbrev pub decreases-commands : goal.decreases-commands
decreases-commands l = length l.last.rest.now
