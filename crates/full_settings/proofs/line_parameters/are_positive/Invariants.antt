use Rattle.std.proofs.Common.{◌≡◌, true, take, pos, int_le}
use Rattle.std.specs.List.{list_all}
use Rattle.full_settings.proofs.line_parameters.are_positive.Given as goal

abbrev pub invariant-loop-gap : goal.invariant-loop-gap
invariant-loop-gap l = list_all (λ g. int_le (pos 0) g) (take l.gap-index l.gaps) ≡ true
