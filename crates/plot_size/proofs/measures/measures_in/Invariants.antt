use Rattle.std.proofs.Common.{◌≡◌, fold}
use Rattle.hpgl_text.specs.Numbers.{found_up_to, past_numbers}
use Rattle.plot_size.specs.Measures.{measured, with_number}
use Rattle.hpgl_text.specs.Numbers.{numbers}
use Rattle.plot_size.proofs.measures.measures_in.Given as goal

-- with the numbers that are left, those that were found are all
abbrev pub invariant-numbers : goal.invariant-numbers
invariant-numbers l = record {
  numbers : fold with_number l.found (found_up_to l.steps l.left).0 ≡ measured (numbers l.text);
  past : (found_up_to l.steps l.left).1 ≡ past_numbers l.text;
}

abbrev pub decreases-numbers : goal.decreases-numbers
decreases-numbers l = l.steps
