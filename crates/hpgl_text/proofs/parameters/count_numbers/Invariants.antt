use Rattle.std.proofs.Common.{◌≡◌, ◌+◌, ◌-◌, ◌≤◌, length, drop}
use Rattle.hpgl_text.specs.Numbers.{numbers, past_numbers}
use Rattle.hpgl_text.proofs.parameters.count_numbers.Given as goal

-- those that were counted, and those that are left, are all
abbrev pub invariant-numbers : goal.invariant-numbers
invariant-numbers l = record {
  counted : l.count + length (numbers l.left) ≡ length (numbers l.text);
  past : past_numbers l.left ≡ past_numbers l.text;
  within : length l.left ≤ length l.text;
  is_left : drop (length l.text - length l.left) l.text ≡ l.left;
}

abbrev pub decreases-numbers : goal.decreases-numbers
decreases-numbers l = length l.left
