use Rattle.std.proofs.Common.{◌≡◌, ◌-◌, ◌+◌, ◌^◌, ◌≤◌, take, length}
use Rattle.std.specs.List.{prefix_len}
use Rattle.std.specs.Char.{is_ascii_digit}
use Rattle.hpgl_text.specs.Numbers.{digits_sum}
use Rattle.hpgl_text.proofs.reading.few_digits.Given as goal

abbrev pub invariant-digits : goal.invariant-digits
invariant-digits l = record {
  are_digits : l.count ≤ prefix_len is_ascii_digit l.text;
  within : l.count ≤ length l.text;
  few : l.count ≤ 6;
  number_is : l.number ≡ digits_sum (take l.count l.text);
  small : l.number + 1 ≤ 10 ^ l.count;
}

abbrev pub decreases-digits : goal.decreases-digits
decreases-digits l = length l.text - l.count
