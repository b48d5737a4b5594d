use Rattle.std.proofs.Common.{◌≡◌, ◌+◌, ◌*◌, ◌^◌, ◌≤◌, length, drop}
use Rattle.std.specs.Char.{is_ascii_digit}
use Rattle.std.specs.List.{list_all}
use Rattle.pen_list.specs.Lists.{number}
use Rattle.pen_list.proofs.number.read_pen.Given as goal

-- what was read, followed by what is left, is the number
abbrev pub invariant-loop-digit : goal.invariant-loop-digit
invariant-loop-digit l = record {
  value : l.pen * 10 ^ length (drop l.digit-index l.digits) + number (drop l.digit-index l.digits) ≡ number l.digits;
  are_digits : list_all is_ascii_digit (drop l.digit-index l.digits) ≡ list_all is_ascii_digit l.digits;
  none : l.digit-index ≤ 0 → l.pen ≤ 0;
  one : l.digit-index ≤ 1 → l.pen ≤ 9;
  two : l.digit-index ≤ 2 → l.pen ≤ 99;
  three : l.digit-index ≤ 3 → l.pen ≤ 999;
}
