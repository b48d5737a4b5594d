use Rattle.std.proofs.Common.{arith, ◌≡◌, ◌<◌, ◌∙◌, ℕ, ap, sym, get_or, take, length, true, false}
use Rattle.std.specs.List.{prefix_len}
use Rattle.std.specs.Char.{is_ascii_digit}
use Rattle.std.proofs.lemmas.Grind.{pow_more}
use Rattle.std.proofs.lemmas.List.Folds.{length-prefix_len}
use Rattle.hpgl_text.specs.Numbers.{digits_sum}
use Rattle.hpgl_text.proofs.Digits.{digits_next, digits_stop, digits_sum_more}
use Rattle.hpgl_text.proofs.PlainNumbers.{ten_powers}
use Rattle.hpgl_text.proofs.NumberSizes.{digit_small}
use Rattle.hpgl_text.proofs.reading.few_digits.Goals as goal
use Rattle.hpgl_text.proofs.reading.few_digits.Goals.{Then-not-is_ascii_digit}

ends : (c : goal.Then-not-is_ascii_digit) → prefix_len is_ascii_digit c.args.text.now ≡ c.digits.count
ends c =
    let i = c.digits.invariant in
    let no : is_ascii_digit (get_or c.args.text.now c.digits.count 0) ≡ false = sym c.is_ascii_digit.ensures.value ∙ c.if-not-is_ascii_digit.true in
    digits_stop c.args.text.now c.digits.count i.within i.are_digits (λ _. no)

pub returns-then-not-is_ascii_digit-clause-number : goal.returns-then-not-is_ascii_digit-clause-number
returns-then-not-is_ascii_digit-clause-number c =
    c.digits.invariant.number_is ∙ ap (λ (n : ℕ). digits_sum (take n c.args.text.now)) (sym (ends (goal.at.returns-then-not-is_ascii_digit-clause-number c).Then-not-is_ascii_digit))

pub returns-then-not-is_ascii_digit-clause-count : goal.returns-then-not-is_ascii_digit-clause-count
returns-then-not-is_ascii_digit-clause-count c =
    sym (ends (goal.at.returns-then-not-is_ascii_digit-clause-count c).Then-not-is_ascii_digit) ∙ sym (length-prefix_len is_ascii_digit c.args.text.now)

pub returns-then-not-is_ascii_digit-clause-small : goal.returns-then-not-is_ascii_digit-clause-small
returns-then-not-is_ascii_digit-clause-small c = omega (arith, ten_powers c.digits.count c.digits.invariant.few, c.digits.invariant.small)

pub digits-preserved : goal.digits-preserved
digits-preserved c =
    let text = c.args.text.now in
    let here : c.digits.count < length text = omega arith in
    let yes : is_ascii_digit (get_or text c.digits.count 0) ≡ true = sym c.is_ascii_digit.ensures.value ∙ c.if-not-is_ascii_digit.false in
    record {
      are_digits = digits_next text c.digits.count here c.digits.invariant.are_digits yes;
      within = omega arith;
      few = omega arith;
      number_is = omega (arith, digits_sum_more text c.digits.count here);
      small = omega (arith, pow_more 10 c.digits.count, digit_small (get_or text c.digits.count 0) yes, c.digits.invariant.small);
    }

pub returns-clause-small : goal.returns-clause-small
returns-clause-small c = omega (arith, ten_powers c.digits.count c.digits.invariant.few, c.digits.invariant.small)
