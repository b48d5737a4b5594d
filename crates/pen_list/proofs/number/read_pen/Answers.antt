use Rattle.std.proofs.Common.{◌≡◌, ◌+◌, ◌-◌, ◌<◌, ◌≤◌, ◌∷◌, true, arith, length, get_or, drop, sym, ◌∙◌}
use Rattle.std.proofs.lemmas.List.{drop_more}
use Rattle.std.specs.Char.{is_ascii_digit}
use Rattle.pen_list.proofs.Numbers.{digit_read, digit_passes, digit_small}
use Rattle.pen_list.proofs.number.read_pen.Goals as goal

pub loop-digit-preserved : goal.loop-digit-preserved
loop-digit-preserved c =
    let digits = c.args.digits.now in
    let i = c.loop-digit.digit-index in
    let digit = get_or digits i 0 in
    let rest = drop (i + 1) digits in
    let inside : i < length digits = omega arith in
    let passes : is_ascii_digit digit ≡ true = sym c.is_ascii_digit.ensures.value ∙ c.if-not-is_ascii_digit.false in
    let small : digit - 48 ≤ 9 = digit_small digit passes in
    let from : c.from.result ≡ digit - 48 = c.from.ensures in
    let cut : drop i digits ≡ digit ∷ rest = drop_more digits i 0 inside in
    record {
      value = rw from (digit_read c.loop-digit.pen digit rest ∙ (rw cut at c.loop-digit.invariant.value));
      are_digits = sym (digit_passes digit rest passes) ∙ (rw cut at c.loop-digit.invariant.are_digits);
      none = λ h. omega arith;
      one = λ h. omega arith;
      two = λ h. omega arith;
      three = λ h. omega arith;
    }
