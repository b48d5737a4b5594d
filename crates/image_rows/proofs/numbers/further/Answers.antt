use Rattle.std.proofs.Common.{◌∙◌, ◌+◌, ℕ, List, get_or, sym, ap, Some, arith}
use Rattle.std.proofs.lemmas.List.{take_rest}
use Rattle.image_rows.proofs.LongNumbers.{further_more, further_end, further_none}
use Rattle.image_rows.proofs.numbers.further.Goals as goal

pub returns-then-byte-clause-value : goal.returns-then-byte-clause-value
returns-then-byte-clause-value c =
    ap (λ (rest : List ℕ). Some (c.loop-at.value + get_or c.args.input.now c.loop-at.at 0, rest)) (take_rest c.args.input.now (c.loop-at.at + 1))
    ∙ sym (c.loop-at.invariant.so_far ∙ further_end c.loop-at.value c.loop-at.at c.args.input.now c.loop-at-test.true c.if-byte.true)

pub loop-at-preserved : goal.loop-at-preserved
loop-at-preserved c = record {
  bound = omega (arith, c.loop-at.invariant.bound, c.if-byte.false);
  so_far = c.loop-at.invariant.so_far ∙ further_more c.loop-at.value c.loop-at.at c.args.input.now c.loop-at-test.true c.if-byte.false;
}

pub returns-clause-value : goal.returns-clause-value
returns-clause-value c = sym (c.loop-at.invariant.so_far ∙ further_none c.loop-at.value c.loop-at.at c.args.input.now c.loop-at-test.false)
