use Rattle.std.proofs.Common.{arith, ◌≡◌, ◌≤◌, ◌∙◌, [], refl, sym, ap, ℕ, List, drop, length, length-drop}
use Rattle.hpgl_text.specs.Numbers.{with_number}
use Rattle.hpgl_text.proofs.ParameterLists.{found, listed, left, one_read, none_read, left_after, numbers_few}
use Rattle.hpgl_text.proofs.parameters.count_numbers.Goals as goal
use Rattle.hpgl_text.proofs.parameters.count_numbers.Goals.{In-Some, In_default}

-- the number that is read, and those after it
more : (c : In-Some) (rest : List ℕ) → rest ≡ drop c.in-Some.bytes c.past-left.result.now → found c.numbers.left.now ≡ with_number c.in-Some.field-0-0 (found rest)
more c rest e = one_read c.numbers.left.now c.past-left.result.now rest c.separator_count.result c.in-Some.bytes c.in-Some.field-0-0
    c.separator_count.ensures.value c.past-left.ensures c.in-Some.ensures.found e

-- no number is left
none : (c : In_default) → found c.numbers.left.now ≡ ([], c.past-left.result.now)
none c = none_read c.numbers.left.now c.past-left.result.now c.separator_count.result c.separator_count.ensures.value c.past-left.ensures c.in_default.ensures.found

pub overflow_add-count : goal.overflow_add-count
overflow_add-count c =
    let rest = drop c.in-Some.bytes c.past-left.result.now in
    let count = ap length (listed (more (goal.at.overflow_add-count c).In-Some rest refl)) in
    omega (arith, count, c.numbers.invariant.counted, numbers_few c.args.text.now)

pub numbers-preserved : goal.numbers-preserved
numbers-preserved c =
    let more = more (goal.at.numbers-preserved c).In-Some c.past-left-in-numbers.result.now c.past-left-in-numbers.ensures in
    let i = c.numbers.invariant in
    let text = c.args.text.now in
    let gone = ap (λ (x : List ℕ). length x) c.past-left.ensures in
    let past : length c.past-left.result.now ≤ length text = omega (arith, gone, length-drop c.separator_count.result c.numbers.left.now, i.within) in
    let after = ap (λ (x : List ℕ). length x) c.past-left-in-numbers.ensures in
    let left_here = left_after text c.numbers.left.now c.past-left.result.now c.separator_count.result i.is_left i.within c.separator_count.ensures.within c.past-left.ensures in
    record {
      counted = omega (arith, ap length (listed more), i.counted);
      past = sym (left more) ∙ i.past;
      within = omega (arith, past, after, length-drop c.in-Some.bytes c.past-left.result.now);
      is_left = left_after text c.past-left.result.now c.past-left-in-numbers.result.now c.in-Some.bytes left_here past c.in-Some.ensures.within.1 c.past-left-in-numbers.ensures;
    }

pub returns-clause-count : goal.returns-clause-count
returns-clause-count c = omega (arith, ap length (listed (none (goal.at.returns-clause-count c).In_default)), c.numbers.invariant.counted)

pub returns-clause-left : goal.returns-clause-left
returns-clause-left c =
    let i = c.numbers.invariant in
    left_after c.args.text.now c.numbers.left.now c.past-left.result.now c.separator_count.result i.is_left i.within c.separator_count.ensures.within c.past-left.ensures
    ∙ sym (left (none (goal.at.returns-clause-left c).In_default)) ∙ i.past
