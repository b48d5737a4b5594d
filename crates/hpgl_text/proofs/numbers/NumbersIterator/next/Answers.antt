use Rattle.std.proofs.Common.{arith, ◌≡◌, ◌∙◌, sym, ap, ℕ, length, List, ℤ, ◌∷◌, drop}
use Rattle.hpgl_text.specs.Numbers.{numbers}
use Rattle.hpgl_text.proofs.ParameterLists.{listed, none_read, one_read}
use Rattle.hpgl_text.proofs.numbers.NumbersIterator.next.Goals as goal
use Rattle.hpgl_text.proofs.numbers.NumbersIterator.next.Goals.{In_ok-number}

pub returns-in_err-number-clause-steps : goal.returns-in_err-number-clause-steps
returns-in_err-number-clause-steps c =
    let none = ap length (listed (none_read c.self.inside.text.now c.past-text.result.now c.separator_count.result c.separator_count.ensures.value c.past-text.ensures c.in_err-number.ensures.found)) in
    absurd (omega (arith, none, c.self.invariant, c.if-self-eq0.false))

-- the number that is read, and those after it
first : (c : In_ok-number) (rest : List ℕ) → rest ≡ drop c.in_ok-number.bytes c.past-text.result.now → numbers c.self.inside.text.now ≡ c.in_ok-number.number ∷ numbers rest
first c rest e = listed (one_read c.self.inside.text.now c.past-text.result.now rest c.separator_count.result c.in_ok-number.bytes c.in_ok-number.number
    c.separator_count.ensures.value c.past-text.ensures c.in_ok-number.ensures.found e)

pub invariant_of-self : goal.invariant_of-self
invariant_of-self c =
    let more = ap (λ (zs : List ℤ). length zs) (first (goal.at.invariant_of-self c).In_ok-number c.past-self-inside.result.now c.past-self-inside.ensures) in
    omega (arith, more, c.self.invariant)

pub returns-clause-steps : goal.returns-clause-steps
returns-clause-steps c = sym c.self.view_is ∙ first (goal.at.returns-clause-steps c).In_ok-number c.past-self-inside.result.now c.past-self-inside.ensures

pub returns-clause-goes : goal.returns-clause-goes
returns-clause-goes c =
    let more = ap (λ (zs : List ℤ). length zs) (sym c.self.view_is ∙ first (goal.at.returns-clause-goes c).In_ok-number c.past-self-inside.result.now c.past-self-inside.ensures) in
    omega (arith, more)
