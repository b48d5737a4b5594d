use Rattle.std.proofs.Common.{◌∙◌, ◌-◌, ℕ, ℤ, List, ap, sym, fold}
use Rattle.hpgl_text.specs.Numbers.{found_up_to}
use Rattle.plot_size.specs.Measures.{with_number, with_units}
use Rattle.plot_size.proofs.Reading.{Measures, all_found, no_more, none_left, read_more}
use Rattle.plot_size.proofs.measures.measures_in.Goals as goal

pub numbers-preserved : goal.numbers-preserved
numbers-preserved c =
    let rest : List ℕ = c.after-left.result.now in
    let found : Measures = c.numbers.found in
    let more = read_more c.numbers.steps c.numbers.left.now rest c.in-Some.end c.numbers-test.true (sym c.in-Some.ensures.found) c.in-Some.ensures.end c.after-left.ensures in
    let with = c.with_units-found.ensures ∙ ap (with_units found) c.in-Some.ensures.value in
    record {
      numbers = ap (λ (m : Measures). fold with_number m (found_up_to (c.numbers.steps - 1) rest).0) with
          ∙ sym (ap (λ (f : List ℤ × List ℕ). fold with_number found f.0) more) ∙ c.numbers.invariant.numbers;
      past = sym (ap (λ (f : List ℤ × List ℕ). f.1) more) ∙ c.numbers.invariant.past;
    }

pub returns-in_default : goal.returns-in_default
returns-in_default c =
    let none = no_more c.numbers.steps c.numbers.left.now (sym c.in_default.ensures.found) in
    c.found_before.ensures ∙ all_found c.numbers.steps c.args.text.now c.numbers.left.now c.numbers.found none c.numbers.invariant.numbers c.numbers.invariant.past

pub returns : goal.returns
returns c =
    let none = none_left c.numbers.steps c.numbers.left.now c.numbers-test.false in
    c.found_before-2.ensures ∙ all_found c.numbers.steps c.args.text.now c.numbers.left.now c.numbers.found none c.numbers.invariant.numbers c.numbers.invariant.past
