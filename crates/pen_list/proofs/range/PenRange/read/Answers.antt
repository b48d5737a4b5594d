use Rattle.std.proofs.Common.{◌≡◌, true, false, nat_le, arith, sym, ◌∙◌}
use Rattle.std.proofs.lemmas.Bool.Decides.{nat_tests}
use Rattle.pen_list.proofs.Bounds.{alone, alone_has, pair, pair_has, wrong_first, wrong_last}
use Rattle.pen_list.proofs.range.PenRange.read.Goals as goal

pub returns-in_err-pen-clause-found : goal.returns-in_err-pen-clause-found
returns-in_err-pen-clause-found c =
    let one = alone c.args.text.now (sym c.in_default.ensures) in
    rw c.from_residual.ensures (c.in_err-pen.ensures.found ∙ sym one)

pub returns-in_default-clause-found : goal.returns-in_default-clause-found
returns-in_default-clause-found c = c.in_ok-pen.ensures.found ∙ sym (alone c.args.text.now (sym c.in_default.ensures))

pub returns-in_default-clause-pens : goal.returns-in_default-clause-pens
returns-in_default-clause-pens c pen = rw c.in_ok-pen.ensures.value (alone_has c.args.text.now (sym c.in_default.ensures) pen)

pub returns-in_err-first-clause-found : goal.returns-in_err-first-clause-found
returns-in_err-first-clause-found c =
    let wrong = wrong_first c.args.text.now c.in-Some.at (sym c.in-Some.ensures) (sym c.in_err-first.ensures.found) in
    rw c.from_residual-in_err-first.ensures (sym wrong)

pub returns-in_err-last-clause-found : goal.returns-in_err-last-clause-found
returns-in_err-last-clause-found c =
    let wrong = wrong_last c.args.text.now c.in-Some.at (sym c.in-Some.ensures) (sym c.in_err-last.ensures.found) in
    rw c.from_residual-in_err-last.ensures (sym wrong)

pub returns-then-first-last-clause-found : goal.returns-then-first-last-clause-found
returns-then-first-last-clause-found c =
    let first = c.in_ok-first.ensures in
    let last = c.in_ok-last.ensures in
    let e = pair c.args.text.now c.in-Some.at (sym c.in-Some.ensures) (sym first.found) (sym last.found) in
    let falls : nat_le c.in_ok-first.first c.in_ok-last.last ≡ false = grind (arith, nat_tests) in
    sym falls ∙ (rw (first.value, last.value) (sym e))

pub returns-clause-found : goal.returns-clause-found
returns-clause-found c =
    let first = c.in_ok-first.ensures in
    let last = c.in_ok-last.ensures in
    let e = pair c.args.text.now c.in-Some.at (sym c.in-Some.ensures) (sym first.found) (sym last.found) in
    let rises : nat_le c.in_ok-first.first c.in_ok-last.last ≡ true = grind (arith, nat_tests) in
    sym rises ∙ (rw (first.value, last.value) (sym e))

pub returns-clause-pens : goal.returns-clause-pens
returns-clause-pens c pen =
    let has = pair_has c.args.text.now c.in-Some.at (sym c.in-Some.ensures) (sym c.in_ok-last.ensures.found) pen in
    rw (c.in_ok-first.ensures.value, c.in_ok-last.ensures.value) has
