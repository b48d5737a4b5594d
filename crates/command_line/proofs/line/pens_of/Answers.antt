use Rattle.std.proofs.Common.{◌≡◌, ◌↔◌, ◌∙◌, ◌<◌, ℕ, List, Option, Some, None, Err, IfOk, refl, sym, subst, true, false}
use Rattle.std.specs.Prelude.{is_some, codes, IfSome}
use Rattle.std.specs.Option.{ok_or}
use Rattle.clap.specs.Words.{Row, Text, found_of, rows_of}
use Rattle.clap.proofs.WalkLemmas.{first_value-rows}
use Rattle.plot_page.specs.declared.pens.PenSet.{PenSet}
use Rattle.plot_page.specs.Pens.{has_pen}
use Rattle.pen_list.specs.Lists.{is_listed, is_pen_list}
use Rattle.command_line.specs.declared.fault.LineFault.{LineFault}
use Rattle.command_line.specs.Lines.{ArePensOf, lists_no_pens, pens_text}
use Rattle.command_line.proofs.line.pens_of.Goals as goal

-- what a reader of lists makes of the text of the option
listed_pens : (rows : List Row) (list : Text) (read : Option PenSet) → pens_text rows ≡ Some list → is_some read ≡ is_pen_list list
    → IfSome read (λ pens. (pen : ℕ) → pen < 256 → has_pen pens pen ≡ is_listed list pen)
    → IfOk (ok_or read LineFault.Pens) (ArePensOf rows)
listed_pens rows list None text found pens = tt
listed_pens rows list (Some read) text found pens = record { list = list; text = text; is_list = sym found; listed = pens }

pens_or_fault : (rows : List Row) (list : Text) (read : Option PenSet) → pens_text rows ≡ Some list → is_some read ≡ is_pen_list list
    → (ok_or read LineFault.Pens ≡ Err LineFault.Pens) ↔ (lists_no_pens rows ≡ true)
pens_or_fault rows list None text found =
    let bad : lists_no_pens rows ≡ true = rw (text, ← found) refl in
    (λ _. bad, λ _. refl)
pens_or_fault rows list (Some read) text found =
    let good : lists_no_pens rows ≡ false = rw (text, ← found) refl in
    (λ fault. absurd (cc), λ bad. absurd (cc))

no_text : (rows : List Row) → pens_text rows ≡ None → lists_no_pens rows ≡ false
no_text rows none = rw none refl

pub returns-in_default-clause-fault : goal.returns-in_default-clause-fault
returns-in_default-clause-fault c =
    let F = found_of c.args.options.now in
    let none = no_text (rows_of F) (sym (c.in_default.ensures ∙ first_value-rows F (codes "pens"))) in
    (λ fault. absurd (cc), λ bad. absurd (cc))

pub returns-in_default-clause-understood : goal.returns-in_default-clause-understood
returns-in_default-clause-understood c = λ given.
    let F = found_of c.args.options.now in
    let none : pens_text (rows_of F) ≡ None = sym (c.in_default.ensures ∙ first_value-rows F (codes "pens")) in
    let bad : false ≡ true = rw none at given in
    absurd (cc)

pub returns-clause-pens : goal.returns-clause-pens
returns-clause-pens c =
    let F = found_of c.args.options.now in
    let text = sym (c.in-Some.ensures ∙ first_value-rows F (codes "pens")) in
    let listed = listed_pens (rows_of F) _ c.read_pens.result text c.read_pens.ensures.found c.read_pens.ensures.pens in
    subst (λ r. IfOk r (ArePensOf (rows_of F))) (sym c.ok_or.ensures.value) listed

pub returns-clause-fault : goal.returns-clause-fault
returns-clause-fault c =
    let F = found_of c.args.options.now in
    let text = sym (c.in-Some.ensures ∙ first_value-rows F (codes "pens")) in
    let faults = pens_or_fault (rows_of F) _ c.read_pens.result text c.read_pens.ensures.found in
    subst (λ r. (r ≡ Err LineFault.Pens) ↔ (lists_no_pens (rows_of F) ≡ true)) (sym c.ok_or.ensures.value) faults
