use Rattle.std.proofs.Common.{◌≡◌, ◌∙◌, ap, sym, codes, Bool, true, false, Option, Some, None, Result, Ok, Err, if◌then◌else◌}
use Rattle.std.specs.Result.{IsErrAnd, result_err}
use Rattle.command_line.specs.declared.fault.LineFault.{LineFault}
use Rattle.command_line.proofs.line.png_job_of.Goals as goal

-- the first of two faults, where it is one
first_fault : (is_bad : Bool) (bad fault : LineFault) (more : Option LineFault) → Some fault ≡ (if is_bad then Some bad else None)
    → (if is_bad then Some bad else more) ≡ Some fault
first_fault true bad fault more is = sym is
first_fault false bad fault more is = absurd (cc)

passed_on : {X : Type 0} (r : Result X LineFault) (e : LineFault) → IsErrAnd r (λ f. f ≡ e) → result_err r ≡ Some e
passed_on (Ok x) e is = absurd is
passed_on (Err f) e is = ap Some is

pub returns-in_err-dots-clause-refused : goal.returns-in_err-dots-clause-refused
returns-in_err-dots-clause-refused c = λ has. let good = c.in_err-dots.ensures.understood (has.within (codes "dots")) in absurd (cc)

pub returns-in_err-smoothing-clause-refused : goal.returns-in_err-smoothing-clause-refused
returns-in_err-smoothing-clause-refused c = λ has.
    passed_on _ _ c.from_residual-in_err-smoothing.ensures.1 ∙ sym (first_fault _ _ _ _ (c.in_err-smoothing.ensures.refused (has.within (codes "smooth"))))
