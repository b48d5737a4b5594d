use Rattle.std.proofs.Common.{List, Option, Result, ℕ, subst, sym}
use Rattle.conversion.specs.declared.fault.Fault.{Fault}
use Rattle.conversion.specs.declared.outcome.Outcome.{Outcome}
use Rattle.delivery.specs.Deeds.{Deed, Says}
use Rattle.plotraster.specs.Endings.{ending_of}
use Rattle.plotraster.proofs.Said.{fault_said}
use Rattle.plotraster.proofs.work.WrittenAnswer.tell.Goals as goal

pub returns-in-Err : goal.returns-in-Err
returns-in-Err g c =
    let does = g.V.Voice.does in
    let said = fault_said does c.args.voice.now c.refuse.new.self _ c.in-Err.fault (rw c.status.ensures at c.refuse.ensures) in
    subst (λ (outcome : Result Outcome Fault). Says does c.args.voice.now (ending_of outcome) c.refuse.new.self) (sym c.in-Err.is) said
