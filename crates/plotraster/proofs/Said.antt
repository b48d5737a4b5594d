-- What is said, one after another.
use Rattle.std.proofs.Common.{◌≡◌, ◌++◌, ◌∷◌, ◌<◌, ℕ, List, [], Option, Err, arith, refl, subst}
use Rattle.conversion.specs.Faults.{status_of}
use Rattle.conversion.specs.declared.fault.Fault.{Fault}
use Rattle.conversion.specs.declared.fault.Fault.TheVariants.{Letters, Memory, Paint, Pixels, Plot, Read, Resolution, TooLong, Unfinished, Unturned, Write}
use Rattle.delivery.specs.Deeds.{AreRemarks, Deed, Remarks, Says}
use Rattle.delivery.proofs.DeedLemmas.{done_append}
use Rattle.plotraster.specs.Endings.{ending_after}

-- one remark
pub one_remark : {D : Type 0} (does : D → Deed → D → Type 0) (a b : D) (text : Option (List ℕ)) → does a (Deed.remarked text) b → Remarks does a b
one_remark does a b text step = (Deed.remarked text ∷ [], (b, step, refl), tt)

more_remarks : (xs ys : List Deed) → AreRemarks xs → AreRemarks ys → AreRemarks (xs ++ ys)
more_remarks [] ys first next = next
more_remarks (Deed.remarked text ∷ xs) ys first next = more_remarks xs ys first next
more_remarks (x ∷ xs) ys first next = absurd first

-- remarks after remarks
pub remarks_append : {D : Type 0} (does : D → Deed → D → Type 0) (a m b : D) → Remarks does a m → Remarks does m b → Remarks does a b
remarks_append does a m b first next =
    (first.0 ++ next.0, done_append does first.0 next.0 a m b first.1 next.1, more_remarks first.0 next.0 first.2 next.2)

-- a fault is said with its status
pub fault_said : {D : Type 0} (does : D → Deed → D → Type 0) (a b : D) (text : Option (List ℕ)) (fault : Fault) → does a (Deed.refused (status_of fault) text) b
    → Says does a (ending_after fault) b
fault_said does a b text TooLong step = (Deed.refused 1 text ∷ [], (b, step, refl), (omega arith, text, refl))
fault_said does a b text Memory step = (Deed.refused 4 text ∷ [], (b, step, refl), (omega arith, text, refl))
fault_said does a b text (Plot refusal) step = (Deed.refused 1 text ∷ [], (b, step, refl), (omega arith, text, refl))
fault_said does a b text (Paint refusal) step = (Deed.refused 2 text ∷ [], (b, step, refl), (omega arith, text, refl))
fault_said does a b text (Write row whole bytes) step = (Deed.refused 3 text ∷ [], (b, step, refl), (omega arith, text, refl))
fault_said does a b text Unfinished step = (Deed.refused 3 text ∷ [], (b, step, refl), (omega arith, text, refl))
fault_said does a b text Read step = (Deed.refused 3 text ∷ [], (b, step, refl), (omega arith, text, refl))
fault_said does a b text Resolution step = (Deed.refused 2 text ∷ [], (b, step, refl), (omega arith, text, refl))
fault_said does a b text Letters step = (Deed.refused 2 text ∷ [], (b, step, refl), (omega arith, text, refl))
fault_said does a b text Unturned step = (Deed.refused 2 text ∷ [], (b, step, refl), (omega arith, text, refl))
fault_said does a b text Pixels step = (Deed.refused 2 text ∷ [], (b, step, refl), (omega arith, text, refl))
