use Rattle.std.proofs.Common.{◌≡◌, ◌<◌, ◌∷◌, ℕ, List, [], Option, arith, inl, inr, refl}
use Rattle.delivery.specs.Deeds.{Deed}
use Rattle.tests_program.proofs.delivered_work.ToldAnswer.tell.Goals as goal

pub returns-in-Whole : goal.returns-in-Whole
returns-in-Whole g c = rw c.in-Whole.is (Deed.remarked _ ∷ [], (_, c.remark.ensures, refl), tt)

pub returns-in-Kept : goal.returns-in-Kept
returns-in-Kept g c = elim c.in-Kept.is [
  | inl kept ↦ rw kept (Deed.refused 3 _ ∷ [], (_, c.refuse.ensures, refl), (omega arith, _, refl))
  | inr lost ↦ rw lost (Deed.refused 3 _ ∷ [], (_, c.refuse.ensures, refl), (omega arith, _, refl))
]
