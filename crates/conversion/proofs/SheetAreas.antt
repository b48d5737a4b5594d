-- The areas of a sheet are apart.
use Rattle.std.proofs.Common.{ℕ, ◌-◌, nat_eq, List, ◌∷◌, slice_index_or, inl, inr}
use Rattle.std.proofs.lemmas.Bool.{cases_Bool}
use Rattle.areas.specs.Shapes.{AreApart}
use Rattle.areas.specs.declared.area.Area.{Area}
use Rattle.areas.proofs.Apart.{apart_on_sheet}
use Rattle.full_plot.specs.Drawings.{areas_of_sheet}

pub sheet_apart : (areas : List Area) (ends : List ℕ) (count sheet : ℕ) → AreApart 0 areas → AreApart 0 (areas_of_sheet areas ends count sheet)
sheet_apart areas ends count sheet h = elim (cases_Bool (nat_eq sheet 0)) [
  | inl e ↦ rw e h
  | inr e ↦ rw e (apart_on_sheet (slice_index_or (0 ∷ ends) (sheet - 1) count) (slice_index_or ends (sheet - 1) count) areas h)
]
