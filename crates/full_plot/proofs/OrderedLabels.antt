-- The labels of a plot are in order.
use Rattle.std.proofs.Common.{◌≡◌, ◌≤◌, ℕ, inl, inr, refl, arith, Bool, true, false, List, [], ◌∷◌, ◌++◌, length, nat_eq, nat_lt, Option, Some, None}
use Rattle.std.proofs.lemmas.Bool.{cases_Bool}
use Rattle.full_text.specs.Cut.{full_cut}
use Rattle.hpgl_text.specs.Shapes.{BodyShape, ItemShape}
use Rattle.labels.specs.Labels.{AreInOrder, LabelShape, LineShape}
use Rattle.full_plot.specs.Drawings.{full_at_start_with}
use Rattle.full_plot.specs.Items.{taken}
use Rattle.full_plot.specs.Labels.{label_of, labels_by, labels_from, labels_kept, lines_of, text_written}
use Rattle.full_plot.specs.Laws.{LabelsAreInOrder}
use Rattle.full_plot.specs.Worlds.{FullWorld}
use Rattle.full_plot.proofs.Later.{no_fewer}

-- labels in order, which begin even later
begun_before : (at later : ℕ) (ls : List LabelShape) → at ≤ later → AreInOrder later ls → AreInOrder at ls
begun_before at later [] h k = tt
begun_before at later (l ∷ ls) h k = (omega (arith, h, k.0), k.1, k.2)

-- a label, if it is one, and those after it
one_first : (at first after : ℕ) (lines : List LineShape) (ls : List LabelShape) → at ≤ first → first ≤ after → AreInOrder after ls
    → AreInOrder at (label_of first after lines ++ ls)
one_first at first after lines ls h k more = elim (cases_Bool (nat_eq (length lines) 0)) [
  | inl i ↦ rw i (begun_before at after ls (omega (arith, h, k)) more)
  | inr i ↦ elim (cases_Bool (nat_lt first after)) [
    | inl j ↦ rw (i, j) (h, k, more)
    | inr j ↦ rw (i, j) (begun_before at after ls (omega (arith, h, k)) more)
  ]
]

by_item : (at : ℕ) (w : FullWorld) (b : BodyShape) (o : Option FullWorld) (go : FullWorld → List LabelShape) → taken w b ≡ o
    → at ≤ length w.core.kept → ((v : FullWorld) → AreInOrder (length v.core.kept) (go v)) → AreInOrder at (labels_by w b o go)
by_item at w b None go e h more = tt
by_item at w b (Some v) go e h more =
    one_first at (length w.core.kept) (length v.core.kept) (lines_of w (text_written w b)) (go v) h (no_fewer w v b e) (more v)

by_items : (items : List ItemShape) (at : ℕ) (w : FullWorld) → at ≤ length w.core.kept → AreInOrder at (labels_from w items)
by_items [] at w h = tt
by_items (i ∷ more) at w h =
    by_item at w i.body (taken w i.body) (λ (v : FullWorld). labels_from v more) refl h
    (λ (v : FullWorld). by_items more (length v.core.kept) v (omega arith))

pub labels_ordered : LabelsAreInOrder
labels_ordered encoding carousel page plot =
    by_items (full_cut plot) 0 (full_at_start_with encoding carousel page) (omega arith)

-- those that are kept, or none
pub kept_ordered : (keeps : Bool) (ls : List LabelShape) → AreInOrder 0 ls → AreInOrder 0 (labels_kept keeps ls)
kept_ordered true ls h = h
kept_ordered false ls h = tt
