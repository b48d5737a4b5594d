-- The labels of items, one item after another.
use Rattle.std.proofs.Common.{◌≡◌, ◌∙◌, ℕ, ap, ap₂, sym, refl, Bool, true, false, List, [], ◌∷◌, ◌++◌, append-nil, Option, Some, None, Ok, Err}
use Rattle.std.specs.Prelude.{if◌then◌else◌}
use native.Mathlib.Nat.{sub-zero}
use Rattle.std.proofs.lemmas.List.{append_assoc}
use Rattle.hpgl_text.specs.Shapes.{ItemShape}
use Rattle.hpgl_plot.specs.declared.fault.PlotFault.{PlotFault}
use Rattle.labels.specs.Labels.{LabelShape}
use Rattle.labels.specs.Sheets.{all_counted, counted}
use Rattle.full_plot.specs.Drawings.{full_ended, is_too_much, full_runs}
use Rattle.full_plot.specs.Items.{taken}
use Rattle.full_plot.specs.Labels.{label_between, labels_by, labels_from, labels_kept}
use Rattle.full_plot.specs.Worlds.{FullWorld}

judged : (b : Bool) (e : PlotFault) (u v : FullWorld) → (if b then Err e else Ok u) ≡ Ok v → u ≡ v
judged true e u v h = absurd (cc h)
judged false e u v h = cc h

pub past : (o : Option FullWorld) (i : ItemShape) (v : FullWorld) → full_ended o i.at (λ (u : FullWorld). Ok u) ≡ Ok v → o ≡ Some v
past None i v h = absurd (cc h)
past (Some u) i v h = ap (λ (t : FullWorld). Some t) (judged (is_too_much u) _ u v h)

-- an item that is carried out, and those after it
pub labels_past : (w v : FullWorld) (i : ItemShape) (more : List ItemShape) → full_runs w (i ∷ []) ≡ Ok v
    → labels_from w (i ∷ more) ≡ label_between w i.body v ++ labels_from v more
labels_past w v i more h =
    ap (λ (o : Option FullWorld). labels_by w i.body o (λ (u : FullWorld). labels_from u more)) (past (taken w i.body) i v h)

-- those that are kept, or none
kept_append : (keeps : Bool) (a b : List LabelShape) → labels_kept keeps (a ++ b) ≡ labels_kept keeps a ++ labels_kept keeps b
kept_append true a b = refl
kept_append false a b = refl

none_kept : (keeps : Bool) → labels_kept keeps [] ≡ []
none_kept true = refl
none_kept false = refl

-- labels that are there, with those of an item and of those after it
pub kept_past : (keeps : Bool) (w v : FullWorld) (i : ItemShape) (more : List ItemShape) (before after : List LabelShape) → full_runs w (i ∷ []) ≡ Ok v
    → after ≡ before ++ labels_kept keeps (label_between w i.body v)
    → after ++ labels_kept keeps (labels_from v more) ≡ before ++ labels_kept keeps (labels_from w (i ∷ more))
kept_past keeps w v i more before after h e =
    ap (λ (ls : List LabelShape). ls ++ labels_kept keeps (labels_from v more)) e
    ∙ append_assoc before (labels_kept keeps (label_between w i.body v)) (labels_kept keeps (labels_from v more))
    ∙ ap (λ (ls : List LabelShape). before ++ ls)
    (sym (kept_append keeps (label_between w i.body v) (labels_from v more))
    ∙ ap (labels_kept keeps) (sym (labels_past w v i more h)))

-- after all items
pub kept_at_end : (keeps : Bool) (w : FullWorld) (items : List ItemShape) (before all : List LabelShape) → items ≡ []
    → before ++ labels_kept keeps (labels_from w items) ≡ all → before ≡ all
kept_at_end keeps w items before all e h =
    let none : labels_kept keeps [] ≡ [] = none_kept keeps in
    sym (append-nil before)
    ∙ ap (λ (ls : List LabelShape). before ++ ls) (sym none)
    ∙ ap (λ (is : List ItemShape). before ++ labels_kept keeps (labels_from w is)) (sym e)
    ∙ h

-- labels by the strokes of all sheets
same_count : (l : LabelShape) → counted 0 l ≡ l
same_count l = ap₂ (λ (m n : ℕ). record l { first = m; after = n }) (sub-zero l.first) (sub-zero l.after)

pub counted_none : (ls : List LabelShape) → all_counted 0 ls ≡ ls
counted_none [] = refl
counted_none (l ∷ ls) = ap₂ (λ (m : LabelShape) (rest : List LabelShape). m ∷ rest) (same_count l) (counted_none ls)
