-- Labels of sheets, and labels that are moved.
use Rattle.std.proofs.Common.{◌≡◌, ℕ, List, [], ◌∷◌, refl, ℤ, pos, negsuc}
use Rattle.exact.proofs.Tables.{Agree}
use Rattle.page_fit.specs.declared.around.Corner.{Corner}
use Rattle.labels.specs.declared.place.Place.{Place}
use Rattle.labels.specs.Labels.{LabelShape}
use Rattle.labels.specs.Moves.{moved_labels}
use Rattle.labels.specs.Sheets.{all_counted, labels_between}

-- a label of the strokes from one number up to another
abbrev label : ℕ → ℕ → LabelShape
label first after = record { first = first; after = after; lines = [] }

-- three labels, of strokes of which the first two are on one sheet, and the others on the next
abbrev three : List LabelShape
three = label 0 2 ∷ (label 2 5 ∷ (label 5 6 ∷ []))

-- the labels of sheets
labels_of_sheets : Agree (
    (labels_between 0 2 three, label 0 2 ∷ [])  -- first sheet
    ∷ (all_counted 2 (labels_between 2 6 three), label 0 3 ∷ (label 3 4 ∷ []))  -- second sheet
    ∷ (labels_between 2 2 three, [])  -- a sheet without strokes
    ∷ (all_counted 1 (labels_between 1 3 three), label 1 4 ∷ [])  -- a label is on the sheet on which it begins
    ∷ [])
labels_of_sheets = refl

abbrev at : ℤ → ℤ → Place
at x y = record { x = x; y = y }

-- a line of one letter
abbrev written : Place → Place → Place → LabelShape
written start end top =
    record { first = 0; after = 3; lines = record { text = 65 ∷ []; start = start; end = end; top = top } ∷ [] }

-- a page whose corner is 10 units farther left and 5 units higher: what lies on it has 160 grains more and 80 fewer
abbrev corner : Corner
corner = record { x = negsuc 9; y = pos 5 }

moved_with_its_line : moved_labels corner (written (at (pos 0) (pos 0)) (at (pos 32) (pos 0)) (at (pos 0) (pos 48)) ∷ [])
    ≡ written (at (pos 160) (negsuc 79)) (at (pos 192) (negsuc 79)) (at (pos 160) (negsuc 31)) ∷ []
moved_with_its_line = refl

-- a place that would lie too far away is cut to the farthest one
cut_to_the_farthest : moved_labels corner (written (at (pos 134217700) (pos 0)) (at (pos 32) (pos 0)) (at (pos 0) (pos 48)) ∷ [])
    ≡ written (at (pos 134217712) (negsuc 79)) (at (pos 192) (negsuc 79)) (at (pos 160) (negsuc 31)) ∷ []
cut_to_the_farthest = refl
