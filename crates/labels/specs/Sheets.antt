-- The labels of a sheet: those whose strokes come after some strokes, and before others.
use Rattle.std.specs.Prelude.{ℕ, suc, ◌-◌, nat_lt, if◌then◌else◌, List, [], ◌∷◌, map, take, drop}
use Rattle.labels.specs.Labels.{LabelShape}

-- how many labels there are up to the first one before which there are so many strokes
abbrev pub count_to : ℕ → List LabelShape → ℕ
count_to end [] = 0
count_to end (l ∷ ls) = if nat_lt l.first end then suc (count_to end ls) else 0

-- these labels, and the others
abbrev pub labels_to : ℕ → List LabelShape → List LabelShape
labels_to end labels = take (count_to end labels) labels

abbrev pub labels_from : ℕ → List LabelShape → List LabelShape
labels_from at labels = drop (count_to at labels) labels

-- those between
abbrev pub labels_between : ℕ → ℕ → List LabelShape → List LabelShape
labels_between at end labels = labels_to end (labels_from at labels)

-- a label of strokes of which so many come before a sheet, by the strokes of the sheet
abbrev pub counted : ℕ → LabelShape → LabelShape
counted before l = record l { first = l.first - before; after = l.after - before }

abbrev pub all_counted : ℕ → List LabelShape → List LabelShape
all_counted before labels = map (counted before) labels
