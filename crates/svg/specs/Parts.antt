-- The parts of a sheet: paths, and groups of the strokes of labels. SVG 1.1, 5.2 and 5.4.
use Rattle.std.specs.Prelude.{ℕ, max, List, [], ◌∷◌, ◌++◌, flat_map, length, if◌then◌else◌, codes}
use Rattle.areas.specs.declared.area.Area.{Area}
use Rattle.labels.specs.Labels.{LabelShape}
pub use Rattle.labels.specs.Labels.{AreBeside, AreInOrder}
use Rattle.plot_page.specs.Segments.{Segment}
use Rattle.plot_page.specs.declared.page.Page.{Page}
use Rattle.plot_page.specs.declared.pens.PenSet.{PenSet}
use Rattle.stroke_runs.specs.Sheets.{shapes_between}
use Rattle.stroke_runs.specs.Shown.{is_shown}
use Rattle.svg.specs.Paths.{Path, path_text, paths}
use Rattle.svg.specs.Titles.{label_text, title_text}

-- paths, or the group of a label: its text, and its paths
pub data Part : Type 0 where
  Plain : List Path → Part
  Group : List ℕ → List Path → Part

abbrev pub part_text : Part → List ℕ
part_text (Plain paths) = flat_map path_text paths
part_text (Group text paths) = codes "<g>" ++ title_text text ++ flat_map path_text paths ++ codes "</g>\n"

-- a label without the first `at` strokes
abbrev pub cut_label : ℕ → LabelShape → LabelShape
cut_label at l = record l { first = max at l.first; after = max (max at l.first) l.after }

-- labels without the first `at` strokes, and each without the strokes of those before it
abbrev pub cut_labels : ℕ → List LabelShape → List LabelShape
cut_labels at [] = []
cut_labels at (l ∷ ls) = cut_label at l ∷ cut_labels (cut_label at l).after ls

-- a label that is shown is a group
abbrev pub label_parts : Page → PenSet → List Segment → List Area → LabelShape → List Part
label_parts page pens strokes areas l =
    if is_shown pens strokes l
    then Group (label_text l) (paths page pens (shapes_between strokes areas l.first l.after)) ∷ [] else []

-- the strokes after the first `at`, some of which are the edges of these areas, with these labels in order
abbrev pub parts_after : Page → PenSet → List Segment → List Area → ℕ → List LabelShape → List Part
parts_after page pens strokes areas at [] = Plain (paths page pens (shapes_between strokes areas at (length strokes))) ∷ []
parts_after page pens strokes areas at (l ∷ ls) =
    Plain (paths page pens (shapes_between strokes areas at l.first))
    ∷ (label_parts page pens strokes areas l ++ parts_after page pens strokes areas l.after ls)

-- strokes, and the areas of which they are edges, with their labels, each stroke once
abbrev pub parts : Page → PenSet → List Segment → List Area → List LabelShape → List Part
parts page pens strokes areas labels = parts_after page pens strokes areas 0 (cut_labels 0 labels)

abbrev pub parts_text : Page → PenSet → List Segment → List Area → List LabelShape → List ℕ
parts_text page pens strokes areas labels = flat_map part_text (parts page pens strokes areas labels)
