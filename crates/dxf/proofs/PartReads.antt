-- The reader reads shapes and labels as they were written.
use Rattle.std.proofs.Common.{ℕ, ◌+◌, Bool, true, false, cond, List, [], ◌∷◌, flat_map, drop, length, take, zero, suc, nat_eq, Option, Some, None}
use Rattle.std.specs.List.{All}
use Rattle.std.proofs.lemmas.List.Elements.{All-head, All-tail}
use Rattle.areas.specs.declared.area.Area.{Area}
use Rattle.labels.specs.Labels.{LabelShape, LineShape}
use Rattle.labels.specs.Sheets.{all_counted, count_to, labels_to}
use Rattle.plot_page.specs.Segments.{Segment}
use Rattle.plot_page.specs.declared.pens.PenSet.{PenSet}
use Rattle.stroke_runs.specs.Sheets.{between, shapes_between}
use Rattle.svg.specs.Parts.{cut_label, cut_labels}
use Rattle.svg.specs.Sheets.{Sheet, labelled_after, sheet_between}
use Rattle.dxf.specs.Chains.{Chain, chains, marks}
use Rattle.dxf.specs.Documents.{sheets_text}
use Rattle.dxf.specs.Entities.{chains_text, shapes_text}
use Rattle.dxf.specs.Layers.{layers_of}
use Rattle.dxf.specs.Letters.{is_written, lines_text}
use Rattle.dxf.specs.Parts.{label_by, label_stroke, parts_after, parts_text}
use Rattle.dxf.specs.Readings.{chain_entities, entities_after, entities_of, entities_of_sheets, label_entities, line_entities, shape_entities}
use Rattle.dxf.specs.Readable.{IsReadable}
use Rattle.dxf.specs.declared.layers.Layers.{Layers}
use Rattle.dxf.specs.declared.sheets.Section.TheVariants.{Entities}
use Rattle.dxf.proofs.EntityReads.{Shows, chain_shown, shows_both, shows_none}
use Rattle.dxf.proofs.PieceSizes.{AreInRange, AreSmallChains, chains_small, marks_small, range_drop, range_take}
use Rattle.dxf.proofs.TextReads.{AreLines, lines_shown}

chains_shown : (layers : Layers) (cs : List Chain) → AreSmallChains cs → Shows (chains_text layers cs) (chain_entities layers cs)
chains_shown layers [] h = shows_none
chains_shown layers (c ∷ cs) h = shows_both (chain_shown layers c.first c.others h.0 h.1) (chains_shown layers cs h.2)

shapes_shown : (layers : Layers) (pens : PenSet) (strokes : List Segment) (areas : List Area) (at end : ℕ) → AreInRange strokes
    → Shows (shapes_text layers pens (shapes_between strokes areas at end)) (shape_entities layers pens (shapes_between strokes areas at end))
shapes_shown layers pens strokes areas at end h =
    let ms = marks pens (shapes_between strokes areas at end) in
    chains_shown layers (chains ms) (chains_small ms (marks_small pens strokes areas at end h))

-- labels whose letters are near the page
abbrev pub AreNear : List LabelShape → Type 0
AreNear [] = Unit {0}
AreNear (l ∷ ls) = AreLines l.lines × AreNear ls

lines_of_all : (ls : List LineShape) → All IsReadable ls → AreLines ls
lines_of_all [] h = tt
lines_of_all (l ∷ ls) h = (All-head IsReadable l ls h, lines_of_all ls (All-tail IsReadable l ls h))

pub near_of : (ls : List LabelShape) → All (λ l. All IsReadable l.lines) ls → AreNear ls
near_of [] h = tt
near_of (l ∷ ls) h =
    let P : LabelShape → Type 0 = λ k. All IsReadable k.lines in
    (lines_of_all l.lines (All-head P l ls h), near_of ls (All-tail P l ls h))

near_cut : (at : ℕ) (ls : List LabelShape) → AreNear ls → AreNear (cut_labels at ls)
near_cut at [] h = tt
near_cut at (l ∷ ls) h = (h.0, near_cut (cut_label at l).after ls h.1)

near_counted : (before : ℕ) (ls : List LabelShape) → AreNear ls → AreNear (all_counted before ls)
near_counted before [] h = tt
near_counted before (l ∷ ls) h = (h.0, near_counted before ls h.1)

near_take : (n : ℕ) (ls : List LabelShape) → AreNear ls → AreNear (take n ls)
near_take zero ls h = tt
near_take (suc n) [] h = tt
near_take (suc n) (l ∷ ls) h = (h.0, near_take n ls h.1)

near_drop : (n : ℕ) (ls : List LabelShape) → AreNear ls → AreNear (drop n ls)
near_drop zero ls h = h
near_drop (suc n) [] h = tt
near_drop (suc n) (l ∷ ls) h = near_drop n ls h.1

-- a label
label_shown_by : (b : Bool) (layers : Layers) (pens : PenSet) (strokes : List Segment) (areas : List Area) (l : LabelShape) (s : Segment) → AreInRange strokes → AreLines l.lines
    → Shows (cond b (lines_text layers s l.lines) (shapes_text layers pens (shapes_between strokes areas l.first l.after)))
    (cond b (flat_map (line_entities layers s) l.lines) (shape_entities layers pens (shapes_between strokes areas l.first l.after)))
label_shown_by true layers pens strokes areas l s h k = lines_shown layers s l.lines k
label_shown_by false layers pens strokes areas l s h k = shapes_shown layers pens strokes areas l.first l.after h

label_shown : (o : Option Segment) (layers : Layers) (pens : PenSet) (strokes : List Segment) (areas : List Area) (l : LabelShape) → AreInRange strokes → AreLines l.lines
    → Shows (label_by layers pens strokes areas l o) (label_entities layers pens strokes areas l o)
label_shown None layers pens strokes areas l h k = shows_none
label_shown (Some s) layers pens strokes areas l h k = label_shown_by (is_written l) layers pens strokes areas l s h k

after_shown : (layers : Layers) (pens : PenSet) (strokes : List Segment) (areas : List Area) (at : ℕ) (ls : List LabelShape) → AreInRange strokes → AreNear ls
    → Shows (parts_after layers pens strokes areas at ls) (entities_after layers pens strokes areas at ls)
after_shown layers pens strokes areas at [] h k = shapes_shown layers pens strokes areas at (length strokes) h
after_shown layers pens strokes areas at (l ∷ ls) h k =
    shows_both (shapes_shown layers pens strokes areas at l.first h)
    (shows_both (label_shown (label_stroke pens strokes l) layers pens strokes areas l h k.0) (after_shown layers pens strokes areas l.after ls h k.1))

pub parts_shown : (sheet : Option ℕ) (pens : PenSet) (strokes : List Segment) (areas : List Area) (labels : List LabelShape) → AreInRange strokes → AreNear labels
    → Shows (parts_text (layers_of sheet pens strokes) pens strokes areas labels) (entities_of sheet pens strokes areas labels)
parts_shown sheet pens strokes areas labels h k = after_shown (layers_of sheet pens strokes) pens strokes areas 0 (cut_labels 0 labels) h (near_cut 0 labels k)

-- sheets
pub record IsNearSheet (sheet : Sheet) : Type 0 where
  pub strokes : AreInRange sheet.strokes
  pub labels : AreNear sheet.labels

abbrev pub AreNearSheets : List Sheet → Type 0
AreNearSheets [] = Unit {0}
AreNearSheets (s ∷ ss) = IsNearSheet s × AreNearSheets ss

near_by : (b : Bool) (one : Sheet) (ss ts : List Sheet) → IsNearSheet one → AreNearSheets ss → AreNearSheets ts → AreNearSheets (cond b ss (one ∷ ts))
near_by true one ss ts h k m = k
near_by false one ss ts h k m = (h, m)

pub sheets_near : (strokes : List Segment) (areas : List Area) (at : ℕ) (ends : List ℕ) (labels : List LabelShape) → AreInRange strokes → AreNear labels → AreNearSheets (labelled_after strokes areas at ends labels)
sheets_near strokes areas at [] labels h k = tt
sheets_near strokes areas at (end ∷ ends) labels h k =
    let left = drop (count_to end labels) labels in
    near_by (nat_eq (length (between strokes at end)) 0) (sheet_between strokes areas at end labels) (labelled_after strokes areas at ends labels) (labelled_after strokes areas end ends left)
    (record { strokes = range_drop at (take end strokes) (range_take end strokes h); labels = near_counted at (labels_to end labels) (near_take (count_to end labels) labels k) })
    (sheets_near strokes areas at ends labels h k) (sheets_near strokes areas end ends left h (near_drop (count_to end labels) labels k))

pub sheets_shown : (pens : PenSet) (before : ℕ) (ss : List Sheet) → AreNearSheets ss → Shows (sheets_text Entities pens before ss) (entities_of_sheets pens before ss)
sheets_shown pens before [] h = shows_none
sheets_shown pens before (s ∷ ss) h = shows_both (parts_shown (Some (before + 1)) pens s.strokes s.areas s.labels h.0.strokes h.0.labels) (sheets_shown pens (before + 1) ss h.1)
