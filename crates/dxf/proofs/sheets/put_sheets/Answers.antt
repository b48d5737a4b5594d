use Rattle.std.proofs.Common.{◌≡◌, ◌+◌, ◌≤◌, ◌++◌, ◌∙◌, ℕ, List, [], ◌∷◌, ap, refl, sym, arith, true, false, get_or, nat_eq, length, take, drop}
use Rattle.std.proofs.lemmas.Bool.Decides.{nat_tests}
use Rattle.areas.specs.Views.{areas_in}
use Rattle.areas.specs.declared.area.Area.{Area}
use Rattle.labels.specs.Labels.{LabelShape}
use Rattle.labels.specs.Sheets.{all_counted, count_to, labels_to}
use Rattle.pieces.proofs.Texts.{all_left, left_as, next_put}
use Rattle.plot_page.specs.Segments.{Segment}
use Rattle.plot_page.specs.declared.pens.PenSet.{PenSet}
use Rattle.stroke_runs.specs.Sheets.{between, sheet_areas}
use Rattle.dxf.specs.Documents.{sheet_text, sheets_text}
use Rattle.dxf.specs.declared.sheets.Section.{Section}
use Rattle.svg.specs.Sheets.{Sheet, labelled_after}
use Rattle.svg.proofs.Counts.{first_counted, rest_counted}
use Rattle.svg.proofs.Texts.{next_end, sheet_size}
use Rattle.dxf.proofs.SheetTexts.{passed_sheet, taken_sheet}
use Rattle.dxf.proofs.sheets.put_sheets.Goals as goal
use Rattle.dxf.proofs.sheets.put_sheets.Goals.{then-not-is_empty, else-not-is_empty}

-- a sheet with these labels
abbrev sheet_of : List Segment → List Area → ℕ → ℕ → List LabelShape → Sheet
sheet_of sheet areas at begin labels = record { strokes = sheet; areas = sheet_areas at areas; labels = all_counted at (all_counted begin labels) }

same_size : (ss ts : List Segment) → ss ≡ ts → length ss ≡ length ts
same_size ss ts h = ap (λ (zs : List Segment). length zs) h

-- the next sheet, and those after it
next_sheet : (section : Section) (pens : PenSet) (number begin : ℕ) (strokes : List Segment) (areas : List Area) (at end n : ℕ) (left others : List ℕ) (labels here later : List LabelShape) (sheet : List Segment) → left ≡ end ∷ others → nat_eq (length (between strokes at end)) 0 ≡ false → sheet ≡ between strokes at end → n ≡ count_to end (all_counted begin labels)
    → here ≡ take n labels → later ≡ drop n labels → sheets_text section pens number (labelled_after strokes areas at left (all_counted begin labels))
    ≡ sheet_text section pens (number + 1) (sheet_of sheet areas at begin here) ++ sheets_text section pens (number + 1) (labelled_after strokes areas end others (all_counted begin later))
next_sheet section pens number begin strokes areas at end n left others labels here later sheet next some cut count front back =
    let all = all_counted begin labels in
    let own : all_counted begin here ≡ labels_to end all =
    ap (λ (z : List LabelShape). all_counted begin z) front ∙ first_counted begin n labels ∙ ap (λ (m : ℕ). take m all) count in
    let rest : all_counted begin later ≡ drop (count_to end all) all =
    ap (λ (z : List LabelShape). all_counted begin z) back ∙ rest_counted begin n labels ∙ ap (λ (m : ℕ). drop m all) count in
    let a = sym cut in
    let b = sym own in
    let d = sym rest in
    ap (λ (es : List ℕ). sheets_text section pens number (labelled_after strokes areas at es all)) next ∙ taken_sheet section pens number strokes areas at end others all some
    ∙ (λ i. sheet_text section pens (number + 1) (record { strokes = a i; areas = sheet_areas at areas; labels = all_counted at (b i) }) ++ sheets_text section pens (number + 1) (labelled_after strokes areas end others (d i)))

-- if the next sheet has no stroke
next_passed : (section : Section) (pens : PenSet) (number : ℕ) (strokes : List Segment) (areas : List Area) (at end : ℕ) (left others : List ℕ) (labels : List LabelShape) → left ≡ end ∷ others → nat_eq (length (between strokes at end)) 0 ≡ true → sheets_text section pens number (labelled_after strokes areas at left labels) ≡ sheets_text section pens number (labelled_after strokes areas at others labels)
next_passed section pens number strokes areas at end left others labels next none =
    ap (λ (es : List ℕ). sheets_text section pens number (labelled_after strokes areas at es labels)) next ∙ passed_sheet section pens number strokes areas at end others labels none

-- the next end of a sheet, as the code finds it
end_here : (ends : List ℕ) (n i end : ℕ) → i ≤ length ends → end ≡ get_or ends i n → drop i (ends ++ n ∷ []) ≡ end ∷ drop (i + 1) (ends ++ n ∷ [])
end_here ends n i end h is = next_end ends n i h ∙ ap (λ (e : ℕ). e ∷ drop (i + 1) (ends ++ n ∷ [])) (sym is)

pub loop-ended-init : goal.loop-ended-init
loop-ended-init g c = record { left = all_left c.requires.sound refl; few = omega arith; fewer = omega arith }

pub loop-ended-preserved : goal.loop-ended-preserved
loop-ended-preserved g c =
    let view = c.args.view.now in
    let section = c.args.section in
    let pens = view.pens.now in
    let strokes = view.strokes.now in
    let areas = areas_in view.areas in
    let begin = view.before in
    let ends = c.args.ends.now ++ length strokes ∷ [] in
    let l = c.loop-ended in
    let end = c.end_of-end.result in
    let others = drop (l.ended + 1) ends in
    let sheet = between strokes l.at end in
    let own = c.between-sheet.result.now in
    let size = sheet_size strokes l.at end in
    let labels = all_counted begin l.rest.now in
    let same = same_size own sheet c.between-sheet.ensures in
    let ended = end_here c.args.ends.now (length strokes) l.ended end (omega arith) c.end_of-end.ensures in
    elim c.if-not-is_empty.branch [
      | then-not-is_empty w ↦
          let here = w.split_at.result.0.now in
          let later = w.split_at.result.1.now in
          let some : nat_eq (length sheet) 0 ≡ false = grind (arith, nat_tests, same, w.if-not-is_empty.true, c.is_empty.ensures) in
          let stroke : 1 ≤ length sheet = grind (arith, nat_tests, some) in
          let next =
          next_sheet section pens l.number begin strokes areas l.at end w.count_to.result (drop l.ended ends) others l.rest.now here later own ended some c.between-sheet.ensures w.count_to.ensures.value w.split_at.ensures.front w.split_at.ensures.back in
          let put = next_put l.invariant.left w.put_sheet.ensures.puts next in
          record {
            left = rw (w.text-is, w.at-is, w.number-is, w.rest-is) put;
            few = rw (w.at-is, w.number-is) omega (arith, size, stroke, l.invariant.few);
            fewer = rw w.number-is omega (arith, size, stroke, l.invariant.few);
          }
      | else-not-is_empty w ↦
          let none : nat_eq (length sheet) 0 ≡ true = grind (arith, nat_tests, same, w.if-not-is_empty.false, c.is_empty.ensures) in
          let next = next_passed section pens l.number strokes areas l.at end (drop l.ended ends) others labels ended none in
          record {
            left = rw (w.text-is, w.at-is, w.number-is, w.rest-is) (left_as l.invariant.left next);
            few = rw (w.at-is, w.number-is) l.invariant.few;
            fewer = rw w.number-is l.invariant.fewer;
          }
    ]
