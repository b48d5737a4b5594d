use Rattle.std.proofs.Common.{◌≡◌, ◌+◌, ◌∙◌, ◌++◌, ◌∷◌, ℕ, List, ap, arith, refl, sym, drop}
use Rattle.std.proofs.lemmas.List.{drop_all}
use Rattle.areas.specs.Views.{areas_in}
use Rattle.areas.specs.declared.area.Area.{Area}
use Rattle.labels.specs.Labels.{LabelShape}
use Rattle.labels.specs.Sheets.{all_counted, counted}
use Rattle.pieces.proofs.Texts.{all_left, last_put, next_put}
use Rattle.plot_page.specs.Segments.{Segment}
use Rattle.plot_page.specs.declared.pens.PenSet.{PenSet}
use Rattle.stroke_runs.specs.Drawn.{drawn}
use Rattle.stroke_runs.specs.Sheets.{between, shapes_between, sheet_areas}
use Rattle.svg.proofs.Texts.{next_item}
use Rattle.svg.specs.Parts.{cut_label, cut_labels}
use Rattle.dxf.specs.Entities.{shapes_text}
use Rattle.dxf.specs.Parts.{first_of, label_by, parts_after}
use Rattle.dxf.specs.declared.layers.Layers.{Layers}
use Rattle.dxf.proofs.parts.put_parts.Goals as goal

-- the text of a label with the strokes between two places
abbrev own_text : Layers → PenSet → List Segment → List Area → LabelShape → ℕ → ℕ → List ℕ
own_text layers pens strokes areas l first after =
    label_by layers pens strokes areas (record l { first = first; after = after }) (first_of (drawn pens (between strokes first after)))

-- labels as they are counted
abbrev by_strokes : ℕ → ℕ → List LabelShape → List LabelShape
by_strokes before at labels = all_counted at (all_counted before labels)

-- the text of the parts after the first strokes
abbrev left_parts : Layers → PenSet → List Segment → List Area → ℕ → List LabelShape → List ℕ
left_parts layers pens strokes areas end labels = parts_after layers pens strokes areas end (cut_labels end labels)

-- the next label, with the strokes before it
next_label : (layers : Layers) (pens : PenSet) (strokes : List Segment) (areas : List Area) (before at end first after : ℕ) (left : List LabelShape) (l : LabelShape) (ls : List LabelShape)
    → left ≡ l ∷ ls → first ≡ (cut_label end (counted at (counted before l))).first → after ≡ (cut_label end (counted at (counted before l))).after
    → left_parts layers pens strokes areas end (by_strokes before at left)
    ≡ shapes_text layers pens (shapes_between strokes areas end first) ++ (own_text layers pens strokes areas l first after ++ left_parts layers pens strokes areas after (by_strokes before at ls))
next_label layers pens strokes areas before at end first after left l ls next f a =
    let others = by_strokes before at ls in
    let firsts = sym f in
    let afters = sym a in
    ap (λ (z : List LabelShape). left_parts layers pens strokes areas end (by_strokes before at z)) next
    ∙ (λ i. shapes_text layers pens (shapes_between strokes areas end (firsts i)) ++ (own_text layers pens strokes areas l (firsts i) (afters i) ++ left_parts layers pens strokes areas (afters i) others))

pub loop-label-init : goal.loop-label-init
loop-label-init g c = all_left c.requires.sound refl

pub loop-label-preserved : goal.loop-label-preserved
loop-label-preserved g c =
    let view = c.args.view.now in
    let areas = sheet_areas c.args.at (areas_in view.areas) in
    let labels = view.labels.now in
    let begin = view.before in
    let at = c.args.at in
    let l = c.loop-label in
    let i = l.label-index in
    let label = c.label-item.result in
    let k = cut_label l.end (counted at (counted begin label)) in
    let begins : c.max-first.result ≡ k.first = omega (arith, c.max-first.ensures, c.counted.ensures, ap (λ (x : LabelShape). x.first) c.label.view_is) in
    let ends : c.max-after.result ≡ k.after = omega (arith, begins, c.max-after.ensures, c.counted-in-loop-label.ensures, ap (λ (x : LabelShape). x.after) c.label.view_is) in
    let next = next_item labels i label c.loop-label-test.true c.label-item.is in
    let split = next_label c.args.layers.now view.pens.now view.strokes.now areas begin at l.end c.max-first.result c.max-after.result (drop i labels) label (drop (i + 1) labels) next begins ends in
    next_put (next_put l.invariant c.put_strokes.ensures.puts split) c.put_label.ensures.puts refl

pub returns : goal.returns
returns g c =
    let view = c.args.view.now in
    let areas = sheet_areas c.args.at (areas_in view.areas) in
    let l = c.loop-label in
    let none =
    ap (λ (z : List LabelShape). left_parts c.args.layers.now view.pens.now view.strokes.now areas l.end (by_strokes view.before c.args.at z)) (drop_all l.label-index view.labels.now c.loop-label-test.false) in
    record { puts = last_put l.invariant c.put_strokes-2.ensures.puts none }
