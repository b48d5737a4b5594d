use Rattle.std.proofs.Common.{◌≡◌, ◌+◌, ◌∙◌, ◌++◌, [], ◌∷◌, ℕ, List, ap, append-nil, arith, cond, flat_map, length, refl, sym, drop}
use Rattle.std.proofs.lemmas.List.{drop_all}
use Rattle.std.proofs.lemmas.List.Concat.{flat_map-append}
use Rattle.std.specs.List.{list_any}
use Rattle.areas.specs.Views.{areas_in}
use Rattle.areas.specs.declared.area.Area.{Area}
use Rattle.labels.specs.Labels.{LabelShape}
use Rattle.labels.specs.Sheets.{all_counted, counted}
use Rattle.pieces.proofs.Texts.{all_left, last_put, next_put}
use Rattle.plot_page.specs.Segments.{Segment}
use Rattle.plot_page.specs.declared.page.Page.{Page}
use Rattle.plot_page.specs.declared.pens.PenSet.{PenSet}
use Rattle.stroke_runs.specs.Drawn.{is_drawn}
use Rattle.stroke_runs.specs.Sheets.{between, shapes_between, sheet_areas}
use Rattle.svg.specs.Parts.{Group, cut_label, cut_labels, label_parts, part_text, parts_after}
use Rattle.svg.specs.Paths.{paths, paths_text}
use Rattle.svg.specs.Titles.{label_text}
use Rattle.svg.proofs.Texts.{next_item}
use Rattle.svg.proofs.parts.put_parts.Goals as goal

-- the text of a label with the strokes between two places
abbrev group : Page → PenSet → List Segment → List Area → List ℕ → ℕ → ℕ → List ℕ
group page pens strokes areas text first after =
    flat_map part_text (cond (list_any (is_drawn pens) (between strokes first after)) (Group text (paths page pens (shapes_between strokes areas first after)) ∷ []) [])

-- labels as they are counted
abbrev by_strokes : ℕ → ℕ → List LabelShape → List LabelShape
by_strokes before at labels = all_counted at (all_counted before labels)

-- the text of the parts after the first strokes
abbrev left_text : Page → PenSet → List Segment → List Area → ℕ → List LabelShape → List ℕ
left_text page pens strokes areas end labels = flat_map part_text (parts_after page pens strokes areas end (cut_labels end labels))

-- the next label, with the strokes before it
next_label : (page : Page) (pens : PenSet) (strokes : List Segment) (areas : List Area) (before at end first after : ℕ) (left : List LabelShape) (l : LabelShape) (ls : List LabelShape)
    → left ≡ l ∷ ls → first ≡ (cut_label end (counted at (counted before l))).first → after ≡ (cut_label end (counted at (counted before l))).after
    → left_text page pens strokes areas end (by_strokes before at left)
    ≡ paths_text page pens (shapes_between strokes areas end first) ++ (group page pens strokes areas (label_text l) first after ++ left_text page pens strokes areas after (by_strokes before at ls))
next_label page pens strokes areas before at end first after left l ls next f a =
    let k = cut_label end (counted at (counted before l)) in
    let others = by_strokes before at ls in
    let firsts = sym f in
    let afters = sym a in
    ap (λ (z : List LabelShape). left_text page pens strokes areas end (by_strokes before at z)) next
    ∙ ap (λ (z : List ℕ). paths_text page pens (shapes_between strokes areas end k.first) ++ z) (flat_map-append part_text (label_parts page pens strokes areas k) (parts_after page pens strokes areas k.after (cut_labels k.after others)))
    ∙ (λ i. paths_text page pens (shapes_between strokes areas end (firsts i)) ++ (group page pens strokes areas (label_text l) (firsts i) (afters i) ++ left_text page pens strokes areas (afters i) others))

pub loop-label-init : goal.loop-label-init
loop-label-init g c = all_left c.requires.sound refl

pub loop-label-preserved : goal.loop-label-preserved
loop-label-preserved g c =
    let view = c.args.view.now in
    let areas = sheet_areas c.args.at (areas_in view.areas) in
    let labels = view.labels.now in
    let begin = view.before in
    let at = c.args.at in
    let l = c.loop-label in
    let i = l.label-index in
    let label = c.label-item.result in
    let k = cut_label l.end (counted at (counted begin label)) in
    let begins : c.max-first.result ≡ k.first = omega (arith, c.max-first.ensures, c.counted.ensures, ap (λ (x : LabelShape). x.first) c.label.view_is) in
    let ends : c.max-after.result ≡ k.after = omega (arith, begins, c.max-after.ensures, c.counted-in-loop-label.ensures, ap (λ (x : LabelShape). x.after) c.label.view_is) in
    let next = next_item labels i label c.loop-label-test.true c.label-item.is in
    let split = next_label view.page.now view.pens.now view.strokes.now areas begin at l.end c.max-first.result c.max-after.result (drop i labels) label (drop (i + 1) labels) next begins ends in
    next_put (next_put l.invariant c.put_strokes.ensures.puts split) c.put_label.ensures.puts refl

pub returns : goal.returns
returns g c =
    let view = c.args.view.now in
    let page = view.page.now in
    let pens = view.pens.now in
    let strokes = view.strokes.now in
    let areas = sheet_areas c.args.at (areas_in view.areas) in
    let l = c.loop-label in
    let none =
    ap (λ (z : List LabelShape). left_text page pens strokes areas l.end (by_strokes view.before c.args.at z)) (drop_all l.label-index view.labels.now c.loop-label-test.false)
    ∙ append-nil (paths_text page pens (shapes_between strokes areas l.end (length strokes))) in
    record { puts = last_put l.invariant c.put_strokes-2.ensures.puts none }
