use Rattle.std.proofs.Common.{◌≡◌, ◌<◌, ◌+◌, ◌-◌, ◌*◌, ◌^◌, ◌++◌, ◌∙◌, [], ◌∷◌, ℕ, List, ap, sym, take, drop, get_or, length, length-append, length-drop, length-take, arith, refl}
use Rattle.std.proofs.lemmas.Int.{ints}
use Rattle.std.proofs.lemmas.List.{drop_all}
use Rattle.labels.specs.Labels.{LabelShape}
use Rattle.labels.specs.Sheets.{all_counted, count_to, labels_to}
use Rattle.areas.specs.Views.{areas_in}
use Rattle.pdf.specs.Documents.{page_areas, sheet_labels, sheets}
use Rattle.pdf.specs.Units.{unit_of}
use Rattle.pdf.proofs.AddedObjects.{nothing_added}
use Rattle.pdf.proofs.AddedPages.{all_follow, next_follows, page_more}
use Rattle.pdf.proofs.LabelLists.{count_drop, count_take, letters_parts}
use Rattle.pdf.proofs.Lists.{next_at}
use Rattle.pdf.proofs.pages.put_pages.Goals as goal

pub put_page-requires-clause-letters : goal.put_page-requires-clause-letters
put_page-requires-clause-letters g c =
    omega (arith, letters_parts c.count_to-count.result c.loop-index.rest.now c.split_at.result.0.now c.split_at.result.1.now c.split_at.ensures.front c.split_at.ensures.back, c.loop-index.invariant.letters, c.requires.letters)

pub invariant_of-sheet : goal.invariant_of-sheet
invariant_of-sheet g c =
    let strokes = c.args.view.now.strokes.now in
    let end = get_or c.args.ends.now c.loop-index.index 0 in
    let fits : end < 2 ^ 64 = omega (arith, ints, c.type_inv.ends c.loop-index.index) in
    let long : length c.between.result.now ≡ length (take end strokes) - c.loop-index.from = ap length c.between.ensures ∙ length-drop c.loop-index.from (take end strokes) in
    record { few = omega (arith, c.loop-index.invariant.from, fits, long, length-take end strokes) }

pub loop-index-init : goal.loop-index-init
loop-index-init g c = record { streams = []; follows = λ rest are. are; added = nothing_added c.requires.sound; count = refl; letters = omega arith; from = omega arith }

pub loop-index-preserved : goal.loop-index-preserved
loop-index-preserved g c =
    let l = c.loop-index in
    let i = l.index in
    let view = c.args.view.now in
    let ends = c.args.ends.now in
    let end = get_or ends i 0 in
    let strokes = view.strokes.now in
    let before = view.before in
    let areas = areas_in view.areas in
    let streams = l.invariant.streams in
    let count = c.count_to-count.result in
    let left = all_counted before l.rest.now in
    let here : List LabelShape = c.split_at.result.0.now in
    let others : List LabelShape = c.split_at.result.1.now in
    let front = c.split_at.ensures.front in
    let back = c.split_at.ensures.back in
    let shown : all_counted l.from (all_counted before here) ≡ all_counted l.from (labels_to end left) =
    ap (all_counted l.from) (ap (all_counted before) front ∙ count_take before count l.rest.now ∙ ap (λ (k : ℕ). take k left) c.count_to-count.ensures.value) in
    let after : all_counted before others ≡ drop (count_to end left) left =
    ap (all_counted before) back ∙ count_drop before count l.rest.now ∙ ap (λ (k : ℕ). drop k left) c.count_to-count.ensures.value in
    let page = c.put_page.ensures.adds in
    record {
      streams = streams ++ page.stream ∷ [];
      follows = next_follows view.page.now view.pens.now (sheets strokes 0 ends) (page_areas areas 0 ends) (sheet_labels (all_counted before view.labels.now) 0 ends) strokes c.between.result.now areas left
          (all_counted l.from (all_counted before here)) (all_counted before others) l.from end (drop i ends) (drop (i + 1) ends) streams page.stream
          l.invariant.follows (next_at ends i c.loop-index-test.true) c.between.ensures shown after page.reads;
      added = page_more (unit_of view.page.now) streams page.stream l.invariant.added page.adds (ap (λ (k : ℕ). c.args.before + 3 * k) (sym l.invariant.count));
      count = omega (arith, length-append streams (page.stream ∷ []), l.invariant.count);
      letters = omega (arith, letters_parts count l.rest.now here others front back, l.invariant.letters);
      from = omega (arith, ints, c.type_inv.ends i);
    }

pub returns : goal.returns
returns g c =
    let l = c.loop-index in
    let view = c.args.view.now in
    let ends = c.args.ends.now in
    record {
      adds = record {
        streams = l.invariant.streams;
        are = all_follow view.page.now view.pens.now (sheets view.strokes.now 0 ends) (page_areas (areas_in view.areas) 0 ends) (sheet_labels (all_counted view.before view.labels.now) 0 ends) view.strokes.now (areas_in view.areas) (all_counted view.before l.rest.now) l.from (drop l.index ends) l.invariant.streams
            l.invariant.follows (drop_all l.index ends c.loop-index-test.false);
        adds = l.invariant.added;
      };
    }
