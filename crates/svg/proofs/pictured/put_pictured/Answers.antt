use Rattle.std.proofs.Common.{◌≡◌, ◌+◌, ◌++◌, ◌∙◌, ℕ, List, [], ◌∷◌, ap, refl, sym, arith, true, false, length, drop, nat_eq, ◌&&◌}
use Rattle.std.proofs.lemmas.List.{length-map}
use Rattle.std.proofs.lemmas.Bool.Decides.{nat_tests}
use Rattle.std.specs.List.{slice_index_or}
use Rattle.labels.specs.Labels.{LabelShape}
use Rattle.labels.specs.Sheets.{all_counted, count_to}
use Rattle.page_images.specs.PageImages as shapes
use Rattle.pieces.proofs.Texts.{◌then◌, all_left, left_as, next_put}
use Rattle.plot_page.specs.Segments.{Segment}
use Rattle.stroke_runs.specs.Sheets.{between}
use Rattle.svg.specs.Sections.{images_until, is_bare}
use Rattle.svg.specs.Views.{contents}
use Rattle.svg.proofs.Counts.{rest_counted}
use Rattle.svg.proofs.SheetTexts.{between_counted, next_pictured, passed_pictured}
use Rattle.svg.proofs.Texts.{next_end}
use Rattle.svg.proofs.pictured.put_pictured.Goals as goal
use Rattle.svg.proofs.pictured.put_pictured.Goals.{then-not-is_bare, else-not-is_bare}

pub loop-ended-init : goal.loop-ended-init
loop-ended-init g c = record { left = all_left c.requires.sound refl; start = omega arith; few = omega arith }

pub loop-ended-preserved : goal.loop-ended-preserved
loop-ended-preserved g c =
    let view = c.args.view.now in
    let page = view.page.now in
    let pens = view.pens.now in
    let strokes = view.strokes.now in
    let before = view.before in
    let first = view.images.first in
    let list = view.images.list.now in
    let image_ends = c.args.image_ends.now in
    let all = contents view in
    let ends = c.args.ends.now ++ length strokes ∷ [] in
    let l = c.loop-ended in
    let k = l.ended in
    let end = c.end_of.result in
    let stop = c.min-end.result in
    let until = c.image_end_of-image_end.result in
    let here = c.images_between-images.result.now in
    let images = shapes.all_counted first here in
    let others = drop (k + 1) ends in
    let labels = all_counted before l.rest.now in
    let ended : drop k ends ≡ end ∷ others = next_end c.args.ends.now (length strokes) k (omega arith) ∙ ap (λ (e : ℕ). e ∷ others) (sym c.end_of.ensures) in
    let untils : until ≡ images_until all image_ends k = c.image_end_of-image_end.ensures ∙ ap (λ (n : ℕ). slice_index_or image_ends k n) (sym (length-map list (shapes.counted first))) in
    let are : images ≡ shapes.images_between l.from until all.images = ap (λ (z : List shapes.ImageShape). shapes.all_counted first z) c.images_between-images.ensures ∙ sym (between_counted first l.from until list) in
    let bare : is_bare (between strokes l.at stop) images ≡ c.is_bare.result =
    sym (c.is_bare.ensures ∙ ap (λ (z : List Segment). is_bare z here) c.between.ensures ∙ ap (λ (n : ℕ). nat_eq (length (between strokes l.at stop)) 0 && nat_eq n 0) (sym (length-map here (shapes.counted first)))) in
    elim c.if-not-is_bare.branch [
      | then-not-is_bare w ↦
          let some : c.is_bare.result ≡ false = grind (arith, nat_tests, w.if-not-is_bare.true) in
          let later : all_counted before w.split_at.result.1.now ≡ drop (count_to stop labels) labels =
          ap (λ (z : List LabelShape). all_counted before z) w.split_at.ensures.back ∙ rest_counted before w.count_to.result l.rest.now ∙ ap (λ (m : ℕ). drop m labels) w.count_to.ensures.value in
          let next = next_pictured page pens all image_ends k l.number l.at l.from end stop until (drop k ends) others labels _ images ended c.min-end.ensures untils are later (bare ∙ some) in
          let put = next_put l.invariant.left (w.put_open.ensures.puts then w.put_sections.ensures.puts then w.put.ensures.puts) next in
          record {
            left = rw (w.text-is, w.at-is, w.from-is, w.number-is, w.rest-is) put;
            start = rw w.at-is omega (arith, c.min-end.ensures);
            few = rw w.number-is omega (arith, l.invariant.few);
          }
      | else-not-is_bare w ↦
          let none : c.is_bare.result ≡ true = grind (arith, nat_tests, w.if-not-is_bare.false) in
          let next = passed_pictured page pens all image_ends k l.number l.at l.from end stop until (drop k ends) others labels images ended c.min-end.ensures untils are (bare ∙ none) in
          record {
            left = rw (w.text-is, w.at-is, w.from-is, w.number-is, w.rest-is) (left_as l.invariant.left next);
            start = rw w.at-is l.invariant.start;
            few = rw w.number-is omega (arith, l.invariant.few);
          }
    ]
