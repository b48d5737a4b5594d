use Rattle.std.proofs.Common.{◌+◌, ◌∙◌, ◌≡◌, List, ℕ, ap, arith, drop, refl}
use Rattle.std.proofs.lemmas.List.{drop_all}
use Rattle.labels.specs.Labels.{LabelShape}
use Rattle.labels.specs.Sheets.{all_counted, count_to}
use Rattle.page_images.specs.PageImages as shapes
use Rattle.pieces.proofs.Texts.{all_left, last_put, next_put}
use Rattle.svg.specs.Sections.{sections_text}
use Rattle.svg.specs.Views.{contents}
use Rattle.svg.proofs.Counts.{rest_counted}
use Rattle.svg.proofs.ImageTexts.{next_section}
use Rattle.svg.proofs.Texts.{next_item}
use Rattle.svg.proofs.sections.put_sections.Goals as goal

pub loop-image-init : goal.loop-image-init
loop-image-init g c = record { left = all_left c.requires.sound refl; start = c.requires.start }

pub loop-image-preserved : goal.loop-image-preserved
loop-image-preserved g c =
    let view = c.args.view.now in
    let first = view.images.first in
    let before = view.before in
    let images = c.args.images.now in
    let l = c.loop-image in
    let i = l.image-index in
    let image = c.image-item.result in
    let cut = c.strokes_before-cut.result in
    let labels = all_counted before l.rest.now in
    let later : all_counted before c.split_at.result.1.now ≡ drop (count_to cut labels) labels =
    ap (λ (z : List LabelShape). all_counted before z) c.split_at.ensures.back ∙ rest_counted before c.count_to.result l.rest.now ∙ ap (λ (m : ℕ). drop m labels) c.count_to.ensures.value in
    let next = next_item images i image c.loop-image-test.true c.image-item.is in
    let split = next_section view.page.now view.pens.now (contents view) first l.done c.args.end cut c.max-done.result labels _ (drop i images) (drop (i + 1) images) image next c.strokes_before-cut.ensures.value c.max-done.ensures later in
    record {
      left = next_put (next_put l.invariant.left c.put_section.ensures.puts split) c.put_image.ensures.puts refl;
      start = omega (arith, l.invariant.start, c.max-done.ensures, c.strokes_before-cut.ensures.within, c.requires.within);
    }

pub returns : goal.returns
returns g c =
    let view = c.args.view.now in
    let l = c.loop-image in
    let none = ap (λ (z : List shapes.ImageShape). sections_text view.page.now view.pens.now (contents view) l.done c.args.end (all_counted view.before l.rest.now) (shapes.all_counted view.images.first z)) (drop_all l.image-index c.args.images.now c.loop-image-test.false) in
    record { puts = last_put l.invariant.left c.put_section-2.ensures.puts none }
