use Rattle.std.proofs.Common.{◌≡◌, ◌≤◌, List, ap, arith, length, sym}
use Rattle.std.proofs.lemmas.Bool.Decides.{nat_tests}
use Rattle.areas.specs.Views.{areas_in}
use Rattle.areas.proofs.Apart.{apart_in}
use Rattle.labels.specs.Sheets.{all_counted}
use Rattle.page_images.specs.PageImages.{ImageShape}
use Rattle.pieces.proofs.Texts.{puts_as}
use Rattle.stroke_runs.proofs.ShapeCuts.{all_areas}
use Rattle.svg.specs.Parts.{parts_text}
use Rattle.svg.specs.Sections.{shown_with}
use Rattle.svg.specs.Views.{contents}
use Rattle.svg.proofs.Counts.{counted_none}
use Rattle.svg.proofs.SheetTexts.{none_counted, with_some}
use Rattle.svg.proofs.document.put_shown.Goals as goal
use Rattle.std.proofs.Common.{◌∙◌}

pub returns-then-is_empty : goal.returns-then-is_empty
returns-then-is_empty g c =
    let view = c.args.view.now in
    let page = view.page.now in
    let pens = view.pens.now in
    let strokes = view.strokes.now in
    let areas = all_areas (areas_in view.areas) (apart_in view.areas) in
    let labels = counted_none (all_counted view.before view.labels.now) in
    let none : length view.images.list.now ≡ 0 = grind (arith, nat_tests, c.if-is_empty.true, c.is_empty.ensures) in
    let empty = sym (none_counted view.images.first view.images.list.now none) in
    record {
      puts = puts_as c.put_parts.ensures.puts
          ((λ i. parts_text page pens strokes (areas i) (labels i)) ∙ ap (λ (z : List ImageShape). shown_with page pens (contents view) z) empty);
    }

pub returns-else-is_empty : goal.returns-else-is_empty
returns-else-is_empty g c =
    let view = c.args.view.now in
    let some : 1 ≤ length view.images.list.now = grind (arith, nat_tests, c.if-is_empty.false, c.is_empty.ensures) in
    record { puts = puts_as c.put_sections.ensures.puts (with_some view.page.now view.pens.now (contents view) view.images.first view.images.list.now some) }
