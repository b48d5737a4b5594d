use Rattle.std.proofs.Common.{◌≡◌, ◌≤◌, List, ap, arith, length, sym}
use Rattle.std.proofs.lemmas.Bool.Decides.{nat_tests}
use Rattle.page_images.specs.PageImages.{ImageShape}
use Rattle.pieces.proofs.Texts.{puts_as}
use Rattle.svg.specs.Sections.{sheets_with}
use Rattle.svg.specs.Views.{contents}
use Rattle.svg.proofs.SheetTexts.{none_counted, sheets_with_some}
use Rattle.svg.proofs.document.put_shown_sheets.Goals as goal

pub returns-then-is_empty : goal.returns-then-is_empty
returns-then-is_empty g c =
    let view = c.args.view.now in
    let none : length view.images.list.now ≡ 0 = grind (arith, nat_tests, c.if-is_empty.true, c.is_empty.ensures) in
    let empty = sym (none_counted view.images.first view.images.list.now none) in
    record {
      puts = puts_as c.put_sheets.ensures.puts
          (ap (λ (z : List ImageShape). sheets_with view.page.now view.pens.now (contents view) c.args.ends.now c.args.image_ends.now z) empty);
    }

pub returns-else-is_empty : goal.returns-else-is_empty
returns-else-is_empty g c =
    let view = c.args.view.now in
    let some : 1 ≤ length view.images.list.now = grind (arith, nat_tests, c.if-is_empty.false, c.is_empty.ensures) in
    record {
      puts = puts_as c.put_pictured.ensures.puts
          (sheets_with_some view.page.now view.pens.now (contents view) c.args.ends.now c.args.image_ends.now view.images.first view.images.list.now some);
    }
