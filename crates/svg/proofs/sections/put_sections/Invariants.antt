use Rattle.std.proofs.Common.{◌≤◌, drop, length}
use Rattle.labels.specs.Sheets.{all_counted}
use Rattle.page_images.specs.PageImages as shapes
use Rattle.pieces.proofs.Texts.{Left}
use Rattle.svg.specs.Sections.{sections_text}
use Rattle.svg.specs.Views.{contents}
use Rattle.svg.proofs.sections.put_sections.Given as goal

-- the sections that are left
abbrev pub invariant-loop-image : goal.invariant-loop-image
invariant-loop-image g l =
    let view = l.fn.view in
    let page = view.page.now in
    let pens = view.pens.now in
    let first = view.images.first in
    let left = shapes.all_counted first (drop l.image-index l.images) in
    record {
      left : Left g.K.Sink.state l.fn.text l.text (sections_text page pens (contents view) l.done l.end (all_counted view.before l.rest) left)
          (sections_text page pens (contents view) l.at l.end (all_counted view.before l.fn.labels) (shapes.all_counted first l.images));
      start : l.done ≤ length view.strokes.now;
    }
