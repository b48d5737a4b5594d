use Rattle.std.proofs.Common.{◌++◌, ◌∷◌, ◌≤◌, [], drop, length}
use Rattle.labels.specs.Sheets.{all_counted}
use Rattle.pieces.proofs.Texts.{Left}
use Rattle.svg.specs.Sections.{pictured_after}
use Rattle.svg.specs.Views.{contents}
use Rattle.svg.proofs.pictured.put_pictured.Given as goal

-- the sheets that are left
abbrev pub invariant-loop-ended : goal.invariant-loop-ended
invariant-loop-ended g l =
    let view = l.fn.view in
    let page = view.page.now in
    let pens = view.pens.now in
    let strokes = view.strokes.now in
    let ends = l.ends ++ length strokes ∷ [] in
    let labels = all_counted view.before l.rest in
    record {
      left : Left g.K.Sink.state l.fn.text l.text (pictured_after page pens (contents view) l.image_ends l.ended l.number l.at l.from (drop l.ended ends) labels)
          (pictured_after page pens (contents view) l.image_ends 0 0 0 0 ends (all_counted view.before view.labels.now));
      start : l.at ≤ length strokes;
      few : l.number ≤ l.ended;
    }
