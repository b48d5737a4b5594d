use Rattle.std.proofs.Common.{◌++◌, ◌∷◌, ◌≤◌, [], drop, length}
use Rattle.areas.specs.Views.{areas_in}
use Rattle.labels.specs.Sheets.{all_counted}
use Rattle.pieces.proofs.Texts.{Left}
use Rattle.dxf.specs.Documents.{sheets_text}
use Rattle.svg.specs.Sheets.{labelled_after, labelled_sheets}
use Rattle.dxf.proofs.sheets.put_sheets.Given as goal

-- the sheets that are left
abbrev pub invariant-loop-ended : goal.invariant-loop-ended
invariant-loop-ended g l =
    let view = l.fn.view in
    let pens = view.pens.now in
    let strokes = view.strokes.now in
    let areas = areas_in view.areas in
    let all = sheets_text l.section pens 0 (labelled_sheets strokes areas l.ends (all_counted view.before view.labels.now)) in
    let left = labelled_after strokes areas l.at (drop l.ended (l.ends ++ length strokes ∷ [])) (all_counted view.before l.rest) in
    record {
      left : Left g.K.Sink.state l.fn.text l.text (sheets_text l.section pens l.number left) all;
      few : l.number ≤ l.at;
      fewer : l.number ≤ length strokes;
    }
