use Rattle.std.proofs.Common.{drop}
use Rattle.areas.specs.Views.{areas_in}
use Rattle.labels.specs.Sheets.{all_counted}
use Rattle.pieces.proofs.Texts.{Left}
use Rattle.stroke_runs.specs.Sheets.{sheet_areas}
use Rattle.svg.specs.Parts.{cut_labels}
use Rattle.dxf.specs.Parts.{parts_after, parts_text}
use Rattle.dxf.proofs.parts.put_parts.Given as goal

-- the parts that are left
abbrev pub invariant-loop-label : goal.invariant-loop-label
invariant-loop-label g l =
    let view = l.fn.view in
    let pens = view.pens.now in
    let strokes = view.strokes.now in
    let areas = sheet_areas l.at (areas_in view.areas) in
    let left = cut_labels l.end (all_counted l.at (all_counted view.before (drop l.label-index view.labels.now))) in
    Left g.K.Sink.state l.fn.text l.text (parts_after l.layers pens strokes areas l.end left) (parts_text l.layers pens strokes areas (all_counted l.at (all_counted view.before view.labels.now)))
