use Rattle.std.proofs.Common.{}
use Rattle.areas.specs.Views.{areas_in}
use Rattle.stroke_runs.specs.Sheets.{shapes_between, sheet_areas}
use Rattle.dxf.proofs.Walks.{IsAt}
use Rattle.dxf.specs.Entities.{shapes_text}
use Rattle.dxf.proofs.strokes.put_strokes.Given as goal

-- the shapes that are left
abbrev pub invariant-loop-i : goal.invariant-loop-i
invariant-loop-i g l =
    let view = l.fn.view in
    let pens = view.pens.now in
    let all = shapes_text l.layers pens (shapes_between view.strokes.now (sheet_areas l.before (areas_in view.areas)) l.fn.at l.fn.end) in
    IsAt g.K.Sink.state l.fn.text l.text l.layers pens view.areas l.before l.i l.walk l.strokes all
