use Rattle.std.proofs.Common.{◌≡◌, ◌+◌, drop}
use Rattle.areas.specs.Views.{areas_in}
use Rattle.stroke_runs.specs.Roles.{members_from}
use Rattle.stroke_runs.specs.Sheets.{sheet_areas}
use Rattle.pdf.specs.RunTexts.{shapes_text}
use Rattle.pdf.specs.Steps.{steps_text}
use Rattle.pdf.proofs.Contained.{Remains}
use Rattle.pdf.proofs.stream.put_shapes.Given as goal

-- what is written for the strokes that are left, and how many came before them
abbrev pub invariant-loop-stroke : goal.invariant-loop-stroke
invariant-loop-stroke g l =
    let sheet = l.fn.sheet in
    record {
      remains : Remains g.K.Sink.state l.fn.document l.document l.fn.content l.content
          (steps_text sheet.page.now l.path (members_from sheet.pens.now l.roles (drop l.stroke-index sheet.strokes.now)))
          (shapes_text sheet.page.now sheet.pens.now sheet.strokes.now (sheet_areas sheet.from (areas_in sheet.areas)));
      before : l.roles.before ≡ sheet.from + l.stroke-index;
    }
