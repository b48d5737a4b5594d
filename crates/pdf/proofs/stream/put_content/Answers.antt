use Rattle.std.proofs.Common.{sym}
use Rattle.areas.specs.Views.{areas_in}
use Rattle.labels.specs.Sheets.{all_counted}
use Rattle.stroke_runs.specs.Sheets.{sheet_areas}
use Rattle.pdf.proofs.Contained.{fills_as, ◌next◌}
use Rattle.pdf.proofs.OperatorTexts.{of_content}
use Rattle.pdf.proofs.stream.put_content.Goals as goal

pub returns : goal.returns
returns g c =
    let sheet = c.args.sheet.now in
    record {
      fills = fills_as (c.put_shapes.ensures.fills next c.put_texts.ensures.fills)
          (sym (of_content sheet.page.now sheet.pens.now sheet.strokes.now (sheet_areas sheet.from (areas_in sheet.areas)) (all_counted sheet.from (all_counted sheet.earlier sheet.labels.now))));
    }
