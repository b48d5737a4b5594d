use Rattle.std.proofs.Common.{◌∙◌, ap, sym}
use Rattle.areas.specs.Views.{areas_in}
use Rattle.labels.specs.Sheets.{all_counted}
use Rattle.pieces.proofs.Texts.{puts_as}
use Rattle.stroke_runs.specs.Sheets.{sheet_areas}
use Rattle.svg.specs.Sheets.{Sheet}
use Rattle.dxf.specs.Documents.{sheet_text}
use Rattle.dxf.specs.Layers.{layers_text}
use Rattle.dxf.specs.Parts.{parts_text}
use Rattle.dxf.specs.declared.layers.Layers.{Layers}
use Rattle.dxf.specs.declared.sheets.Section.{Section}
use Rattle.dxf.proofs.sheets.put_sheet.Goals as goal

pub returns-in-Layers : goal.returns-in-Layers
returns-in-Layers g c =
    let view = c.args.view.now in
    let sheet : Sheet = record {
      strokes = view.strokes.now;
      areas = sheet_areas c.args.at (areas_in view.areas);
      labels = all_counted c.args.at (all_counted view.before view.labels.now);
    } in
    record {
      puts = puts_as c.put_layers.ensures.puts
          (ap (λ (it : Layers). layers_text it) c.of-layers.ensures
          ∙ ap (λ (section : Section). sheet_text section view.pens.now c.args.number sheet) (sym c.in-Layers.is));
    }

pub returns-in-Entities : goal.returns-in-Entities
returns-in-Entities g c =
    let view = c.args.view.now in
    let sheet : Sheet = record {
      strokes = view.strokes.now;
      areas = sheet_areas c.args.at (areas_in view.areas);
      labels = all_counted c.args.at (all_counted view.before view.labels.now);
    } in
    record {
      puts = puts_as c.put_parts.ensures.puts
          (ap (λ (it : Layers). parts_text it view.pens.now sheet.strokes sheet.areas sheet.labels) c.of-layers.ensures
          ∙ ap (λ (section : Section). sheet_text section view.pens.now c.args.number sheet) (sym c.in-Entities.is));
    }
