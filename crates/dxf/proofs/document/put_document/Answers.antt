use Rattle.std.proofs.Common.{◌∙◌, ap}
use Rattle.areas.specs.Views.{areas_in}
use Rattle.labels.specs.Sheets.{all_counted}
use Rattle.pieces.proofs.Texts.{◌then◌, puts_as, written}
use Rattle.areas.proofs.Apart.{apart_in}
use Rattle.stroke_runs.proofs.ShapeCuts.{all_areas}
use Rattle.svg.proofs.Counts.{counted_none}
use Rattle.dxf.specs.Layers.{layers_text}
use Rattle.dxf.specs.Parts.{parts_text}
use Rattle.dxf.specs.declared.layers.Layers.{Layers}
use Rattle.dxf.proofs.document.put_document.Goals as goal

pub returns : goal.returns
returns g c =
    let view = c.args.view.now in
    let pens = view.pens.now in
    let strokes = view.strokes.now in
    let areas = all_areas (areas_in view.areas) (apart_in view.areas) in
    let labels = counted_none (all_counted view.before view.labels.now) in
    let own = c.of-layers.ensures in
    let layers = puts_as c.put_layers.ensures.puts (ap (λ (it : Layers). layers_text it) own) in
    let shown = puts_as c.put_parts.ensures.puts (λ i. parts_text (own i) pens strokes (areas i) (labels i)) in
    let puts = c.put_head.ensures.puts then layers then c.put_middle.ensures.puts then shown then c.put_foot.ensures.puts in
    record {
      same = c.finish.ensures.same ∙ puts.same;
      writes = written g.K.Sink.state c.args.text.now c.put_foot.new.text _ _ c.finish.result c.requires.new puts c.finish.ensures.finishes;
    }
