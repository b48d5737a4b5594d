use Rattle.std.proofs.Common.{◌∙◌, Bool, List, Option, ap, cond, sym}
use Rattle.std.specs.List.{list_any}
use Rattle.areas.specs.Views.{areas_in}
use Rattle.labels.specs.Labels.{LabelShape, LineShape}
use Rattle.pieces.proofs.Texts.{none_put, puts_as}
use Rattle.plot_page.specs.Segments.{Segment}
use Rattle.stroke_runs.specs.Drawn.{drawn}
use Rattle.stroke_runs.specs.Sheets.{shapes_between, sheet_areas}
use Rattle.dxf.specs.Entities.{shapes_text}
use Rattle.dxf.specs.Letters.{has_letters, lines_text}
use Rattle.dxf.specs.Parts.{first_of, label_by}
use Rattle.dxf.proofs.parts.put_label.Goals as goal

pub returns-in_default : goal.returns-in_default
returns-in_default g c =
    let view = c.args.view.now in
    let pens = view.pens.now in
    let areas = sheet_areas c.args.at (areas_in view.areas) in
    let label = record c.args.label.now { first = c.args.first; after = c.args.after } in
    let found = sym c.in_default.is ∙ c.first_drawn.ensures ∙ ap (λ (ss : List Segment). first_of (drawn pens ss)) c.between.ensures in
    record {
      puts = puts_as (none_put c.requires.sound)
          (ap (λ (o : Option Segment). label_by c.args.layers.now pens view.strokes.now areas label o) found);
    }

pub returns-then-is_written : goal.returns-then-is_written
returns-then-is_written g c =
    let layers = c.args.layers.now in
    let view = c.args.view.now in
    let pens = view.pens.now in
    let strokes = view.strokes.now in
    let areas = sheet_areas c.args.at (areas_in view.areas) in
    let label = record c.args.label.now { first = c.args.first; after = c.args.after } in
    let found = sym c.in-Some.is ∙ c.first_drawn.ensures ∙ ap (λ (ss : List Segment). first_of (drawn pens ss)) c.between.ensures in
    let own = ap (λ (l : LabelShape). l.lines) c.label.view_is in
    let written = sym c.if-is_written.true ∙ c.is_written.ensures ∙ ap (λ (ls : List LineShape). list_any has_letters ls) (c.deref.ensures.value ∙ own) in
    let s = c.in-Some.stroke in
    record {
      puts = puts_as c.put_lines.ensures.puts
          (ap (λ (ls : List LineShape). lines_text layers s ls) (c.deref-then-is_written.ensures.value ∙ own)
          ∙ ap (λ (b : Bool). cond b (lines_text layers s label.lines) (shapes_text layers pens (shapes_between strokes areas c.args.first c.args.after))) written
          ∙ ap (λ (o : Option Segment). label_by layers pens strokes areas label o) found);
    }

pub returns-else-is_written : goal.returns-else-is_written
returns-else-is_written g c =
    let layers = c.args.layers.now in
    let view = c.args.view.now in
    let pens = view.pens.now in
    let strokes = view.strokes.now in
    let areas = sheet_areas c.args.at (areas_in view.areas) in
    let label = record c.args.label.now { first = c.args.first; after = c.args.after } in
    let found = sym c.in-Some.is ∙ c.first_drawn.ensures ∙ ap (λ (ss : List Segment). first_of (drawn pens ss)) c.between.ensures in
    let own = ap (λ (l : LabelShape). l.lines) c.label.view_is in
    let written = sym c.if-is_written.false ∙ c.is_written.ensures ∙ ap (λ (ls : List LineShape). list_any has_letters ls) (c.deref.ensures.value ∙ own) in
    let s = c.in-Some.stroke in
    record {
      puts = puts_as c.put_strokes.ensures.puts
          (ap (λ (b : Bool). cond b (lines_text layers s label.lines) (shapes_text layers pens (shapes_between strokes areas c.args.first c.args.after))) written
          ∙ ap (λ (o : Option Segment). label_by layers pens strokes areas label o) found);
    }
