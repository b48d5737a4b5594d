use Rattle.std.proofs.Common.{◌≡◌, ℕ, ◌+◌, ◌<◌, ◌∙◌, ◌∷◌, [], ap, arith, rules, sym, length, length-append}
use Rattle.areas.specs.Shapes.{stroke_shape}
use Rattle.plot_page.specs.Segments.{Segment}
use Rattle.plot_report.specs.Report.{shapes_of, strokes_among}
use Rattle.plot_report.specs.Summaries.{pen_summary}
use Rattle.plot_report.proofs.Table.{strokes_and_one, table_more}
use Rattle.plot_report.proofs.pens.Summaries.add_stroke.Goals as goal

pub with_stroke-requires : goal.with_stroke-requires
with_stroke-requires c =
    let pen = c.stroke.inside.pen in
    let some : 0 < pen = search rules in
    let small : pen < 256 = search rules in
    let few = c.requires.room.of_pen pen (pen_summary []) some small in
    record { room = omega (arith, few) }

pub returns : goal.returns
returns c before h =
    let s = c.args.stroke.now in
    let pen = c.stroke.inside.pen in
    let its_pen : pen ≡ s.pen = ap (λ (t : Segment). t.pen) c.stroke.view_is in
    let some : 0 < pen = search rules in
    let small : pen < 256 = search rules in
    let in_table : pen < length c.args.self.now.pens = search rules in
    record {
      strokes = ap (λ (n : ℕ). n + 1) h.strokes ∙ sym (length-append (strokes_among before) (s ∷ [])) ∙ ap length (sym (strokes_and_one before s));
      pens = table_more c.args.self.now.pens before (stroke_shape s) pen c.with_stroke.result in_table (sym its_pen) h.pens (c.with_stroke.ensures (shapes_of pen before) (h.pens pen (pen_summary []) some small));
    }
