use Rattle.std.proofs.Common.{◌≡◌, ◌-◌, ◌+◌, ◌<◌, ◌∙◌, [], ap, arith, rules, sym, length}
use Rattle.plot_page.specs.Segments.{Segment}
use Rattle.plot_report.specs.Report.{last_pen, shapes_of}
use Rattle.plot_report.specs.Summaries.{area_with, pen_summary}
use Rattle.plot_report.proofs.Table.{pen_of_last, same_strokes, table_more}
use Rattle.plot_report.proofs.pens.Summaries.add_area.Goals as goal

pub with_area-requires : goal.with_area-requires
with_area-requires c =
    let pen = c.last.inside.pen in
    let some : 0 < pen = search rules in
    let small : pen < 256 = search rules in
    let few = c.requires.room.areas_of_pen pen (pen_summary []) some small in
    let few_edges = c.requires.room.edges_of_pen pen (pen_summary []) some small in
    record { room = omega (arith, few); edges = omega (arith, few_edges, c.requires.edges) }

pub returns : goal.returns
returns c before rule h =
    let edges = c.args.edges.now in
    let last = c.index-edges-edges.result in
    let pen = c.last.inside.pen in
    let size : length edges ≡ length edges - 1 + 1 = omega (arith, c.requires.some) in
    let its_pen : last_pen edges ≡ pen =
    pen_of_last edges last (length edges - 1) size ∙ sym (ap (λ (t : Segment). t.pen) (c.last.view_is ∙ c.index-edges-edges.is)) in
    let some : 0 < pen = search rules in
    let small : pen < 256 = search rules in
    let in_table : pen < length c.args.self.now.pens = search rules in
    record {
      strokes = h.strokes ∙ ap length (sym (same_strokes before rule edges));
      pens = table_more c.args.self.now.pens before (area_with rule edges) pen c.with_area.result in_table its_pen h.pens (c.with_area.ensures (shapes_of pen before) rule (h.pens pen (pen_summary []) some small));
    }
