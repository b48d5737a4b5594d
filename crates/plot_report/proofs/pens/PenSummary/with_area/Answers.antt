use Rattle.std.proofs.Common.{ap, refl}
use Rattle.plot_report.specs.declared.pens.PenSummary.{PenSummary}
use Rattle.plot_report.specs.Report.{all_edges, areas_among}
use Rattle.plot_report.proofs.Table.{area_added}
use Rattle.plot_report.proofs.pens.PenSummary.with_area.Goals as goal

pub returns : goal.returns
returns c before rule h =
    let edges = c.with_all.ensures.sums (all_edges (areas_among before)) (ap (λ (p : PenSummary). p.edges) h) in
    area_added before rule c.args.edges.now c.args.self _ c.with_all.result h refl edges
