use Rattle.std.proofs.Common.{ap}
use Rattle.plot_report.specs.declared.pens.PenSummary.{PenSummary}
use Rattle.plot_report.specs.Report.{strokes_among}
use Rattle.plot_report.proofs.Table.{stroke_added}
use Rattle.plot_report.proofs.pens.PenSummary.with_stroke.Goals as goal

pub returns : goal.returns
returns c before h =
    let strokes = c.with.ensures.sums (strokes_among before) (ap (λ (p : PenSummary). p.strokes) h) in
    stroke_added before c.args.stroke.now c.args.self c.with.result h strokes
