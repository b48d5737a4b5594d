use Rattle.std.proofs.Common.{◌∙◌, List, ℕ, inl, subst}
use Rattle.conversion.specs.Reports.{WritesReport}
use Rattle.conversion.proofs.report_plot.report_on.Goals as goal

pub returns-in-Ok-clause-reports : goal.returns-in-Ok-clause-reports
returns-in-Ok-clause-reports g c =
    let pens = c.all-pens.result in
    let drawing = c.in-Ok.read.drawing in
    let draws = c.in-Ok.ensures.draws in
    let was = g.K.Sink.state c.args.sink.now in
    let is = g.K.Sink.state c.report_drawing.new.sink in
    let writes = subst (λ (plot : List ℕ). WritesReport c.args.setup.reading pens drawing plot was is c.report_drawing.result) (c.as_slice.ensures.value ∙ draws.text) c.report_drawing.ensures.writes in
    record { pens = pens; all = c.all-pens.ensures; reports = inl (drawing, draws.drawn, writes) }
