use Rattle.picture_job.specs.declared.reading.Reading.TheVariants.{Core}
use Rattle.conversion.proofs.Choices.{reported_on_it}
use Rattle.conversion.proofs.report_plot.report.Goals as goal

pub returns-in-Ok-clause-reports : goal.returns-in-Ok-clause-reports
returns-in-Ok-clause-reports g c = reported_on_it Core c.empty.result c.args.page.now _ _ _ _ _ c.empty.ensures c.in-Ok.ensures.reports

pub returns-in-Err-clause-reports : goal.returns-in-Err-clause-reports
returns-in-Err-clause-reports g c = reported_on_it Core c.empty.result c.args.page.now _ _ _ _ _ c.empty.ensures c.in-Err.ensures.reports
