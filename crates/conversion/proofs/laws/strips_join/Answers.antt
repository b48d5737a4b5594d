use Rattle.plot_page.specs.Resolutions.{rows_of}
use Rattle.picture_out.specs.Forms.{foot_bytes}
use Rattle.rows.specs.Pictures.{head_of}
use Rattle.conversion.specs.Laws.{job_row}
use Rattle.rows.proofs.Joined.{strip_and_more, strip_and_rest}
use Rattle.conversion.proofs.laws.strips_join.Goals as goal

pub returns : goal.returns
returns c = record {
  rest = λ rules n job reaches plot most some left. strip_and_rest (head_of job.form job.page job.dots) (job_row rules n job reaches plot) (foot_bytes job.form) (rows_of job.page job.dots) job.first_row most some left;
  more = λ rules n job reaches plot most further some left. strip_and_more (head_of job.form job.page job.dots) (job_row rules n job reaches plot) (foot_bytes job.form) (rows_of job.page job.dots) job.first_row most further some left;
}
