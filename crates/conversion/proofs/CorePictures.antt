-- The picture that the core has of a plot, by its rules.
use Rattle.std.proofs.Common.{◌≡◌, ℕ, List}
use Rattle.plot_page.specs.Resolutions.{rows_of}
use Rattle.picture_out.specs.Forms.{foot_bytes}
use Rattle.picture_job.specs.declared.job.Job.{Job}
use Rattle.rows.specs.Pictures.{Reach, head_of, picture_of}
use Rattle.rows.proofs.Alone.{row_alone}
use Rattle.conversion.specs.Pictures.{picture, plot_strokes}
use Rattle.conversion.specs.Rules.{core_rules, picture_by}

pub core_picture : (job : Job) (reaches : Reach) (plot : List ℕ) → picture_by core_rules 1 job reaches plot ≡ picture job reaches plot
core_picture job reaches plot = λ i.
    picture_of (head_of job.form job.page job.dots) (λ row. row_alone job.form reaches job.pens (plot_strokes job.page plot) job.page job.dots row i)
    (foot_bytes job.form) (rows_of job.page job.dots) job.first_row
