-- The picture of a plot, and why a plot has none.
use Rattle.std.specs.Prelude.{ℕ, List, Option, ◌≡◌, ◌<◌, ◌≤◌, if◌then◌else◌, length, false, Some, None, option_map, ⊤}
use Rattle.hpgl_plot.specs.declared.fault.PlotFault.{PlotFault}
use Rattle.plot_page.specs.declared.page.Page.{Page}
use Rattle.plot_page.specs.Segments.{Segment}
use Rattle.plot_page.specs.Resolutions.{rows_of}
use Rattle.hpgl_plot.specs.Strokes.{strokes, refusal}
use Rattle.hpgl_text.specs.Cut.{cut}
use Rattle.hpgl_text.specs.declared.program.TheConstants.{LONGEST_PLOT}
use Rattle.picture_out.specs.Forms.{foot_bytes}
use Rattle.picture_job.specs.declared.job.Job.{Job}
use Rattle.rows.specs.Pictures.{Reach, has_resolution, head_of, job_fault, picture_of, row_of}
use Rattle.conversion.specs.PageJobs.{has_too_many_pixels}
use Rattle.conversion.specs.declared.fault.Fault.{Fault}
use Rattle.conversion.specs.declared.fault.Fault.TheVariants.{TooLong, Memory, Pixels, Plot, Paint, Write, Read, Resolution}

-- the strokes of a plot that is accepted
abbrev pub plot_strokes : Page → List ℕ → List Segment
plot_strokes page plot = strokes page (cut plot)

-- the first refusal, or None if the plot is accepted
abbrev pub plot_refusal : Page → List ℕ → Option PlotFault
plot_refusal page plot = refusal page (cut plot)

-- the picture of a plot, not smoothed
abbrev pub picture : Job → Reach → List ℕ → List ℕ
picture job reaches plot =
    picture_of (head_of job.form job.page job.dots)
    (row_of job.form reaches job.pens (plot_strokes job.page plot) job.page job.dots)
    (foot_bytes job.form) (rows_of job.page job.dots) job.first_row

-- the first of two, if there is one
abbrev pub first_fault : Option Fault → Option Fault → Option Fault
first_fault (Some fault) later = Some fault
first_fault None later = later

-- the picture of a job has too many pixels
abbrev pub size_fault : Job → Option Fault
size_fault job = if has_too_many_pixels job.page job.dots then Some Pixels else None

-- the first of a plot's refusal for the page, the picture's too many pixels and the job's fault, if there is one
abbrev pub refused_fault : Job → Option PlotFault → Option Fault
refused_fault job refusal =
    first_fault (option_map Plot refusal) (first_fault (size_fault job) (option_map Paint (job_fault job)))

-- why a plot that was read whole has no picture of a job, or None if it has one
abbrev pub fault_of : Job → List ℕ → Option Fault
fault_of job plot = refused_fault job (plot_refusal job.page plot)

-- a plot has a picture of a job: it is not too long, and nothing refuses it
pub record HasPicture (job : Job) (plot : List ℕ) : Type 0 where
  pub within : length plot ≤ LONGEST_PLOT
  pub accepted : fault_of job plot ≡ None

-- why a plot in memory has no picture of a job. No device fails; what memory does is left open
abbrev pub Refuses : Job → List ℕ → Fault → Type 0
Refuses job plot TooLong = LONGEST_PLOT < length plot
Refuses job plot (Write row whole bytes) = ⊥
Refuses job plot Read = ⊥
Refuses job plot Memory = ⊤
Refuses job plot Resolution = has_resolution job ≡ false
Refuses job plot fault = fault_of job plot ≡ Some fault
