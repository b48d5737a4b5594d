-- When a plot that was read whole has a picture of a job, and why not if it has none.
use Rattle.std.proofs.Common.{◌≡◌, ℕ, List, Option, Some, None, Err, false, true, refl, subst, option_map}
use Rattle.picture_job.specs.declared.job.Job.{Job}
use Rattle.stroke_raster.specs.declared.painter.PaintFault.{PaintFault}
use Rattle.hpgl_plot.specs.declared.fault.PlotFault.{PlotFault}
use Rattle.plot_page.specs.Resolutions.{rows_of}
use Rattle.picture_out.specs.Forms.{foot_bytes}
use Rattle.rows.specs.Pictures.{Reach, head_of, job_fault}
use Rattle.rows.specs.ImagePictures.{contents_row}
use Rattle.rows.specs.Progress.{HasPainted, PictureStops}
use Rattle.rows.proofs.Joined.{foot_at_end}
use Rattle.rows.specs.declared.fault.PictureFault.{PictureFault}
use Rattle.rows.specs.declared.fault.PictureFault.TheVariants as cause
use Rattle.conversion.specs.Rules.{Rules, contents_by}
use Rattle.conversion.specs.Faults.{of_picture}
use Rattle.conversion.specs.PageJobs.{has_too_many_pixels}
use Rattle.conversion.specs.Pictures.{refused_fault}
use Rattle.conversion.specs.Readings.{WasRead}
use Rattle.conversion.specs.Conversions.{Converts}
use Rattle.devices.specs.Sinks.{SinkState}
use Rattle.devices.specs.Sources.{SourceState}
use Rattle.conversion.specs.declared.fault.Fault.TheVariants.{Paint, Pixels, Plot}

-- of an accepted plot, whose picture has few enough pixels, the job's fault is that of all
pub job_faults : (job : Job) (refusal : Option PlotFault) (fault : Option PaintFault) → refusal ≡ None → has_too_many_pixels job.page job.dots ≡ false → job_fault job ≡ fault → refused_fault job refusal ≡ option_map Paint fault
job_faults job refusal fault accepted few is = rw (accepted, few, is) refl

-- too many pixels come before the fault of a job
pub too_many_pixels : (job : Job) (refusal : Option PlotFault) → refusal ≡ None → has_too_many_pixels job.page job.dots ≡ true → refused_fault job refusal ≡ Some Pixels
too_many_pixels job refusal accepted many = rw (accepted, many) refl

-- a job that was not painted, of a plot that was read and accepted, whose picture has few enough pixels
pub not_painted : (rules : Rules) (n : ℕ) (job : Job) (reaches : Reach) (input : List ℕ) (before after : SourceState) (sink sink' : SinkState) (fault : PictureFault) → WasRead input before after → rules.refusal job.page input ≡ None → has_too_many_pixels job.page job.dots ≡ false
    → HasPainted n None job reaches (contents_by rules job.page input) sink sink' (Err fault) → Converts rules n job reaches input before after sink sink' (Err (of_picture fault))
not_painted rules n job reaches input before after sink sink' cause.Memory read accepted few h = read.sound
not_painted rules n job reaches input before after sink sink' cause.Unfinished read accepted few h = absurd h
not_painted rules n job reaches input before after sink sink' (cause.Paint refusal) read accepted few h = record { read = read; refused = job_faults job (rules.refusal job.page input) (Some refusal) accepted few h }
not_painted rules n job reaches input before after sink sink' (cause.Write row whole bytes) read accepted few h =
    let rows = rows_of job.page job.dots in
    let text = contents_row n job reaches (contents_by rules job.page input) in
    let stops = subst (λ (foot : List ℕ). PictureStops (head_of job.form job.page job.dots) text foot rows job.first_row sink sink' (record { row = row; whole = whole; bytes = bytes })) (foot_at_end (foot_bytes job.form) rows) h.1 in
    record {
      read = read;
      accepted = job_faults job (rules.refusal job.page input) None accepted few h.0;
      written = stops.written;
      within = stops.within;
      failed = stops.failed;
      stopped = stops.stopped;
    }

-- the refusal of a plot comes before the fault of a job
pub plot_fault : (job : Job) (refusal : Option PlotFault) (fault : PlotFault) → refusal ≡ Some fault → refused_fault job refusal ≡ Some (Plot fault)
plot_fault job refusal fault refused = rw refused refl
