-- The picture of a plot, and what a conversion answers, from what it read.
use Rattle.std.specs.Prelude.{◌≡◌, ℕ, ◌+◌, ◌-◌, ◌<◌, ◌≤◌, Bool, true, false, List, Some, None, length, take, Result, Ok}
use Rattle.std.specs.Prelude.{Err}
use Rattle.std.specs.Io.KnownBytes.{Consumes, Appends}
use Rattle.plot_page.specs.Resolutions.{rows_of}
use Rattle.picture_job.specs.declared.job.Job.{Job}
use Rattle.rows.specs.Stops.{IsStoppedAt}
use Rattle.areas.specs.Shapes.{stroke_count}
use Rattle.rows.specs.Pictures.{Reach, head_of}
use Rattle.rows.specs.ImagePictures.{contents_picture, contents_row}
use Rattle.conversion.specs.Pictures.{plot_strokes, refused_fault}
use Rattle.conversion.specs.Rules.{Rules, contents_by, core_rules, shapes_by}
use Rattle.conversion.specs.Readings.{WasRead, WasTooLong}
use Rattle.devices.specs.Sinks.{SinkState}
use Rattle.devices.specs.Sources.{SourceState}
use Rattle.conversion.specs.declared.done.Done.{Done}
use Rattle.conversion.specs.declared.fault.Fault.{Fault}
use Rattle.conversion.specs.declared.fault.Fault.TheVariants.{TooLong, Memory, Write, Unfinished, Read, Resolution}
use Rattle.rows.specs.Boxes.{strokes_boxes}

-- the whole picture was written
pub record IsWritten (rules : Rules) (n : ℕ) (job : Job) (reaches : Reach) (input : List ℕ) (before after : SourceState)
    (sink sink' : SinkState) (done : Done) : Type 0 where
  pub read : WasRead input before after
  pub accepted : refused_fault job (rules.refusal job.page input) ≡ None
  pub written : Appends sink.held sink'.held (contents_picture n job reaches (contents_by rules job.page input))
  pub sound : sink'.faults ≡ sink.faults
  pub rows : done.rows ≡ rows_of job.page job.dots - job.first_row
  pub bytes : done.bytes ≡ length (contents_picture n job reaches (contents_by rules job.page input))
  pub strokes_count : done.strokes ≡ stroke_count (shapes_by rules job.page input)
  pub areas_count : done.areas ≡ length (rules.areas job.page input)
  pub images_count : done.images ≡ length (rules.images job.page input)
  pub notes : done.notes ≡ rules.notes job.page input

-- the sink failed after the first bytes of the picture, in a row that begins after the bytes `whole`
pub record IsCutShort (rules : Rules) (n : ℕ) (job : Job) (reaches : Reach) (input : List ℕ) (before after : SourceState)
    (sink sink' : SinkState) (row whole bytes : ℕ) : Type 0 where
  pub read : WasRead input before after
  pub accepted : refused_fault job (rules.refusal job.page input) ≡ None
  pub written : Appends sink.held sink'.held (take bytes (contents_picture n job reaches (contents_by rules job.page input)))
  pub within : bytes < length (contents_picture n job reaches (contents_by rules job.page input))
  pub failed : sink'.faults ≡ sink.faults + 1
  pub stopped : IsStoppedAt (head_of job.form job.page job.dots)
      (contents_row n job reaches (contents_by rules job.page input)) (rows_of job.page job.dots) job.first_row bytes row whole

-- the plot was read whole, and this is why it has no picture of the job
pub record IsRefused (rules : Rules) (job : Job) (input : List ℕ) (before after : SourceState)
    (fault : Fault) : Type 0 where
  pub read : WasRead input before after
  pub refused : refused_fault job (rules.refusal job.page input) ≡ Some fault

-- what each answer says. The conditions of two answers exclude one another, so each comes exactly if its own hold; want
-- of memory says only that the source did not fail
abbrev pub Converts : Rules → ℕ → Job → Reach → List ℕ → SourceState → SourceState → SinkState → SinkState →
    Result Done Fault → Type 0
Converts rules n job reaches input before after sink sink' (Ok done) =
    IsWritten rules n job reaches input before after sink sink' done
Converts rules n job reaches input before after sink sink' (Err Resolution) = after ≡ before
Converts rules n job reaches input before after sink sink' (Err Read) = after.faults ≡ before.faults + 1
Converts rules n job reaches input before after sink sink' (Err TooLong) = WasTooLong input before after
Converts rules n job reaches input before after sink sink' (Err Memory) = after.faults ≡ before.faults
Converts rules n job reaches input before after sink sink' (Err (Write row whole bytes)) =
    IsCutShort rules n job reaches input before after sink sink' row whole bytes
Converts rules n job reaches input before after sink sink' (Err fault) = IsRefused rules job input before after fault

-- a conversion by these rules: what it took from the source, its answer, and how many tests the gauge made
pub record HasConvertedBy (rules : Rules) (job : Job) (reaches : Reach) (before after : SourceState)
    (sink sink' : SinkState) (tests tests' : ℕ) (answer : Result Done Fault) : Type 0 where
  pub input : List ℕ
  pub taken : Consumes before.left after.left input
  pub converts : Converts rules 1 job reaches input before after sink sink' answer
  pub tested : tests' ≤ tests + strokes_boxes 1 job (rules.strokes job.page input)

-- a conversion in the profile core
abbrev pub HasConverted : Job → Reach → SourceState → SourceState → SinkState → SinkState → ℕ → ℕ → Result Done Fault →
    Type 0
HasConverted = HasConvertedBy core_rules

-- how many pixels the boxes of a plot's strokes have, together, in the rows of a job: no more tests are made
abbrev pub job_boxes : Job → List ℕ → ℕ
job_boxes job plot = strokes_boxes 1 job (plot_strokes job.page plot)

-- the sink failed
abbrev pub is_write : Fault → Bool
is_write (Write row whole bytes) = true
is_write Unfinished = true
is_write _ = false
