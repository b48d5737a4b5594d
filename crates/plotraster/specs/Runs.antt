-- What a task does, and the status that a run of it ends with.
use Rattle.std.specs.Prelude.{◌≡◌, ℕ, Bool, true, Result, Ok, Err}
use Rattle.command_line.specs.declared.line.Task.{Task}
use Rattle.command_line.specs.declared.line.Task.TheVariants.{Report}
use Rattle.command_line.specs.declared.line.Task.TheVariants.{Picture as Draw}
use Rattle.picture_job.specs.declared.page_choice.PageChoice.{PageChoice}
use Rattle.conversion.specs.Rules.{rules_in}
use Rattle.conversion.specs.Kinds.{HasConvertedTo}
use Rattle.conversion.specs.PageJobs.{is_picture_possible}
use Rattle.rows.specs.Pictures.{exact}
use Rattle.conversion.specs.Faults.{status_of}
use Rattle.conversion.specs.Reports.{HasReportedOn}
use Rattle.devices.specs.Sinks.{SinkState}
use Rattle.devices.specs.Sources.{SourceState}
use Rattle.conversion.specs.declared.naming.Naming.{Naming}
use Rattle.conversion.specs.declared.setup.Setup.{Setup}
use Rattle.conversion.specs.declared.outcome.Outcome.{Outcome}
use Rattle.conversion.specs.declared.fault.Fault.{Fault}

-- a plot, which is read and drawn so, was drawn for a picture, turned, and
-- the picture written by the exact gauge, a vector document named so; or it was drawn for a report, and the report written,
-- without a turn. A watcher is told of the rows of a picture in pixels, and of nothing else
abbrev pub HasRun : {W : Type 0} → Setup → Task → Naming → SourceState → SourceState →
    SinkState → SinkState → (W → ℕ → ℕ → W → Type 0) → W → W → Result Outcome Fault → Type 0
HasRun setup (Draw picture) naming before after sink sink' hears watcher watcher' answer =
    HasConvertedTo setup.turn (rules_in setup) setup.choice picture naming exact before after sink sink' hears watcher watcher' answer
HasRun setup (Report page) naming before after sink sink' hears watcher watcher' answer =
    HasReportedOn (rules_in setup) setup.reading setup.choice page before after sink sink' answer × (watcher' ≡ watcher)

-- a picture can have its resolution, and can be smoothed so; a report is always possible
abbrev pub is_task_possible : PageChoice → Task → Bool
is_task_possible choice (Draw picture) = is_picture_possible choice picture
is_task_possible choice (Report page) = true

-- 0 if all was written, else the status of the fault
abbrev pub exit_status_of : Result Outcome Fault → ℕ
exit_status_of (Ok _) = 0
exit_status_of (Err fault) = status_of fault
