-- How a run ends, for its output, which is written under a name of its own until it is whole.
use Rattle.std.specs.Prelude.{ℕ, Result, Ok, Err}
use Rattle.command_line.specs.declared.line.Task.{Task}
use Rattle.command_line.specs.declared.line.Task.TheVariants.{Report}
use Rattle.command_line.specs.declared.line.Task.TheVariants.{Picture as Draw}
use Rattle.picture_job.specs.declared.picture.Picture.TheVariants.{Rows, Png, Vector}
use Rattle.conversion.specs.declared.outcome.Outcome.{Outcome}
use Rattle.conversion.specs.declared.fault.Fault.{Fault}
use Rattle.conversion.specs.declared.fault.Fault.TheVariants.{Unfinished, Write}
use Rattle.conversion.specs.Faults.{status_of}
use Rattle.delivery.specs.declared.ending.Ending.{Ending}
use Rattle.delivery.specs.declared.ending.Ending.TheVariants.{Whole, Kept, Lost}

-- of use to a later run is a form of which some rows are there; a document that is not whole is of no use
abbrev pub ending_after : Fault → Ending
ending_after (Write row whole bytes) = Kept (status_of (Write row whole bytes))
ending_after fault = Lost (status_of fault)

abbrev pub ending_of : Result Outcome Fault → Ending
ending_of (Ok _) = Whole
ending_of (Err fault) = ending_after fault

-- a failed write before this row, the first one of a run
abbrev pub nothing_written : ℕ → Fault
nothing_written row = Write row 0 0

-- the fault of a task whose output may not be stored: of a form that no row is there, and of a document that it is of no use
abbrev pub fault_of_sync : Task → Fault
fault_of_sync (Draw (Rows job rows)) = nothing_written job.first_row
fault_of_sync (Draw (Png job)) = Unfinished
fault_of_sync (Draw (Vector job)) = Unfinished
fault_of_sync (Report page) = nothing_written 0
