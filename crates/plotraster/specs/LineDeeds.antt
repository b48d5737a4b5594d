-- What a run does for a command line.
use Rattle.std.specs.Prelude.{◌≡◌, ℕ, Bool, true, false, not, ◌&&◌, ◌||◌, List, Option, None, Some, if◌then◌else◌, length, map, nat_eq, option_map, slice_get}
use Rattle.command_line.specs.declared.destination.Destination.{Destination}
use Rattle.command_line.specs.declared.destination.Destination.TheVariants.{File, Folder}
use Rattle.command_line.specs.declared.line.Line.{Line}
use Rattle.delivery.specs.declared.messages.Reasons.{Reasons}
use Rattle.delivery.specs.declared.messages.Reasons.TheVariants.{InMessage, Below, Unsaid}
use Rattle.delivery.specs.Deeds.{Deed}
use Rattle.delivery.specs.Deliveries.{SaysOnce}
use Rattle.delivery.specs.Folders.{LooksForFolder}
use Rattle.delivery.specs.Runs.{DeliversAll, DeliversSingle}
use Rattle.plotraster.specs.Choices.{extension_of, has_reasons, is_standard_output}

-- the names of the plots' files, and the first of them
abbrev pub files_of : Line → List (List ℕ)
files_of line = map (λ file. file.now) line.files.now

abbrev pub first_file : Line → Option (List ℕ)
first_file line = option_map (λ file. file.now) (slice_get line.files.now 0)

abbrev pub is_file : Destination → Bool
is_file File = true
is_file Folder = false

-- the output goes into a folder that a look found
abbrev pub LooksForDestination : {D : Type 0} → (D → Deed → D → Type 0) → D → Option (List ℕ) → Destination → D → Type 0
LooksForDestination does before None destination after = (after ≡ before) × (destination ≡ File)
LooksForDestination does before (Some path) destination after = LooksForFolder does before path (not (is_file destination)) after

-- there is one plot, whose output goes to one place
abbrev pub is_single : Line → Destination → Bool
is_single line destination =
    not line.each_sheet && (nat_eq (length line.files.now) 0 || (nat_eq (length line.files.now) 1 && is_file destination))

-- how it is said why a plot cannot be opened
abbrev pub reasons_of : Line → Reasons
reasons_of line = if has_reasons line then InMessage else if line.verbose then Below else Unsaid

-- the name of the output, but of standard output
abbrev pub unless_standard : Option (List ℕ) → Option (List ℕ)
unless_standard None = None
unless_standard (Some path) = if is_standard_output path then None else Some path

abbrev pub output_text : Line → Option (List ℕ)
output_text line = option_map (λ path. path.now) line.output

-- plots have their outputs in a folder, which is named
abbrev pub DeliversInto : {D : Type 0} → (D → Deed → D → Type 0) → Option (List ℕ) → Line → D → D → ℕ → Type 0
DeliversInto does None line before after status = SaysOnce does before status after × (status ≡ 2)
DeliversInto does (Some folder) line before after status = DeliversAll does (files_of line) folder (extension_of line.task) before after status

abbrev pub DeliversLineAs : {D : Type 0} → (D → Deed → D → Type 0) → Bool → Line → D → D → ℕ → Type 0
DeliversLineAs does true line before after status = DeliversSingle does (first_file line) (unless_standard (output_text line)) before after status
DeliversLineAs does false line before after status = DeliversInto does (output_text line) line before after status

-- the output of a plot goes to one place, or plots have theirs in a folder
abbrev pub DeliversLine : {D : Type 0} → (D → Deed → D → Type 0) → Line → Destination → D → D → ℕ → Type 0
DeliversLine does line destination before after status = DeliversLineAs does (is_single line destination) line before after status
