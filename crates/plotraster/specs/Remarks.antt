-- When a run says something of what it wrote.
use Rattle.std.specs.Prelude.{ℕ, ◌+◌, Bool, true, false, not, ◌&&◌, ◌||◌, ◌++◌, List, [], Option, None, Some, codes, decimal, nat_eq, nat_lt, if◌then◌else◌}
use Rattle.command_line.specs.declared.line.Line.{Line}
use Rattle.command_line.specs.declared.line.Task.{Task}
use Rattle.command_line.specs.declared.line.Task.TheVariants.{Report}
use Rattle.conversion.specs.declared.outcome.Outcome.{Outcome}
use Rattle.conversion.specs.declared.placement.Placement.{Placement}
use Rattle.conversion.specs.declared.placement.Placement.TheVariants.{Given, Asked, Unasked, Fitted, Blank, TooLarge}
use Rattle.picture_job.specs.declared.reading.Reading.{Reading}
use Rattle.picture_job.specs.declared.reading.Reading.TheVariants.{Core, Full}
use Rattle.plotraster.specs.Choices.{has_all_pages, reading_for}

-- the report that reads a plot so
abbrev pub report_of : Reading → List ℕ
report_of Core = codes "plotraster report"
report_of (Full sheet encoding) = codes "plotraster report --profile full"

abbrev pub is_too_large : Placement → Bool
is_too_large TooLarge = true
is_too_large _ = false

abbrev pub is_empty : Placement → Bool
is_empty Blank = true
is_empty _ = false

-- nothing that the selected pens draw is on the page
abbrev pub is_blank : Outcome → Bool
is_blank outcome = is_empty outcome.placement || outcome.is_off_page

-- all sheets are drawn
abbrev pub has_all_sheets : Reading → Bool
has_all_sheets Core = true
has_all_sheets (Full sheet encoding) = nat_eq sheet 0

-- what is written is the whole plot, as far as its sheets go
abbrev pub is_whole : Line → Bool → Outcome → Bool
is_whole line is_sheet outcome = nat_lt outcome.sheets 2 || (not is_sheet && has_all_sheets (reading_for line))

-- how many lines, areas and images there are
abbrev pub drawn_count : Outcome → ℕ
drawn_count outcome = outcome.done.strokes + outcome.done.areas + outcome.done.images

-- there are more notes than lines, areas and images, and this is to be said
abbrev pub is_hardly_understood : Line → Bool → Outcome → Bool
is_hardly_understood line is_sheet outcome =
    (line.remarks && not line.verbose)
    && (is_whole line is_sheet outcome && (not (is_blank outcome) && nat_lt (drawn_count outcome) outcome.done.notes))

abbrev pub is_report : Task → Bool
is_report (Report page) = true
is_report _ = false

-- a picture is that of the first sheet of several, and nobody chose it
abbrev pub has_more_sheets : Line → Outcome → Bool
has_more_sheets line outcome =
    nat_lt 1 outcome.sheets
    && (not line.sheet_named && (not line.quiet && (not (is_report line.task) && not (has_all_pages line))))

-- what page it is instead, and why
abbrev pub reason_of : Placement → Option (List ℕ)
reason_of Given = None
reason_of Asked = None
reason_of Fitted = None
reason_of Unasked = Some (codes "the default one: the plot asks for no size")
reason_of Blank = Some (codes "not fitted: nothing is drawn")
reason_of TooLarge = Some (codes "not fitted: the drawing is larger than a page can be")

abbrev pub lines_text : ℕ → List ℕ
lines_text lines = if nat_eq lines 1 then codes "1 line" else (decimal lines ++ codes " lines")

abbrev pub cut_text : ℕ → List ℕ
cut_text lines = if nat_eq lines 0 then [] else (codes ", " ++ decimal lines ++ codes " cut at its edge")
