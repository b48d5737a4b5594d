-- What a command line chooses by several of its values.
use Rattle.std.specs.Prelude.{ℕ, Bool, true, false, not, ◌&&◌, ◌||◌, List, [], Option, None, Some, codes, if◌then◌else◌, nat_lt, unwrap_or, ◌-◌, ◌^◌}
use Rattle.std.specs.Path.{path_file_name}
use Rattle.std.specs.Str.{bytes_eq}
use Rattle.command_line.specs.declared.line.Line.{Line}
use Rattle.command_line.specs.declared.line.Task.{Task}
use Rattle.command_line.specs.declared.line.Task.TheVariants.{Report}
use Rattle.command_line.specs.declared.line.Task.TheVariants.{Picture as Draw}
use Rattle.picture_job.specs.declared.picture.Picture.{Picture}
use Rattle.picture_job.specs.declared.picture.Picture.TheVariants.{Rows, Png, Vector}
use Rattle.picture_job.specs.declared.reading.Reading.{Reading}
use Rattle.picture_job.specs.declared.reading.Reading.TheVariants.{Core, Full}
use Rattle.picture_job.specs.declared.vector_job.VectorFormat.{VectorFormat}
use Rattle.picture_job.specs.declared.vector_job.VectorFormat.TheVariants.{Dxf, Pdf, Svg}
use Rattle.picture_out.specs.declared.form.Form.{Form}
use Rattle.picture_out.specs.declared.form.Form.TheVariants.{Marks, Pbm, Ppm, Pcl}

abbrev pub is_core : Reading → Bool
is_core Core = true
is_core _ = false

-- draw writes all sheets in the profile full, if no sheet is named
abbrev pub draws_all : Line → Bool
draws_all line = line.interactive && (not line.sheet_named && not (is_core line.reading))

-- the sheets are pages of one document
abbrev pub has_pages : VectorFormat → Bool
has_pages Pdf = true
has_pages _ = false

abbrev pub is_pdf : Task → Bool
is_pdf (Draw (Vector job)) = has_pages job.format
is_pdf _ = false

-- the picture of a task
abbrev pub picture_of : Task → Option Picture
picture_of (Draw picture) = Some picture
picture_of (Report page) = None

-- the picture that each sheet has by itself in a folder
abbrev pub picture_apart : Line → Option Picture
picture_apart line =
    if is_pdf line.task then None else
    if line.each_sheet || draws_all line then picture_of line.task else None

-- all sheets are pages of a PDF though no sheet is named
abbrev pub has_all_pages : Line → Bool
has_all_pages line = draws_all line && is_pdf line.task

-- the same reading, of all sheets
abbrev pub of_all_sheets : Reading → Reading
of_all_sheets Core = Core
of_all_sheets (Full sheet encoding) = Full 0 encoding

-- how the plot is read for one file
abbrev pub reading_for : Line → Reading
reading_for line = if has_all_pages line then of_all_sheets line.reading else line.reading

abbrev pub form_extension : Form → List ℕ
form_extension Marks = codes "marks"
form_extension Pbm = codes "pbm"
form_extension Ppm = codes "ppm"
form_extension Pcl = codes "pcl"

abbrev pub format_extension : VectorFormat → List ℕ
format_extension Pdf = codes "pdf"
format_extension Svg = codes "svg"
format_extension Dxf = codes "dxf"

-- the extension of the files in a folder
abbrev pub extension_of : Task → List ℕ
extension_of (Draw (Rows job rows)) = form_extension job.form
extension_of (Draw (Png job)) = codes "png"
extension_of (Draw (Vector job)) = format_extension job.format
extension_of (Report page) = codes "report"

abbrev pub is_document : Task → Bool
is_document (Draw (Png job)) = true
is_document (Draw (Vector job)) = true
is_document _ = false

-- messages say why a plot cannot be opened
abbrev pub has_reasons : Line → Bool
has_reasons line = line.interactive || is_document line.task

-- names of the system for standard output
abbrev pub is_standard_output : List ℕ → Bool
is_standard_output path =
    bytes_eq path (codes "/dev/stdout") || (bytes_eq path (codes "/dev/fd/1") || bytes_eq path (codes "/proc/self/fd/1"))

-- the title of a document: the name of the plot's file
abbrev pub title_of : List ℕ → List ℕ
title_of file = unwrap_or (path_file_name file) []

-- how many sheets are counted
abbrev pub sheet_count : ℕ → ℕ
sheet_count sheets = if nat_lt sheets (2 ^ 32) then sheets else (2 ^ 32 - 1)
