-- What the matches of a command line ask for.
use Rattle.std.specs.Prelude.{◌≡◌, ◌<◌, ◌≤◌, ◌*◌, ◌/◌, ◌&&◌, ◌||◌, ℕ, Bool, true, false, not, List, [], ◌∷◌, Option, Some, None, codes}
use Rattle.std.specs.Prelude.{option_map, option_and_then, unwrap_or, is_some, find, if◌then◌else◌, map, length, min, nat_lt}
use Rattle.std.specs.Option.{option_map_or, option_or}
use Rattle.std.specs.Str.{bytes_eq}
use Rattle.std.specs.Str.Parse.{digits_value, without_leading_plus}
use Rattle.clap.specs.Words.{Row, Text, all_of, first_of, one_of, subcommand_rows_of}
use Rattle.clap.specs.declared.parser.matches.ArgMatches.{ArgMatches}
use Rattle.plot_page.specs.declared.page.Page.{Page}
use Rattle.plot_page.specs.declared.page.TheConstants.{LONGEST_SIDE}
use Rattle.plot_page.specs.declared.pens.PenSet.{PenSet}
use Rattle.plot_page.specs.Pens.{has_pen}
use Rattle.command_line.specs.Parses.{HasGoodMatches}
use Rattle.character_sets.specs.declared.encoding.Encoding.{Encoding}
use Rattle.character_sets.specs.declared.encoding.Encoding.TheVariants.{ByPlot}
use Rattle.carousel.specs.Carousels.{colour_of, width_of}
use Rattle.carousel.specs.declared.carousel.Carousel.{Carousel}
use Rattle.command_line.specs.Characters.{encoding_named}
use Rattle.command_line.specs.Defaults.{defaults_of}
use Rattle.command_line.specs.Faults.{Refusal, BadColours, BadWidths, first_of_these, refusal_of}
use Rattle.command_line.specs.Forms.{extension_of, form_named}
use Rattle.command_line.specs.LabelChoices.{labels_named}
pub use Rattle.command_line.specs.Options.{is_picture, is_pcl}
use Rattle.command_line.specs.Options.{has_texts, is_smoothed, subcommands, plot_app}
use Rattle.command_line.specs.Papers.{a4, names_plot, size_named}
use Rattle.command_line.specs.Sheets.{is_each, sheet_named}
use Rattle.command_line.specs.Turns.{turn_named}
use Rattle.directions.specs.declared.turn.Turn.{Turn}
use Rattle.directions.specs.declared.turn.Turn.TheVariants as turn
use Rattle.pen_list.specs.Assignments.{first_bad, given}
use Rattle.pen_list.specs.Colours.{colour_written}
use Rattle.pen_list.specs.Lists.{is_listed, is_pen_list}
use Rattle.pen_list.specs.Widths.{width_written}
use Rattle.picture_out.specs.declared.form.Form.{Form}
use Rattle.picture_job.specs.declared.job.Job.{Job}
use Rattle.picture_job.specs.declared.picture.Picture.TheVariants.{Png, Rows, Vector}
use Rattle.picture_job.specs.declared.png_job.PngJob.{PngJob}
use Rattle.picture_job.specs.declared.vector_job.LabelChoice.{LabelChoice}
use Rattle.picture_job.specs.declared.vector_job.LabelChoice.TheVariants as label
use Rattle.picture_job.specs.declared.vector_job.VectorFormat.{VectorFormat}
use Rattle.picture_job.specs.declared.vector_job.VectorFormat.TheVariants.{Pdf}
use Rattle.picture_job.specs.declared.vector_job.VectorJob.{VectorJob}
use Rattle.picture_job.specs.declared.reading.Reading.{Reading}
use Rattle.picture_job.specs.declared.reading.Reading.TheVariants.{Core, Full}
use Rattle.picture_job.specs.declared.row_choice.RowChoice.{RowChoice}
use Rattle.picture_job.specs.declared.page_choice.PageChoice.{PageChoice}
use Rattle.command_line.specs.declared.destination.Destination.{Destination}
use Rattle.command_line.specs.declared.destination.Destination.TheVariants.{File, Folder}
use Rattle.command_line.specs.declared.fault.LineFault.{LineFault}
use Rattle.command_line.specs.declared.fault.LineFault.TheVariants.{Pens, Shades, Smooth, Paper, Size, Profile, Sheet}
use Rattle.command_line.specs.declared.fault.LineFault.TheVariants.{BadCharacters, BadLabels, BadSheet, BadTurn, Characters, Labels, LongPage, Form as NoForm, Margin, NoFolder, NoPicture, NoPixels, NoTexts, Pixels, PrinterPixels, Several}
use Rattle.command_line.specs.declared.line.Line.{Line}
use Rattle.command_line.specs.declared.line.Task.{Task}
use Rattle.command_line.specs.declared.line.Task.TheVariants.{Picture, Report}
use Rattle.command_line.specs.declared.subcommands.Kind.{Kind}
use Rattle.command_line.specs.declared.subcommands.Kind.TheVariants.{Draw, Write}
use Rattle.command_line.specs.declared.subcommands.Output.{Output}
use Rattle.command_line.specs.declared.subcommands.Output.TheVariants as output

-- the whole number that an option has, in decimal, a plus sign before it or not
abbrev pub number_in : List Row → Text → Option ℕ
number_in rows name = option_map (λ t. digits_value 10 (without_leading_plus t)) (one_of name rows)

-- the text of the option for the list of pens
abbrev pub pens_text : List Row → Option Text
pens_text rows = first_of (codes "pens") rows

-- the name of the paper, or `plot`, or None if none is named
abbrev pub paper_text : List Row → Option Text
paper_text rows = first_of (codes "page") rows

-- the name of the profile
abbrev pub profile_text : List Row → Option Text
profile_text rows = first_of (codes "profile") rows

-- the text that says which sheet, or None if none is given
abbrev pub sheet_text : List Row → Option Text
sheet_text rows = first_of (codes "sheet") rows

-- the sheet that is asked for, 0 for all sheets, or the first one if none is given; None if the text asks for nothing
abbrev pub sheet_in : List Row → Option ℕ
sheet_in rows = option_map_or sheet_named (sheet_text rows) (Some 1)

-- each sheet is asked for by itself
abbrev pub asks_each : List Row → Bool
asks_each rows = option_map_or is_each (sheet_text rows) false

-- the name of how the bytes of labels are read, or None if none is given
abbrev pub characters_text : List Row → Option Text
characters_text rows = first_of (codes "characters") rows

-- how the bytes of labels are read: as the name says, or as the plot chooses if no name is given; None if the name means
-- nothing
abbrev pub encoding_of : List Row → Option Encoding
encoding_of rows = option_map_or encoding_named (characters_text rows) (Some ByPlot)

-- the name of how labels are written, or None if none is given
abbrev pub labels_text : List Row → Option Text
labels_text rows = first_of (codes "labels") rows

-- how labels are written: as the name says, or as texts if no name is given; None if the name means nothing
abbrev pub labels_in : List Row → Option LabelChoice
labels_in rows = option_map_or labels_named (labels_text rows) (Some label.Text)

-- the text that says how the page is turned, or None if none is given
abbrev pub turn_text : List Row → Option Text
turn_text rows = first_of (codes "rotate") rows

-- how the page is turned: as the text says, or not at all if none is given; None if the text says nothing
abbrev pub turn_in : List Row → Option Turn
turn_in rows = option_map_or turn_named (turn_text rows) (Some turn.None)

-- the texts of the options for the colours and the widths of pens
abbrev pub colours_text : List Row → Option Text
colours_text rows = first_of (codes "colours") rows

abbrev pub widths_text : List Row → Option Text
widths_text rows = first_of (codes "widths") rows

-- the flag of this name is given
abbrev pub has_flag : List Row → Text → Bool
has_flag rows name = option_map_or (λ text. bytes_eq text (codes "true")) (first_of name rows) false

-- the option of this name is given, or has a default
abbrev pub is_given : List Row → Text → Bool
is_given rows name = is_some (first_of name rows)

-- the page is given: a paper or the plot is named, or a width or a height is given
abbrev pub gives_page : List Row → Bool
gives_page rows = is_given rows (codes "page") || (is_given rows (codes "width") || is_given rows (codes "height"))

-- no page is given, and the subcommand then fits the page that the plot asks for
abbrev pub has_free_page : Kind → List Row → Bool
has_free_page kind rows = (defaults_of kind).fits && not (gives_page rows)

-- the page is to be fitted to the drawing
abbrev pub has_fit : Kind → List Row → Bool
has_fit kind rows = has_flag rows (codes "fit") || has_free_page kind rows

-- the plot is named as the page
abbrev pub names_page : List Row → Bool
names_page rows = option_map_or names_plot (paper_text rows) false

-- the page is to have the size that the plot asks for
abbrev pub asks_plot : Kind → List Row → Bool
asks_plot kind rows = names_page rows || has_free_page kind rows

-- the margin in millimetres, or None if none is given
abbrev pub margin_in : List Row → Option ℕ
margin_in rows = number_in rows (codes "margin")

-- the names of the plots' files, in order; none if the plot comes on standard input
abbrev pub files_in : List Row → List Text
files_in rows = unwrap_or (all_of (codes "FILE") rows) []

-- the name of the file to write, or of the folder of the files to write
abbrev pub output_text : List Row → Option Text
output_text rows = first_of (codes "output") rows

-- several plots are given, and nothing says where their output goes
abbrev pub has_no_place : List Row → Bool
has_no_place rows = nat_lt 1 (length (files_in rows)) && not (is_some (output_text rows))

-- what a list has for a name
abbrev pub kind_in : List (Text × Kind) → Text → Option Kind
kind_in its name = option_map (λ it. it.1) (find (λ it. bytes_eq it.0 name) its)

-- what the subcommand of this name does, into a file
abbrev pub kind_named : Text → Option Kind
kind_named name = kind_in subcommands name

-- the same into a file or a folder
abbrev pub kind_into : Destination → Kind → Kind
kind_into destination (Draw _) = Draw destination
kind_into destination (Write output) = Write output

-- the extension of the file to write; whatever the name of a folder is, it says no form
abbrev pub extension_in : Destination → Text → Option Text
extension_in File path = extension_of path
extension_in Folder path = None

-- the name of the form that is asked for: the one that is given, or else the extension of the file to write
abbrev pub form_text : Destination → List Row → Option Text
form_text destination rows =
    option_or (first_of (codes "form") rows) (option_and_then (extension_in destination) (output_text rows))

-- the picture in the form that is asked for, or in PNG if none is
abbrev pub asked_picture : Destination → List Row → Option Output
asked_picture destination rows = option_map_or form_named (form_text destination rows) (Some output.Png)

-- what a subcommand writes
abbrev pub written : Kind → List Row → Option Output
written (Draw destination) rows = asked_picture destination rows
written (Write output) rows = Some output

-- the dots per inch: as the option says, or else as the subcommand does
abbrev pub dots_in : Kind → List Row → ℕ
dots_in kind rows = unwrap_or (number_in rows (codes "dots")) (defaults_of kind).dots

-- the picture's pixels are chosen, and not its dots per inch
abbrev pub is_sized : List Row → Bool
is_sized rows = is_given rows (codes "size")

-- something is said of pixels: how many there are, in an inch or in all, or how they are smoothed
abbrev pub has_pixels : List Row → Bool
has_pixels rows = is_given rows (codes "dots") || (is_sized rows || is_given rows (codes "smooth"))

-- how much finer a picture is painted if no option says it: 8 times if its pixels are chosen, and else as much as the
-- subcommand does, if 1200 dots per inch allow it
abbrev pub usual_smooth : Kind → Bool → ℕ → ℕ
usual_smooth kind is_sized dots = if is_sized then 8 else min (defaults_of kind).smoothing (1200 / dots)

-- how much finer a picture is painted: as the option says, or as usual, or 1 if the picture may not be smoothed
abbrev pub smooth_or : Bool → List Row → ℕ → ℕ
smooth_or is_smoothed rows usual = if is_smoothed then unwrap_or (number_in rows (codes "smooth")) usual else 1

-- the same of a picture of so many dots per inch
abbrev pub smooth_in : Kind → Bool → List Row → ℕ → ℕ
smooth_in kind is_smoothed rows dots = smooth_or is_smoothed rows (usual_smooth kind (is_sized rows) dots)

-- the width and the height that are given, or those of A4 in landscape
abbrev pub given_size : List Row → ℕ × ℕ
given_size rows = (unwrap_or (number_in rows (codes "width")) a4.0, unwrap_or (number_in rows (codes "height")) a4.1)

-- the width and the height of the page: those of what `--page` names, if it names something
abbrev pub page_size : List Row → Option (ℕ × ℕ)
page_size rows = option_map_or size_named (paper_text rows) (Some (given_size rows))

-- a paper is named, and a width or a height is given
abbrev pub has_paper_and_side : List Row → Bool
has_paper_and_side rows =
    is_some (paper_text rows) && (is_some (number_in rows (codes "width")) || is_some (number_in rows (codes "height")))

-- the page has the size that the options give, in one way only, and the corner that they give
pub record IsPageOf (rows : List Row) (page : Page) : Type 0 where
  pub size : page_size rows ≡ Some (page.width, page.height)
  pub one_way : has_paper_and_side rows ≡ false
  pub left : number_in rows (codes "left") ≡ Some page.left
  pub below : number_in rows (codes "below") ≡ Some page.below

-- the pens are those that the option's text lists
pub record ArePensOf (rows : List Row) (pens : PenSet) : Type 0 where
  pub list : Text
  pub text : pens_text rows ≡ Some list
  pub is_list : is_pen_list list ≡ true
  pub listed : (pen : ℕ) → pen < 256 → has_pen pens pen ≡ is_listed list pen

-- the page, each number and the pens of the job are those of the options; it is painted at 1200 dots per inch at most,
-- unless its pixels are chosen, which change its dots per inch
pub record IsPngJobOf (kind : Kind) (is_smoothed : Bool) (rows : List Row) (job : PngJob) : Type 0 where
  pub page : IsPageOf rows job.page
  pub dots : dots_in kind rows ≡ job.dots.resolution
  pub pens : ArePensOf rows job.pens
  pub times : smooth_in kind is_smoothed rows job.dots.resolution ≡ job.smoothing.times
  pub painted : is_sized rows ≡ false → job.dots.resolution * job.smoothing.times ≤ 1200

-- the same of a job and its smoothing, and of its rows
pub record IsJobOf (kind : Kind) (rows : List Row) (job : Job) (choice : RowChoice) : Type 0 where
  pub page : IsPageOf rows job.page
  pub dots : dots_in kind rows ≡ job.dots.resolution
  pub pens : ArePensOf rows job.pens
  pub times : smooth_in kind (is_smoothed (output.Picture job.form)) rows job.dots.resolution ≡ choice.smoothing.times
  pub painted : is_sized rows ≡ false → job.dots.resolution * choice.smoothing.times ≤ 1200
  pub band : unwrap_or (number_in rows (codes "band")) 64 ≡ job.band
  pub first_row : unwrap_or (number_in rows (codes "from")) 0 ≡ job.first_row
  pub most_rows : number_in rows (codes "rows") ≡ choice.most_rows

-- the page, the pens and the labels of the job are those of the options, and nothing is said of pixels
pub record IsVectorJobOf (rows : List Row) (job : VectorJob) : Type 0 where
  pub page : IsPageOf rows job.page
  pub pens : ArePensOf rows job.pens
  pub labels : labels_in rows ≡ Some job.labels
  pub plain : has_pixels rows ≡ false

-- the task is a picture in this form, by these options
abbrev pub IsPictureOf : Kind → Form → List Row → Task → Type 0
IsPictureOf kind form rows (Picture (Rows job choice)) = (job.form ≡ form) × IsJobOf kind rows job choice
IsPictureOf kind form rows _ = ⊥

-- the same of a vector document in this format
abbrev pub IsVectorOf : VectorFormat → List Row → Task → Type 0
IsVectorOf format rows (Picture (Vector job)) = (job.format ≡ format) × IsVectorJobOf rows job
IsVectorOf format rows _ = ⊥

-- the task is what a subcommand does, by its options
abbrev pub IsTaskOf : Kind → List Row → Task → Type 0
IsTaskOf kind rows (Picture (Rows job choice)) =
    (written kind rows ≡ Some (output.Picture job.form)) × IsJobOf kind rows job choice
IsTaskOf kind rows (Picture (Png job)) = (written kind rows ≡ Some output.Png) × IsPngJobOf kind true rows job
IsTaskOf kind rows (Picture (Vector job)) =
    (written kind rows ≡ Some (output.Vector job.format)) × IsVectorJobOf rows job
IsTaskOf kind rows (Report page) = (written kind rows ≡ Some output.Report) × IsPageOf rows page

-- the plot is read in the profile core, or in full with the sheet and the characters that are asked for
abbrev pub IsReadingOf : List Row → Reading → Type 0
IsReadingOf rows Core =
    (profile_text rows ≡ Some (codes "core")) × (sheet_text rows ≡ None) × (characters_text rows ≡ None)
IsReadingOf rows (Full sheet encoding) =
    (profile_text rows ≡ Some (codes "full")) × (sheet_in rows ≡ Some sheet) × (encoding_of rows ≡ Some encoding)

-- each pen has the colour and the width that the lists give it, and none if they give it none
pub record IsCarouselOf (rows : List Row) (carousel : Carousel) : Type 0 where
  pub colours : (pen : ℕ) → pen < 256
      → colour_of carousel pen ≡ option_and_then (λ list. given colour_written list pen) (colours_text rows)
  pub widths : (pen : ℕ) → pen < 256
      → width_of carousel pen ≡ option_and_then (λ list. given width_written list pen) (widths_text rows)

-- the page that the plot asks for, or the given one; around the drawing the given margin, or that of the subcommand, if the
-- page is fitted; and so many pixels as are given
abbrev pub choice_in : Kind → List Row → PageChoice
choice_in kind rows = record {
  asked = asks_plot kind rows;
  margin = if has_fit kind rows then Some (unwrap_or (margin_in rows) (defaults_of kind).margin) else None;
  pixels = number_in rows (codes "size");
}

-- a margin is given, and the page is not fitted
abbrev pub has_stray_margin : Kind → List Row → Bool
has_stray_margin kind rows = not (has_fit kind rows) && is_some (margin_in rows)

-- the choice of the page is that of the options
pub record IsChoiceOf (kind : Kind) (rows : List Row) (chosen : PageChoice) : Type 0 where
  pub choice : chosen ≡ choice_in kind rows
  pub fitted : has_stray_margin kind rows ≡ false

-- a report is written
abbrev pub is_report : Kind → Bool
is_report (Write output.Report) = true
is_report _ = false

-- a PDF is written, in which each sheet has a page
abbrev pub is_pdf : Output → Bool
is_pdf (output.Vector Pdf) = true
is_pdf _ = false

abbrev pub has_pages : Kind → List Row → Bool
has_pages kind rows = option_map_or is_pdf (written kind rows) false

-- what is wrong with asking for each sheet by itself: there is no picture, or nothing says where the files go
abbrev pub each_fault : Kind → List Row → Option LineFault
each_fault kind rows =
    if not (asks_each rows) then None else
    if is_report kind then Some NoPicture else
    if not (is_given rows (codes "output") || has_pages kind rows) then Some NoFolder else None

-- PCL is written
abbrev pub is_for_printers : Kind → List Row → Bool
is_for_printers kind rows = option_map_or is_pcl (written kind rows) false

-- what is wrong with choosing the picture's pixels: its dots per inch are given, or are the printer's
abbrev pub pixels_fault : Kind → List Row → Option LineFault
pixels_fault kind rows =
    if not (is_sized rows) then None else
    if is_given rows (codes "dots") then Some Pixels else
    if is_for_printers kind rows then Some PrinterPixels else None

-- the profile has this name
abbrev pub has_profile : List Row → Text → Bool
has_profile rows name = option_map_or (λ text. bytes_eq text name) (profile_text rows) false

-- a picture is written in which labels may be texts
abbrev pub writes_texts : Kind → List Row → Bool
writes_texts kind rows = option_map_or has_texts (written kind rows) false

-- what is wrong with how labels are to be written: first comes the name, then the form, then the profile, without whose
-- labels there are no texts
abbrev pub labels_fault : Kind → List Row → Option LineFault
labels_fault kind rows =
    if not (is_some (labels_in rows)) then Some BadLabels else
    if not (is_given rows (codes "labels")) then None else
    if not (writes_texts kind rows) then Some NoTexts else
    if has_profile rows (codes "core") then Some Labels else None

-- the line is what a subcommand does, by its options and its files
pub record IsLineBy (kind : Kind) (rows : List Row) (line : Line) : Type 0 where
  pub task : IsTaskOf kind rows line.task
  pub reading : IsReadingOf rows line.reading
  pub choice : IsChoiceOf kind rows line.choice
  pub turned : turn_in rows ≡ Some line.turn
  pub sized : pixels_fault kind rows ≡ None
  pub labelled : labels_fault kind rows ≡ None
  pub carousel : IsCarouselOf rows line.carousel
  pub files : map (λ s. s.now) line.files.now ≡ files_in rows
  pub output : option_map (λ s. s.now) line.output ≡ output_text rows
  pub placed : has_no_place rows ≡ false
  pub sheet_named : line.sheet_named ≡ is_given rows (codes "sheet")
  pub each_sheet : line.each_sheet ≡ (asks_each rows && not (has_pages kind rows))
  pub each_placed : each_fault kind rows ≡ None
  pub verbose : line.verbose ≡ has_flag rows (codes "verbose")
  pub quiet : line.quiet ≡ has_flag rows (codes "quiet")
  pub interactive : line.interactive ≡ (defaults_of kind).interactive
  pub remarks : line.remarks ≡ (line.interactive && not line.quiet)
  pub progress : line.progress ≡ ((has_flag rows (codes "progress") || line.interactive) && not line.quiet)

-- the line is what the matches m ask for: by the subcommand, where the output goes, its options and its files
pub record IsLineOf (destination : Destination) (m : ArgMatches) (line : Line) : Type 0 where
  pub name : Text
  pub rows : List Row
  pub kind : Kind
  pub matches : subcommand_rows_of m ≡ Some (name, rows)
  pub named : kind_named name ≡ Some kind
  pub by : IsLineBy (kind_into destination kind) rows line

-- the file or the folder that the output goes into, if the matches name one
abbrev pub output_in : ArgMatches → Option Text
output_in m = option_and_then (λ it. output_text it.1) (subcommand_rows_of m)

-- the matches are those of a command line in which `plotraster` finds no fault
abbrev pub AreOfThisCommand : ArgMatches → Type 0
AreOfThisCommand m = (words : List Text) × HasGoodMatches plot_app words m

-- the option for the list of pens has a text, and it is no list of pens
abbrev pub lists_no_pens : List Row → Bool
lists_no_pens rows = option_map_or (λ text. not (is_pen_list text)) (pens_text rows) false

-- a picture in a form is asked for, by a text that is no list of pens
abbrev pub has_bad_list : Kind → List Row → Bool
has_bad_list kind rows = option_map_or is_picture (written kind rows) false && lists_no_pens rows

-- the same of the subcommand of this name
abbrev pub names_bad_list : Destination → Text × List Row → Bool
names_bad_list destination (name, rows) =
    option_map_or (λ kind. has_bad_list (kind_into destination kind) rows) (kind_named name) false

-- the matches ask for a picture by such a text
abbrev pub asks_bad_list : Destination → ArgMatches → Bool
asks_bad_list destination m = option_map_or (names_bad_list destination) (subcommand_rows_of m) false

-- a smoothing is given for a picture that may not be smoothed
abbrev pub has_stray_smooth : Bool → List Row → Bool
has_stray_smooth is_smoothed rows = not is_smoothed && is_some (number_in rows (codes "smooth"))

-- the picture would be painted at more than 1200 dots per inch, which are not chosen by its pixels
abbrev pub is_too_fine : Kind → Bool → List Row → Bool
is_too_fine kind is_smoothed rows =
    let dots = dots_in kind rows in
    not (is_sized rows) && nat_lt 1200 (dots * smooth_in kind is_smoothed rows dots)

-- there is no such name
abbrev pub has_bad_paper : List Row → Bool
has_bad_paper rows = option_map_or (λ name. not (is_some (size_named name))) (paper_text rows) false

-- what is wrong with the size of the page
abbrev pub page_fault : List Row → Option LineFault
page_fault rows =
    if has_bad_paper rows then Some Paper else if has_paper_and_side rows then Some Size else None

-- the name of the profile is neither core nor full
abbrev pub has_bad_profile : List Row → Bool
has_bad_profile rows = not (has_profile rows (codes "core") || has_profile rows (codes "full"))

-- a sheet is given in the profile core
abbrev pub has_stray_sheet : List Row → Bool
has_stray_sheet rows = has_profile rows (codes "core") && is_given rows (codes "sheet")

-- a name of characters is given in the profile core
abbrev pub has_stray_characters : List Row → Bool
has_stray_characters rows = has_profile rows (codes "core") && is_given rows (codes "characters")

-- a side of the page is given that is longer than those of the profile core
abbrev pub is_long : List Row → Text → Bool
is_long rows name = option_map_or (λ n. nat_lt LONGEST_SIDE n) (number_in rows name) false

abbrev pub has_stray_length : List Row → Bool
has_stray_length rows = has_profile rows (codes "core") && (is_long rows (codes "width") || is_long rows (codes "height"))

-- what is wrong with how the plot is to be read
abbrev pub reading_fault : List Row → Option LineFault
reading_fault rows =
    if not (is_some (sheet_in rows)) then Some BadSheet else
    if not (is_some (encoding_of rows)) then Some BadCharacters else
    if has_bad_profile rows then Some Profile else
    if has_stray_sheet rows then Some Sheet else
    if has_stray_characters rows then Some Characters else
    if has_stray_length rows then Some LongPage else None

-- what is wrong with the choice of the page
abbrev pub choice_fault : Kind → List Row → Option LineFault
choice_fault kind rows = if has_stray_margin kind rows then Some Margin else None

-- what is wrong with the turn of the page
abbrev pub turn_fault : List Row → Option LineFault
turn_fault rows = if is_some (turn_in rows) then None else Some BadTurn

-- what is wrong with where the output goes: nothing says it, and there are several plots
abbrev pub output_fault : List Row → Option LineFault
output_fault rows = if has_no_place rows then Some Several else None

-- what is wrong with the values of a picture's options: first comes the smoothing, then the page
abbrev pub picture_fault : Kind → Bool → List Row → Option LineFault
picture_fault kind is_smoothed rows =
    if has_stray_smooth is_smoothed rows then Some Shades else
    if is_too_fine kind is_smoothed rows then Some Smooth else
    page_fault rows

-- the same of a vector document: first comes what is said of pixels
abbrev pub vector_fault : List Row → Option LineFault
vector_fault rows = if has_pixels rows then Some NoPixels else page_fault rows

-- what is wrong with the values for what is written
abbrev pub fault_of_output : Kind → List Row → Output → Option LineFault
fault_of_output kind rows output.Report = page_fault rows
fault_of_output kind rows (output.Vector format) = vector_fault rows
fault_of_output kind rows o = picture_fault kind (is_smoothed o) rows

-- what is wrong with the task
abbrev pub task_fault : Kind → List Row → Option LineFault
task_fault kind rows = option_and_then (fault_of_output kind rows) (written kind rows)

-- what is wrong with what is to be drawn: first comes the form, then the list of pens
abbrev pub selection_fault : Kind → List Row → Option LineFault
selection_fault kind rows =
    if not (is_some (written kind rows)) then Some NoForm else
    if has_bad_list kind rows then Some Pens else None

-- the first bad items of the lists of colours and of widths
abbrev pub bad_colours : List Row → Option Refusal
bad_colours rows = option_map BadColours (option_and_then (first_bad colour_written) (colours_text rows))

abbrev pub bad_widths : List Row → Option Refusal
bad_widths rows = option_map BadWidths (option_and_then (first_bad width_written) (widths_text rows))

abbrev pub carousel_fault : List Row → Option Refusal
carousel_fault rows = option_or (bad_colours rows) (bad_widths rows)

-- what is wrong with the values of a subcommand's options: the first of these faults
abbrev pub values_fault : Kind → List Row → Option Refusal
values_fault kind rows = first_of_these (
    option_map refusal_of (selection_fault kind rows)
    ∷ carousel_fault rows
    ∷ option_map refusal_of (labels_fault kind rows)
    ∷ option_map refusal_of (task_fault kind rows)
    ∷ option_map refusal_of (reading_fault rows)
    ∷ option_map refusal_of (each_fault kind rows)
    ∷ option_map refusal_of (pixels_fault kind rows)
    ∷ option_map refusal_of (choice_fault kind rows)
    ∷ option_map refusal_of (turn_fault rows)
    ∷ option_map refusal_of (output_fault rows)
    ∷ [])

-- the same for the subcommand of this name
abbrev pub fault_of_values : Destination → Text × List Row → Option Refusal
fault_of_values destination (name, rows) =
    option_and_then (λ kind. values_fault (kind_into destination kind) rows) (kind_named name)

-- the same for the matches
abbrev pub line_fault : Destination → ArgMatches → Option Refusal
line_fault destination m = option_and_then (fault_of_values destination) (subcommand_rows_of m)
