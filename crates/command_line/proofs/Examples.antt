-- What the command takes, and what it asks for, at some words.
use Rattle.std.proofs.Common.{◌∷◌, [], Bool, List, Option, Some, None, ℕ, true, codes, refl}
use Rattle.std.specs.Prelude.{option_and_then, option_map, false}
use Rattle.std.specs.Option.{option_map_or}
use Rattle.clap.specs.Words.{Text, first_of, subcommand_of, takes}
use Rattle.clap.proofs.OnLiterals.{clap_on_literals}
use Rattle.clap.specs.declared.error.kind.ErrorKind.TheVariants as kind
use Rattle.picture_job.specs.declared.vector_job.VectorFormat.TheVariants as format
use Rattle.picture_out.specs.declared.form.Form.TheVariants as form
use Rattle.command_line.specs.declared.destination.Destination.TheVariants.{File}
use Rattle.command_line.specs.declared.subcommands.Kind.{Kind}
use Rattle.command_line.specs.declared.subcommands.Kind.TheVariants as kind_of
use Rattle.command_line.specs.declared.subcommands.Output.{Output}
use Rattle.command_line.specs.declared.subcommands.Output.TheVariants as output
use Rattle.command_line.specs.Faults.{Plain}
use Rattle.command_line.specs.declared.fault.LineFault.TheVariants as fault
use Rattle.command_line.specs.Lines.{dots_in, files_in, has_flag, kind_named, names_bad_list, number_in, page_size, pens_text, profile_text, usual_smooth, written}
use Rattle.command_line.proofs.OnWords.{Table, words_of, choice_on, faults_on, value_fault_on}
use Rattle.command_line.specs.Forms.{extension_of, form_named}
use Rattle.std.specs.Path.{path_extension, path_file_name, rsplit_once, split_last_component, trim_trailing}
use Rattle.command_line.specs.Papers.{paper_of}
use Rattle.command_line.specs.Options.{plot_app}
use Rattle.command_line.specs.Statuses.{parse_status_of}

-- the exit status of each kind of error of a parse
statuses : Table parse_status_of (
    (kind.DisplayHelp, 0)  -- help is no fault
    ∷ (kind.DisplayVersion, 0)  -- version is no fault
    ∷ (kind.OutOfMemory, 4)  -- no memory
    ∷ (kind.UnknownArgument, 2)  -- unknown option
    ∷ []
    )
statuses = refl

-- what the subcommand of a name does
subcommands_by_name : Table kind_named (
    (codes "draw", Some (kind_of.Draw File))  -- draw asks for a form
    ∷ (codes "ppm", Some (kind_of.Write (output.Picture form.Ppm)))  -- ppm is a pixmap
    ∷ (codes "pcl", Some (kind_of.Write (output.Picture form.Pcl)))  -- pcl is for a printer
    ∷ (codes "report", Some (kind_of.Write output.Report))  -- report describes
    ∷ (codes "png", Some (kind_of.Write output.Png))  -- png is for browsers
    ∷ (codes "gif", None)  -- no such name
    ∷ []
    )
subcommands_by_name = refl

-- the form of a name
forms_by_name : Table form_named (
    (codes "PBM", Some (output.Picture form.Pbm))  -- a form in capitals
    ∷ (codes "report", None)  -- report is no form
    ∷ []
    )
forms_by_name = refl

-- the extension of a path
extensions : Table extension_of (
    (codes "a.pbm/plan.v2.ppm", Some (codes "ppm"))  -- last extension
    ∷ (codes "out.d/plan", None)  -- no extension
    ∷ (codes ".pbm", None)  -- only a dot before
    ∷ (codes ".", None)  -- this folder
    ∷ (codes "out.d/", None)  -- a folder
    ∷ []
    )
unfolding path_extension path_file_name rsplit_once split_last_component trim_trailing
extensions = refl

-- how much finer a picture is painted: of a subcommand, if its pixels are chosen, at so many dots per inch
usual_smoothings : Table (λ (it : Kind × Bool × ℕ). usual_smooth it.0 it.1 it.2) (
    ((kind_of.Draw File, false, 300), 4)  -- smoothed four times
    ∷ ((kind_of.Draw File, false, 400), 3)  -- as fine as may be
    ∷ ((kind_of.Draw File, false, 601), 1)  -- not smoothed
    ∷ ((kind_of.Write output.Png, false, 10), 1)  -- only draw smooths
    ∷ ((kind_of.Draw File, true, 1200), 8)  -- smoothed most in so many pixels
    ∷ []
    )
usual_smoothings = refl

-- the paper of a name
papers_by_name : Table paper_of (
    (codes "b4", Some (14120, 10000))  -- b4 is a paper
    ∷ (codes "legal-portrait", Some (8636, 14224))  -- legal in portrait
    ∷ (codes "A4", None)  -- no capitals
    ∷ (codes "a4-landscape", None)  -- no landscape
    ∷ (codes "-portrait", None)  -- no paper
    ∷ []
    )
papers_by_name = refl

-- the number that an option has on a command line
abbrev number_on : Text → Text → Option ℕ
number_on line name = option_and_then (λ p. number_in p.1 name) (subcommand_of plot_app (words_of line))

-- the number of an option
numbers : Table (λ (it : Text × Text). number_on it.0 it.1) (
    ((codes "pbm", codes "width"), None)  -- width left out
    ∷ ((codes "pbm --dots 300", codes "dots"), Some 300)  -- dots given
    ∷ ((codes "pcl --dots 600", codes "dots"), Some 600)  -- pcl is a subcommand
    ∷ ((codes "ppm --from=+7", codes "from"), Some 7)  -- plus sign
    ∷ ((codes "pcl --rows=9", codes "rows"), Some 9)  -- at most so many rows
    ∷ ((codes "pcl --from=9", codes "rows"), None)  -- all rows
    ∷ ((codes "png --smooth 4", codes "smooth"), Some 4)  -- smooth given
    ∷ ((codes "ppm", codes "smooth"), None)  -- smooth left out
    ∷ []
    )
unfolding clap_on_literals
numbers = refl

-- the width and the height of the page on a command line
abbrev size_on : Text → Option (ℕ × ℕ)
size_on line = option_and_then (λ p. page_size p.1) (subcommand_of plot_app (words_of line))

-- the width and the height of the page
sizes : Table size_on (
    (codes "pbm", Some (11880, 8400))  -- size left out
    ∷ (codes "pbm --page a4", Some (11880, 8400))  -- a4 is the default
    ∷ (codes "report --page=letter-portrait", Some (8636, 11176))  -- letter in portrait
    ∷ (codes "pcl --height=64", Some (11880, 64))  -- height given
    ∷ []
    )
unfolding clap_on_literals
sizes = refl

-- the text that the option for the list of pens has on a command line
abbrev pens_on : Text → Option Text
pens_on line = option_and_then (λ p. pens_text p.1) (subcommand_of plot_app (words_of line))

-- the text of the list of pens
lists_of_pens : Table pens_on (
    (codes "pbm", Some (codes "all"))  -- pens left out
    ∷ (codes "pbm --pens 1,3", Some (codes "1,3"))  -- pens given
    ∷ []
    )
unfolding clap_on_literals
lists_of_pens = refl

-- the profile on a command line
abbrev profile_on : Text → Option (Option Text)
profile_on line = option_map (λ p. profile_text p.1) (subcommand_of plot_app (words_of line))

-- the profile
profiles : Table profile_on (
    (codes "pbm", Some (Some (codes "core")))  -- profile left out
    ∷ (codes "report --profile=full", Some (Some (codes "full")))  -- profile given
    ∷ (codes "draw", Some (Some (codes "full")))  -- draw reads full
    ∷ []
    )
unfolding clap_on_literals
profiles = refl

-- what is wrong with the values
faults_of_values_1 : Table value_fault_on (
    (codes "pbm --profile=full --sheet=2", None)  -- nothing wrong
    ∷ (codes "marks --profile=fuller --sheet=2", Some (Plain fault.Profile))  -- no such profile
    ∷ (codes "report --sheet=1", Some (Plain fault.Sheet))  -- sheet in core
    ∷ (codes "draw -o plan.eps --pens=0", Some (Plain fault.Form))  -- no form
    ∷ (codes "draw --margin=9", None)  -- margin of a fitted page
    ∷ (codes "draw --margin=9 --page=a4", Some (Plain fault.Margin))  -- margin of a given page
    ∷ (codes "draw --form=pbm --smooth=2", Some (Plain fault.Shades))  -- no shades
    ∷ (codes "png --dots=601 --smooth=2", Some (Plain fault.Smooth))  -- too fine
    ∷ (codes "ppm --dots=150 --smooth=8", None)  -- fine enough
    ∷ (codes "png --dots=1200 --smooth=2 --pens=0", Some (Plain fault.Pens))  -- list before smoothing
    ∷ (codes "ppm --dots=1200 --smooth=2 --page=a6", Some (Plain fault.Smooth))  -- smoothing before paper
    ∷ (codes "pcl --pens=0 --sheet=1", Some (Plain fault.Pens))  -- list before sheet
    ∷ (codes "pbm --page=a6 --width=64", Some (Plain fault.Paper))  -- no such paper
    ∷ []
    )
unfolding clap_on_literals path_extension path_file_name rsplit_once split_last_component trim_trailing
faults_of_values_1 = refl

faults_of_values_2 : Table value_fault_on (
    (codes "report --width=11880 --page=a4", Some (Plain fault.Size))  -- paper and width
    ∷ (codes "ppm --page=a6 --pens=0", Some (Plain fault.Pens))  -- list before paper
    ∷ (codes "marks --profile=none --page=a4 --height=64", Some (Plain fault.Size))  -- paper before profile
    ∷ (codes "ppm a.plt b.plt", Some (Plain fault.Several))  -- no place
    ∷ (codes "report a.plt --margin=1 b.plt", Some (Plain fault.Margin))  -- margin before place
    ∷ (codes "pbm a.plt b.plt --output=out", None)  -- a place for several
    ∷ (codes "pdf --margin=1 --rotate=45", Some (Plain fault.Margin))  -- margin before turn
    ∷ (codes "report --rotate=-90 a.plt b.plt", Some (Plain fault.BadTurn))  -- turn before place
    ∷ []
    )
unfolding clap_on_literals path_extension path_file_name rsplit_once split_last_component trim_trailing
faults_of_values_2 = refl

-- what is written on a command line
abbrev written_on : Text → Option Output
written_on line = option_and_then (λ p. option_and_then (λ kind. written kind p.1) (kind_named p.0)) (subcommand_of plot_app (words_of line))

-- what is written
what_is_written : Table written_on (
    (codes "draw plan.plt", Some output.Png)  -- drawn as png
    ∷ (codes "draw --form=pcl -o plan.pbm", Some (output.Picture form.Pcl))  -- form given
    ∷ (codes "draw -o plan.pbm", Some (output.Picture form.Pbm))  -- form by extension
    ∷ (codes "draw -o plan.svg", Some (output.Vector format.Svg))  -- document by extension
    ∷ (codes "draw --form DXF -o plan.svg", Some (output.Vector format.Dxf))  -- document by form, in capitals
    ∷ []
    )
unfolding clap_on_literals path_extension path_file_name rsplit_once split_last_component trim_trailing
what_is_written = refl

-- the choice of the page
choices : Table choice_on (
    (codes "draw", Some (record { asked = true; margin = Some 5; pixels = None }))  -- drawn whole
    ∷ (codes "draw --height=8400", Some (record { asked = false; margin = None; pixels = None }))  -- drawn on the page
    ∷ (codes "draw --page=plot --fit --margin=0", Some (record { asked = true; margin = Some 0; pixels = None }))  -- drawn on the page of the plot
    ∷ (codes "png --page=plot --fit", Some (record { asked = true; margin = Some 1; pixels = None }))  -- fitted by png
    ∷ (codes "png", Some (record { asked = false; margin = None; pixels = None }))  -- not fitted by png
    ∷ []
    )
unfolding clap_on_literals
choices = refl

-- the dots per inch on a command line
abbrev dots_on : Text → Option ℕ
dots_on line = option_and_then (λ p. option_map (λ kind. dots_in kind p.1) (kind_named p.0)) (subcommand_of plot_app (words_of line))

-- the dots per inch
resolutions : Table dots_on (
    (codes "draw", Some 150)  -- draw has 150 dots
    ∷ (codes "pcl", Some 100)  -- pcl has 100 dots
    ∷ []
    )
unfolding clap_on_literals
resolutions = refl

-- the plots' files on a command line
abbrev files_on : Text → Option (List Text)
files_on line = option_map (λ p. files_in p.1) (subcommand_of plot_app (words_of line))

-- the files of the plots
files : Table files_on (
    (codes "pbm --left=1", Some [])  -- no file
    ∷ (codes "pbm b.plt -o out a.plt b.plt", Some (codes "b.plt" ∷ codes "a.plt" ∷ codes "b.plt" ∷ []))  -- files in order
    ∷ (codes "report a.plt -- --fit", Some (codes "a.plt" ∷ codes "--fit" ∷ []))  -- files after hyphens
    ∷ []
    )
unfolding clap_on_literals
files = refl

-- the name of the file to write on a command line
abbrev output_on : Text → Option Text
output_on line = option_and_then (λ p. first_of (codes "output") p.1) (subcommand_of plot_app (words_of line))

-- the file to write
outputs : Table output_on (
    (codes "pbm plan.plt", None)  -- output left out
    ∷ (codes "report --output=plan.txt", Some (codes "plan.txt"))  -- output in full
    ∷ (codes "pbm plan.plt -o plan.pbm", Some (codes "plan.pbm"))  -- output in short
    ∷ []
    )
unfolding clap_on_literals
outputs = refl

-- a command line asks for a picture by a text that is no list of pens
abbrev bad_list_on : Text → Bool
bad_list_on line = option_map_or (names_bad_list File) (subcommand_of plot_app (words_of line)) false

-- a picture is asked for by a text that is no list of pens
bad_lists : Table bad_list_on (
    (codes "pbm --pens=7-5", true)  -- falling range
    ∷ (codes "pbm --pens=5-7", false)  -- rising range
    ∷ (codes "report", false)  -- report has no list
    ∷ []
    )
unfolding clap_on_literals
bad_lists = refl

-- the words are taken
abbrev takes_on : Text → Bool
takes_on line = takes plot_app (words_of line)

-- the words are taken
words_that_are_taken : Table takes_on (
    (codes "marks plan.plt", true)  -- file takes no option
    ∷ []
    )
unfolding clap_on_literals
words_that_are_taken = refl

-- the kinds of fault
faults_of_words_1 : Table faults_on (
    (codes "", kind.MissingSubcommand ∷ [])  -- no subcommand
    ∷ (codes "marks --dots 9", kind.ValueValidation ∷ [])  -- dots too few
    ∷ (codes "pbm --band 8 --band 8", kind.ArgumentConflict ∷ [])  -- band twice
    ∷ (codes "pbm --page=a4 --page=a4", kind.ArgumentConflict ∷ [])  -- page twice
    ∷ (codes "report --profile=full --profile=full", kind.ArgumentConflict ∷ [])  -- profile twice
    ∷ (codes "report --dots 100", kind.UnknownArgument ∷ [])  -- report has no dots
    ∷ (codes "pbm -h", kind.DisplayHelp ∷ [])  -- asked for help
    ∷ (codes "--version", kind.DisplayVersion ∷ [])  -- asked for the version
    ∷ (codes "pbm --version", kind.UnknownArgument ∷ [])  -- subcommand has no version
    ∷ (codes "ppm --fit --fit", kind.ArgumentConflict ∷ [])  -- fit twice
    ∷ (codes "pbm --smooth=2", kind.UnknownArgument ∷ [])  -- bitmap is not smoothed
    ∷ (codes "png --from=0", kind.UnknownArgument ∷ [])  -- png has no first row
    ∷ (codes "png --band=64", kind.UnknownArgument ∷ [])  -- png has no bands
    ∷ []
    )
unfolding clap_on_literals
faults_of_words_1 = refl

faults_of_words_2 : Table faults_on (
    (codes "draw --band=64", kind.UnknownArgument ∷ [])  -- draw has no bands
    ∷ (codes "report --progress", kind.UnknownArgument ∷ [])  -- report shows no progress
    ∷ []
    )
unfolding clap_on_literals
faults_of_words_2 = refl

-- whether a flag is given on a command line
abbrev flag_on : Text → Text → Option Bool
flag_on line name = option_map (λ p. has_flag p.1 name) (subcommand_of plot_app (words_of line))

-- a flag is given
flags : Table (λ (it : Text × Text). flag_on it.0 it.1) (
    ((codes "pbm --fit a.plt", codes "fit"), Some true)  -- fit given
    ∷ ((codes "report --margin=5", codes "fit"), Some false)  -- fit left out
    ∷ ((codes "report --verbose", codes "verbose"), Some true)  -- report says more
    ∷ ((codes "draw --quiet", codes "quiet"), Some true)  -- quiet given
    ∷ []
    )
unfolding clap_on_literals
flags = refl
