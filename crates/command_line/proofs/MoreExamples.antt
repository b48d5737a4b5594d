-- What the command asks for of pens, sheets, characters, labels and pixels, at some words.
use Rattle.std.proofs.Common.{◌∷◌, [], Option, Some, None, ℕ, false, codes, refl}
use Rattle.std.specs.Prelude.{option_and_then}
use Rattle.clap.specs.Words.{Text, subcommand_of}
use Rattle.clap.proofs.OnLiterals.{clap_on_literals}
use Rattle.clap.specs.declared.error.kind.ErrorKind.TheVariants as kind
use Rattle.character_sets.specs.declared.encoding.Encoding.{Encoding}
use Rattle.character_sets.specs.declared.encoding.Encoding.TheVariants.{Always, ByPlot, Utf8}
use Rattle.character_sets.specs.declared.set.CharacterSet.TheVariants.{Latin1, Pc8}
use Rattle.plot_page.specs.declared.colour.Colour.{Colour}
use Rattle.pen_list.specs.Assignments.{given}
use Rattle.pen_list.specs.Colours.{colour_written}
use Rattle.command_line.specs.declared.fault.LineFault.TheVariants as fault
use Rattle.command_line.specs.Faults.{BadColours, BadWidths, Plain}
use Rattle.command_line.specs.Characters.{encoding_named}
use Rattle.command_line.specs.LabelChoices.{labels_named}
use Rattle.command_line.specs.Lines.{colours_text, encoding_of, labels_in, sheet_in, turn_in}
use Rattle.command_line.specs.Options.{plot_app}
use Rattle.command_line.specs.Sheets.{sheet_named}
use Rattle.command_line.specs.Turns.{turn_named}
use Rattle.directions.specs.declared.turn.Turn.{Turn}
use Rattle.directions.specs.declared.turn.Turn.TheVariants as turn
use Rattle.picture_job.specs.declared.vector_job.LabelChoice.{LabelChoice}
use Rattle.picture_job.specs.declared.vector_job.LabelChoice.TheVariants as label
use Rattle.command_line.proofs.OnWords.{Table, words_of, choice_on, faults_on, value_fault_on}

-- the sheet that a text asks for
sheets_by_text : Table sheet_named (
    (codes "each", Some 0)  -- each is all sheets
    ∷ (codes "+03", Some 3)  -- sheet with signs
    ∷ (codes "-1", None)  -- sheet below 0
    ∷ (codes "4194304", Some 4194304)  -- last sheet
    ∷ (codes "4194305", None)  -- past the last sheet
    ∷ (codes "Each", None)  -- no capital each
    ∷ []
    )
sheets_by_text = refl

-- the turn that a text asks for
turns_by_text : Table turn_named (
    (codes "0", Some turn.None)  -- none
    ∷ (codes "90", Some turn.Quarter)  -- a quarter
    ∷ (codes "180", Some turn.Half)  -- a half
    ∷ (codes "270", Some turn.ThreeQuarters)  -- three quarters
    ∷ (codes "360", None)  -- not all the way round
    ∷ (codes "-90", None)  -- not clockwise
    ∷ (codes "45", None)  -- not an eighth
    ∷ []
    )
turns_by_text = refl

-- the turn that is asked for on a command line
abbrev turn_on : Text → Option Turn
turn_on line = option_and_then (λ p. turn_in p.1) (subcommand_of plot_app (words_of line))

-- the turn that is asked for
turns : Table turn_on (
    (codes "draw", Some turn.None)  -- turn left out
    ∷ (codes "svg --rotate 270", Some turn.ThreeQuarters)  -- turn given
    ∷ (codes "report --rotate=90", Some turn.Quarter)  -- of a report, too
    ∷ []
    )
unfolding clap_on_literals
turns = refl

-- the sheet that is asked for on a command line
abbrev sheet_on : Text → Option ℕ
sheet_on line = option_and_then (λ p. sheet_in p.1) (subcommand_of plot_app (words_of line))

-- the sheet that is asked for
sheets : Table sheet_on (
    (codes "ppm --profile full", Some 1)  -- sheet left out
    ∷ (codes "ppm --sheet 2 --profile full", Some 2)  -- sheet given
    ∷ (codes "report --sheet=0 --profile=full", Some 0)  -- all sheets
    ∷ []
    )
unfolding clap_on_literals
sheets = refl

-- what is wrong with the values
faults_of_values_1 : Table value_fault_on (
    (codes "marks --sheet=4194305 --profile=none", Some (Plain fault.BadSheet))  -- sheet past the last
    ∷ (codes "png --sheet=each", Some (Plain fault.Sheet))  -- each in core
    ∷ (codes "report --sheet=each --profile=full", Some (Plain fault.NoPicture))  -- each report
    ∷ (codes "pdf --sheet=each --profile=full", None)  -- each page
    ∷ (codes "draw --form=pdf --dots=150 --page=none", Some (Plain fault.NoPixels))  -- dots of a document
    ∷ (codes "draw --sheet=each", Some (Plain fault.NoFolder))  -- each without a folder
    ∷ (codes "pbm --profile=full --sheet=each --output=out", None)  -- each in a folder
    ∷ (codes "draw --characters=ascii", None)  -- good characters
    ∷ (codes "pbm --characters=german --profile=none", Some (Plain fault.BadCharacters))  -- bad characters
    ∷ (codes "pbm --characters=german --sheet=none", Some (Plain fault.BadSheet))  -- sheet before characters
    ∷ (codes "png --characters=utf-8", Some (Plain fault.Characters))  -- characters in core
    ∷ (codes "draw --characters=utf-8 --sheet=1 --profile=core", Some (Plain fault.Sheet))  -- sheet and characters in core
    ∷ (codes "ppm --colours=1=red,2=bleu --widths=3=fat", Some (BadColours (codes "2=bleu")))  -- bad colour
    ∷ []
    )
unfolding clap_on_literals
faults_of_values_1 = refl

faults_of_values_2 : Table value_fault_on (
    (codes "report --widths=3=fat --page=none", Some (BadWidths (codes "3=fat")))  -- bad width
    ∷ (codes "pcl --colours=x --pens=0", Some (Plain fault.Pens))  -- pens before colours
    ∷ (codes "draw --size=800 --dots=150", Some (Plain fault.Pixels))  -- pixels and dots
    ∷ (codes "draw --size=800 --form=pcl", Some (Plain fault.PrinterPixels))  -- pixels of a printer
    ∷ (codes "draw --size=20000 --smooth=8", None)  -- pixels of any smoothing
    ∷ []
    )
unfolding clap_on_literals
faults_of_values_2 = refl

-- the characters of a name
encodings_by_name : Table encoding_named (
    (codes "latin-1", Some (Always Latin1))  -- latin 1 is a set
    ∷ (codes "utf-8", Some Utf8)  -- utf 8 is no set
    ∷ (codes "ASCII", None)  -- no capital ascii
    ∷ (codes "latin-2", None)  -- no such characters
    ∷ []
    )
encodings_by_name = refl

-- how a command line has the bytes of labels read
abbrev encoding_on : Text → Option Encoding
encoding_on line = option_and_then (λ p. encoding_of p.1) (subcommand_of plot_app (words_of line))

-- how the bytes of labels are read
encodings : Table encoding_on (
    (codes "draw", Some ByPlot)  -- characters left out
    ∷ (codes "report --characters pc-8 --profile=full", Some (Always Pc8))  -- characters given
    ∷ []
    )
unfolding clap_on_literals
encodings = refl

-- how labels are written, by the name
labels_by_name : Table labels_named (
    (codes "text", Some label.Text)  -- as texts
    ∷ (codes "strokes", Some label.Strokes)  -- as strokes
    ∷ (codes "Text", None)  -- no capital text
    ∷ (codes "stroke", None)  -- one of them is none
    ∷ []
    )
labels_by_name = refl

-- how a command line has labels written
abbrev labels_on : Text → Option LabelChoice
labels_on line = option_and_then (λ p. labels_in p.1) (subcommand_of plot_app (words_of line))

-- how labels are written
labels : Table labels_on (
    (codes "dxf --profile=full", Some label.Text)  -- labels left out
    ∷ (codes "dxf --labels strokes --profile=full", Some label.Strokes)  -- labels given
    ∷ (codes "draw --form=dxf --labels=text", Some label.Text)  -- in draw, too
    ∷ (codes "svg", Some label.Text)  -- in another document
    ∷ []
    )
unfolding clap_on_literals
labels = refl

-- what is wrong with how labels are to be written
faults_of_labels : Table value_fault_on (
    (codes "draw --form=DXF --labels=strokes", None)  -- labels of a DXF
    ∷ (codes "dxf --labels=text", Some (Plain fault.Labels))  -- labels in core
    ∷ (codes "dxf --labels=text --profile=none", Some (Plain fault.Profile))  -- labels in no profile
    ∷ (codes "draw --labels=text --profile=core", Some (Plain fault.NoTexts))  -- form before profile
    ∷ (codes "draw --form=svg --labels=Text", Some (Plain fault.BadLabels))  -- name before form
    ∷ (codes "draw --form=pdf --labels=strokes --dots=150", Some (Plain fault.NoTexts))  -- labels before pixels
    ∷ (codes "dxf --labels=x --widths=3=fat", Some (BadWidths (codes "3=fat")))  -- widths before labels
    ∷ (codes "dxf --labels=strokes --profile=core --page=none", Some (Plain fault.Labels))  -- labels before the page
    ∷ []
    )
unfolding clap_on_literals
faults_of_labels = refl

-- the kinds of fault
faults_of_words : Table faults_on (
    (codes "pbm --characters=ascii --characters=ascii", kind.ArgumentConflict ∷ [])  -- characters twice
    ∷ (codes "pbm --colours=1=red --colors=1=red", kind.ArgumentConflict ∷ [])  -- colours in both spellings
    ∷ (codes "dxf --labels=text", [])  -- labels of a DXF
    ∷ (codes "svg --labels=text", kind.UnknownArgument ∷ [])  -- labels of another document
    ∷ []
    )
unfolding clap_on_literals
faults_of_words = refl

-- the colour that the options give a pen on a command line
abbrev colour_on : Text → ℕ → Option Colour
colour_on line pen = option_and_then (λ p. option_and_then (λ list. given colour_written list pen) (colours_text p.1)) (subcommand_of plot_app (words_of line))

-- the colour that the options give a pen
colours : Table (λ (it : Text × ℕ). colour_on it.0 it.1) (
    ((codes "report --colours all=black,2=#f80", 2), Some (record { red = 255; green = 136; blue = 0 }))  -- orange pen
    ∷ ((codes "draw --colors=2=red", 2), Some (record { red = 255; green = 0; blue = 0 }))  -- other spelling
    ∷ ((codes "draw --widths=2=1", 2), None)  -- no colour said
    ∷ []
    )
unfolding clap_on_literals
colours = refl

-- the choice of the page
choices : Table choice_on (
    (codes "draw --size=800 --page=a4", Some (record { asked = false; margin = None; pixels = Some 800 }))  -- so many pixels
    ∷ []
    )
unfolding clap_on_literals
choices = refl
