-- The labels of a plot in the profile full: what LB and PB write, if it makes a stroke.
use Rattle.std.specs.Prelude.{ℕ, ◌^◌, nat_lt, nat_eq, if◌then◌else◌, Bool, true, false, List, [], ◌∷◌, ◌++◌, length}
use Rattle.std.specs.Prelude.{Option, Some, None}
use Rattle.carousel.specs.declared.carousel.Carousel.{Carousel}
use Rattle.character_sets.specs.declared.encoding.Encoding.{Encoding}
use Rattle.full_text.specs.Cut.{full_cut}
use Rattle.hpgl_text.specs.Shapes.{BodyShape, ItemShape, Further, Label}
use Rattle.hpgl_text.specs.declared.further.Further as further
use Rattle.hpgl_text.specs.declared.further.Further.TheVariants.{PrintBuffer}
use Rattle.labels.specs.Labels.{LabelShape, LineShape}
use Rattle.labels.specs.Sheets.{all_counted, labels_between}
use Rattle.lettering.specs.Lines.{label_lines}
use Rattle.plot_page.specs.declared.page.Page.{Page}
use Rattle.full_plot.specs.Drawings.{full_at_start_with, sheet_end, sheet_start}
use Rattle.full_plot.specs.Items.{taken}
use Rattle.full_plot.specs.Texts.{signs_of, style_of}
use Rattle.full_plot.specs.Worlds.{FullWorld}

-- the text that BL kept, by PB
abbrev pub text_printed : FullWorld → further.Further → Option (List ℕ)
text_printed w PrintBuffer = Some w.writing.text
text_printed w f = None

-- the text that an item writes, if it may be there; if not, it makes no stroke
abbrev pub text_written : FullWorld → BodyShape → Option (List ℕ)
text_written w (Label text) = Some text
text_written w (Further f ns) = text_printed w f
text_written w _ = None

-- the lines of a text that is written from the pen on; a text of more than 2^26 bytes is refused
abbrev pub lines_of : FullWorld → Option (List ℕ) → List LineShape
lines_of w None = []
lines_of w (Some text) =
    if nat_lt (2 ^ 26) (length text) then [] else label_lines (style_of w) w.core.state.place (signs_of w text)

-- a label of these lines, before which there were so many strokes and after which so many, if it has lines and strokes
abbrev pub label_of : ℕ → ℕ → List LineShape → List LabelShape
label_of first after lines =
    if nat_eq (length lines) 0 then [] else
    if nat_lt first after then record { first = first; after = after; lines = lines } ∷ [] else []

-- the label that an item writes between two moments
abbrev pub label_between : FullWorld → BodyShape → FullWorld → List LabelShape
label_between w body v = label_of (length w.core.kept) (length v.core.kept) (lines_of w (text_written w body))

-- what an item that is carried out writes, and what comes after it
abbrev pub labels_by : FullWorld → BodyShape → Option FullWorld → (FullWorld → List LabelShape) → List LabelShape
labels_by w body None go = []
labels_by w body (Some v) go = label_between w body v ++ go v

-- the labels of items, one after another
abbrev pub labels_from : FullWorld → List ItemShape → List LabelShape
labels_from w [] = []
labels_from w (i ∷ more) = labels_by w i.body (taken w i.body) (λ (v : FullWorld). labels_from v more)

-- those of a plot
abbrev pub labels_of : Encoding → Carousel → Page → List ℕ → List LabelShape
labels_of encoding carousel page plot = labels_from (full_at_start_with encoding carousel page) (full_cut plot)

-- the labels of a sheet, which counts from 1, by the strokes of the sheet; those of all sheets for 0
abbrev pub labels_of_sheet : List LabelShape → List ℕ → ℕ → ℕ → List LabelShape
labels_of_sheet labels ends count sheet =
    let at = sheet_start ends count sheet in
    if nat_eq sheet 0 then labels else all_counted at (labels_between at (sheet_end ends count sheet) labels)

-- if they are to be kept
abbrev pub labels_kept : Bool → List LabelShape → List LabelShape
labels_kept true labels = labels
labels_kept false labels = []
