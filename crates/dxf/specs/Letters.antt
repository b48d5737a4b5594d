-- The entities of labels. DXF R12: TEXT.
use Rattle.std.specs.Prelude.{ℕ, ◌*◌, ◌/◌, ◌%◌, ◌==◌, ◌&&◌, ◌||◌, not, Bool, true, List, [], ◌∷◌, ◌++◌, flat_map, length, if◌then◌else◌, codes}
use Rattle.std.specs.Fmt.{digit_glyph}
use Rattle.std.specs.Int.{is_in_range}
use Rattle.std.specs.List.{list_any}
use Rattle.labels.specs.Labels.{LabelShape, LineShape}
use Rattle.labels.specs.declared.place.Place.{Place}
use Rattle.plot_page.specs.Segments.{Segment}
use Rattle.dxf.specs.Cuts.{point_of}
use Rattle.dxf.specs.Entities.{point_text}
use Rattle.dxf.specs.Forms.{form_of}
use Rattle.dxf.specs.Groups.{count_group, group, signed_group, size_group}
use Rattle.dxf.specs.Layers.{layer_groups}
use Rattle.dxf.specs.declared.forms.Form.{Form}
use Rattle.dxf.specs.declared.layers.Layers.{Layers}
use Rattle.dxf.specs.declared.letters.TheConstants.{BACKSLASH, CARET, PERCENT, REPLACEMENT}

-- a byte that stands for itself in a text: printable ASCII but for three signs with a meaning
abbrev pub is_plain : ℕ → Bool
is_plain c = is_in_range 0x20 0x7E c && not ((c == PERCENT || c == BACKSLASH) || c == CARET)

-- a code point of four hexadecimal digits that is no control character, no surrogate, and not U+FFFE or U+FFFF
abbrev pub is_letter : ℕ → Bool
is_letter c = (is_in_range 0x20 0x7E c || is_in_range 0xA0 0xD7FF c) || is_in_range 0xE000 0xFFFD c

abbrev pub letter : ℕ → ℕ
letter c = if is_letter c then c else REPLACEMENT

-- four hexadecimal digits, in capitals
abbrev pub four_digits : ℕ → List ℕ
four_digits c =
    digit_glyph true (c / 4096 % 16) ∷ digit_glyph true (c / 256 % 16) ∷ digit_glyph true (c / 16 % 16)
    ∷ digit_glyph true (c % 16) ∷ []

abbrev pub letter_text : ℕ → List ℕ
letter_text c = if is_plain c then c ∷ [] else codes "\\U+" ++ four_digits (letter c)

-- a text of any code points
abbrev pub letters_text : List ℕ → List ℕ
letters_text text = flat_map letter_text text

-- the group of letters that lean, and that of mirrored ones: they are upside down
abbrev pub leaning_group : Bool → ℕ → List ℕ
leaning_group backward n = if n == 0 then [] else signed_group 51 backward (1000 * n)

abbrev pub mirrored_group : Bool → List ℕ
mirrored_group mirrored = if mirrored then count_group 71 4 else []

-- the text is fit between its start and its end, or begins at its start
abbrev pub fit_groups : Bool → Place → List ℕ
fit_groups fit end = if fit then count_group 72 5 ++ point_text 11 21 (point_of end.x end.y) else count_group 72 0

abbrev pub form_groups : Form → Place → List ℕ
form_groups form end =
    size_group 50 (1000 * form.rotation) ++ size_group 41 form.factor ++ leaning_group form.is_backward form.leaning
    ++ group 7 (codes "STANDARD") ++ mirrored_group form.is_mirrored ++ fit_groups form.is_fit end

-- a line of letters, with the layer and the colour of a stroke
abbrev pub text_entity : Layers → Segment → LineShape → List ℕ
text_entity layers s l =
    group 0 (codes "TEXT") ++ layer_groups layers s.pen s.colour ++ point_text 10 20 (point_of l.start.x l.start.y)
    ++ size_group 40 (form_of l).height ++ group 1 (letters_text l.text) ++ form_groups (form_of l) l.end

abbrev pub has_letters : LineShape → Bool
has_letters l = not (length l.text == 0)

-- a line without letters is left out
abbrev pub line_text : Layers → Segment → LineShape → List ℕ
line_text layers s l = if has_letters l then text_entity layers s l else []

abbrev pub lines_text : Layers → Segment → List LineShape → List ℕ
lines_text layers s lines = flat_map (line_text layers s) lines

-- a label with a letter
abbrev pub is_written : LabelShape → Bool
is_written l = list_any has_letters l.lines
