-- A reader of contents: from bytes to operators, of which each has a line of its own.
-- ISO 32000-1, 7.3.3, 7.3.4.3, 7.8.2, 8.4.4, 8.5.2, 8.5.3, 8.6.8, 9.3, 9.4 and 14.6.
use Rattle.std.specs.Prelude.{ℕ, ℤ, pos, neg_ℤ, ◌+ℤ◌, ◌+◌, ◌-◌, ◌*◌, ◌/◌, ◌^◌, ◌==◌, ◌&&◌, nat_le, List, [], ◌∷◌, length, Option, Some, None, if◌then◌else◌, codes}
use Rattle.std.specs.Char.{is_digit}
use Rattle.std.specs.Option.{option_map}
use Rattle.pieces.specs.Readings.{after, byte, given, integer, is_text, minus, number, split, ◌>>=◌}
use Rattle.plot_page.specs.declared.colour.Colour.{Colour}
use Rattle.polygons.specs.declared.lines.Rule.TheVariants.{OddCounts, Winding}
use Rattle.pdf.specs.Operators.{Operator, Scale, Layer, EndLayer, Save, Restore, Rectangle, Clip, NoPaint, StrokeColour}
use Rattle.pdf.specs.Operators.{FillColour, LineWidth, LineEnds, LineJoins, MoveTo, LineTo, ClosePath, StrokePath, FillAndStroke}
use Rattle.pdf.specs.Operators.{BeginText, Invisible, TextMatrix, Font, ShowText, EndText, scale_factor}
use Rattle.pdf.specs.declared.units.PageUnit.{PageUnit}
use Rattle.pdf.specs.declared.units.PageUnit.TheVariants.{One, Two, Three}

abbrev pub line_feed : ℕ
line_feed = 0x0A

abbrev pub space : ℕ
space = 0x20

abbrev pub point : ℕ
point = 0x2E

-- at most three digits after a point, in thousandths
abbrev pub part_in : List ℕ → Option ℕ
part_in digits = given (nat_le (length digits) 3) (option_map (λ n. n * 10 ^ (3 - length digits)) (number digits))

-- a number of one or two parts, in thousandths
abbrev pub parts_in : List (List ℕ) → Option ℕ
parts_in (whole ∷ []) = option_map (λ n. 1000 * n) (number whole)
parts_in (whole ∷ part ∷ []) = do
  n ← number whole
  thousandths ← part_in part
  Some (1000 * n + thousandths)
parts_in _ = None

abbrev pub unsigned : List ℕ → Option ℕ
unsigned text = parts_in (split point text)

-- a number that may have a sign, in thousandths
abbrev pub signed : List ℕ → Option ℤ
signed [] = None
signed (c ∷ cs) =
    if c == minus then option_map (λ n. neg_ℤ (pos n)) (unsigned cs) else option_map pos (unsigned (c ∷ cs))

-- a part of a colour, from 0 to 1, as the nearest byte
abbrev pub colour_part : List ℕ → Option ℕ
colour_part text = option_map (λ n. (510 * n + 1000) / 2000) (unsigned text)

-- two hexadecimal digits for each byte, and a greater-than sign at the end
abbrev pub bytes_in : List ℕ → Option (List ℕ)
bytes_in (a ∷ b ∷ rest) = given (is_digit a 16 && is_digit b 16) (option_map (λ bytes. byte a b ∷ bytes) (bytes_in rest))
bytes_in end = given (is_text end (codes ">")) (Some [])

-- the operators by how many words come before them, which are their operands
abbrev pub alone : List ℕ → Option Operator
alone name =
    if is_text name (codes "EMC") then Some EndLayer else
    if is_text name (codes "q") then Some Save else
    if is_text name (codes "Q") then Some Restore else
    if is_text name (codes "W") then Some Clip else
    if is_text name (codes "n") then Some NoPaint else
    if is_text name (codes "h") then Some ClosePath else
    if is_text name (codes "S") then Some StrokePath else
    if is_text name (codes "B*") then Some (FillAndStroke OddCounts) else
    if is_text name (codes "B") then Some (FillAndStroke Winding) else
    if is_text name (codes "BT") then Some BeginText else
    if is_text name (codes "ET") then Some EndText else None

abbrev pub after_one : List ℕ → List ℕ → Option Operator
after_one a name =
    if is_text name (codes "w") then option_map LineWidth (number a) else
    if is_text name (codes "J") then given (is_text a (codes "1")) (Some LineEnds) else
    if is_text name (codes "j") then given (is_text a (codes "1")) (Some LineJoins) else
    if is_text name (codes "Tr") then given (is_text a (codes "3")) (Some Invisible) else
    if is_text name (codes "Tj") then after (codes "<") a >>= (λ digits. option_map ShowText (bytes_in digits)) else None

abbrev pub after_two : List ℕ → List ℕ → List ℕ → Option Operator
after_two a b name =
    if is_text name (codes "m") then (do x ← integer a; y ← integer b; Some (MoveTo x y)) else
    if is_text name (codes "l") then (do x ← integer a; y ← integer b; Some (LineTo x y)) else
    if is_text name (codes "BDC") then given (is_text a (codes "/OC")) (option_map Layer (after (codes "/P") b >>= number)) else
    if is_text name (codes "Tf") then given (is_text b (codes "1")) (option_map Font (after (codes "/F") a >>= number)) else
    None

abbrev pub colour : List ℕ → List ℕ → List ℕ → Option Colour
colour a b c = do
  red ← colour_part a
  green ← colour_part b
  blue ← colour_part c
  Some (record { red = red; green = green; blue = blue })

abbrev pub after_three : List ℕ → List ℕ → List ℕ → List ℕ → Option Operator
after_three a b c name =
    if is_text name (codes "RG") then option_map StrokeColour (colour a b c) else
    if is_text name (codes "rg") then option_map FillColour (colour a b c) else None

-- a rectangle: its lower left corner, its width and its height
abbrev pub after_four : List ℕ → List ℕ → List ℕ → List ℕ → List ℕ → Option Operator
after_four a b c d name = given (is_text name (codes "re")) (do
  x ← integer a
  y ← integer b
  width ← integer c
  height ← integer d
  Some (Rectangle (record { x0 = x; y0 = y; x1 = x +ℤ width; y1 = y +ℤ height }))
  )

-- the unit of a page, by how many of them a grain is
abbrev pub unit_in : List ℕ → Option PageUnit
unit_in text =
    if is_text text (scale_factor One) then Some One else
    if is_text text (scale_factor Two) then Some Two else
    if is_text text (scale_factor Three) then Some Three else None

abbrev pub scale : List ℕ → List ℕ → List ℕ → List ℕ → List ℕ → List ℕ → Option Operator
scale a b c d x y =
    given (is_text b (codes "0") && is_text c (codes "0") && is_text d a && is_text x (codes "0") && is_text y (codes "0"))
    (option_map Scale (unit_in a))

abbrev pub text_matrix : List ℕ → List ℕ → List ℕ → List ℕ → List ℕ → List ℕ → Option Operator
text_matrix a b c d e f = do
  ma ← signed a
  mb ← signed b
  mc ← signed c
  md ← signed d
  x ← integer e
  y ← integer f
  Some (TextMatrix (record { a = ma; b = mb; c = mc; d = md }) x y)

abbrev pub after_six : List ℕ → List ℕ → List ℕ → List ℕ → List ℕ → List ℕ → List ℕ → Option Operator
after_six a b c d e f name =
    if is_text name (codes "cm") then scale a b c d e f else
    if is_text name (codes "Tm") then text_matrix a b c d e f else None

-- an operator, by the words of its line
abbrev pub operator : List (List ℕ) → Option Operator
operator (name ∷ []) = alone name
operator (a ∷ name ∷ []) = after_one a name
operator (a ∷ b ∷ name ∷ []) = after_two a b name
operator (a ∷ b ∷ c ∷ name ∷ []) = after_three a b c name
operator (a ∷ b ∷ c ∷ d ∷ name ∷ []) = after_four a b c d name
operator (a ∷ b ∷ c ∷ d ∷ e ∷ f ∷ name ∷ []) = after_six a b c d e f name
operator _ = None

-- the operators of lines, of which the last one is empty
abbrev pub operators : List (List ℕ) → Option (List Operator)
operators [] = None
operators (end ∷ []) = given (is_text end []) (Some [])
operators (line ∷ others) = do
  first ← operator (split space line)
  rest ← operators others
  Some (first ∷ rest)

-- the operators of a content, by its bytes
unfoldable pub read_content : List ℕ → Option (List Operator)
read_content content = operators (split line_feed content)
