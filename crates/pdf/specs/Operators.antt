-- Operators of the content of a page, and their text. ISO 32000-1, 8.4.4, 8.5.2, 8.5.3, 8.5.4, 9.3, 9.4 and 14.6.
use Rattle.std.specs.Prelude.{ℕ, ℤ, ◌-ℤ◌, List, [], ◌∷◌, ◌++◌, codes, decimal}
use Rattle.std.specs.Fmt.{signed_decimal}
use Rattle.plot_page.specs.declared.colour.Colour.{Colour}
use Rattle.plot_page.specs.declared.window.Window.{Window}
use Rattle.polygons.specs.declared.lines.Rule.{Rule}
use Rattle.polygons.specs.declared.lines.Rule.TheVariants.{OddCounts, Winding}
use Rattle.pdf.specs.Numbers.{digits_text, part, signed_thousandths}
use Rattle.pdf.specs.Texts.{Matrix}
use Rattle.pdf.specs.declared.units.PageUnit.{PageUnit}
use Rattle.pdf.specs.declared.units.PageUnit.TheVariants.{One, Two, Three}

-- a layer begins and ends; what is set is saved and restored; a rectangle is a path that clips; lines go from place to
-- place, lead back to where they began, and are painted, with or without what is inside them; a text begins and ends, is
-- invisible, is placed by a matrix, and has letters of a font
pub data Operator : Type 0 where
  Scale : (unit : PageUnit) → Operator
  Layer : (pen : ℕ) → Operator
  EndLayer : Operator
  Save : Operator
  Restore : Operator
  Rectangle : (corners : Window) → Operator
  Clip : Operator
  NoPaint : Operator
  StrokeColour : (colour : Colour) → Operator
  FillColour : (colour : Colour) → Operator
  LineWidth : (width : ℕ) → Operator
  LineEnds : Operator
  LineJoins : Operator
  MoveTo : (x y : ℤ) → Operator
  LineTo : (x y : ℤ) → Operator
  ClosePath : Operator
  StrokePath : Operator
  FillAndStroke : (rule : Rule) → Operator
  BeginText : Operator
  Invisible : Operator
  TextMatrix : (matrix : Matrix) (x y : ℤ) → Operator
  Font : (row : ℕ) → Operator
  ShowText : (bytes : List ℕ) → Operator
  EndText : Operator

-- how many units of a page a grain is: 9/2032 point
abbrev pub scale_factor : PageUnit → List ℕ
scale_factor One = codes "0.004429133858"
scale_factor Two = codes "0.002214566929"
scale_factor Three = codes "0.001476377953"

abbrev pub scale_text : PageUnit → List ℕ
scale_text unit = scale_factor unit ++ codes " 0 0 " ++ scale_factor unit ++ codes " 0 0 cm\n"

-- a place
abbrev pub place_text : ℤ → ℤ → List ℕ
place_text x y = signed_decimal x ++ codes " " ++ signed_decimal y

-- a window as a rectangle: its lower left corner, its width and its height
abbrev pub rectangle_text : Window → List ℕ
rectangle_text w = place_text w.x0 w.y0 ++ codes " " ++ place_text (w.x1 -ℤ w.x0) (w.y1 -ℤ w.y0) ++ codes " re\n"

-- the colour of lines
abbrev pub colour_text : Colour → List ℕ
colour_text c = part c.red ++ codes " " ++ part c.green ++ codes " " ++ part c.blue ++ codes " RG\n"

-- the colour of what is inside lines
abbrev pub fill_colour_text : Colour → List ℕ
fill_colour_text c = part c.red ++ codes " " ++ part c.green ++ codes " " ++ part c.blue ++ codes " rg\n"

-- the width of lines
abbrev pub width_text : ℕ → List ℕ
width_text width = decimal width ++ codes " w\n"

-- the first four numbers of a text matrix
abbrev pub matrix_text : Matrix → List ℕ
matrix_text m =
    signed_thousandths m.a ++ codes " " ++ signed_thousandths m.b ++ codes " " ++ signed_thousandths m.c ++ codes " "
    ++ signed_thousandths m.d

-- what is inside lines is filled by this rule, and then the lines are drawn
abbrev pub paint_text : Rule → List ℕ
paint_text OddCounts = codes "B*\n"
paint_text Winding = codes "B\n"

-- an operator as text
abbrev pub operator_text : Operator → List ℕ
operator_text (Scale unit) = scale_text unit
operator_text (Layer pen) = codes "/OC /P" ++ decimal pen ++ codes " BDC\n"
operator_text EndLayer = codes "EMC\n"
operator_text Save = codes "q\n"
operator_text Restore = codes "Q\n"
operator_text (Rectangle corners) = rectangle_text corners
operator_text Clip = codes "W\n"
operator_text NoPaint = codes "n\n"
operator_text (StrokeColour colour) = colour_text colour
operator_text (FillColour colour) = fill_colour_text colour
operator_text (LineWidth width) = width_text width
operator_text LineEnds = codes "1 J\n"
operator_text LineJoins = codes "1 j\n"
operator_text (MoveTo x y) = place_text x y ++ codes " m\n"
operator_text (LineTo x y) = place_text x y ++ codes " l\n"
operator_text ClosePath = codes "h\n"
operator_text StrokePath = codes "S\n"
operator_text (FillAndStroke rule) = paint_text rule
operator_text BeginText = codes "BT\n"
operator_text Invisible = codes "3 Tr\n"
operator_text (TextMatrix matrix x y) = matrix_text matrix ++ codes " " ++ place_text x y ++ codes " Tm\n"
operator_text (Font row) = codes "/F" ++ decimal row ++ codes " 1 Tf\n"
operator_text (ShowText bytes) = codes "<" ++ digits_text bytes ++ codes "> Tj\n"
operator_text EndText = codes "ET\n"

abbrev pub operators_text : List Operator → List ℕ
operators_text [] = []
operators_text (o ∷ os) = operator_text o ++ operators_text os
