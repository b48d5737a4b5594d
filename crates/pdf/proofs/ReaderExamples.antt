-- Small contents, read.
use Rattle.std.proofs.Common.{◌≡◌, pos, negsuc, List, [], ◌∷◌, Some, None, codes, map, refl}
use Rattle.pdf.specs.ContentReader.{bytes_in, colour_part, read_content, signed, unsigned}
use Rattle.polygons.specs.declared.lines.Rule.TheVariants.{OddCounts, Winding}
use Rattle.pdf.specs.declared.units.PageUnit.TheVariants.{One}
use Rattle.pdf.specs.Operators.{Clip, ClosePath, EndLayer, EndText, FillAndStroke, FillColour, Font, Layer, LineTo, LineWidth, MoveTo, NoPaint, Rectangle, Restore, Save, Scale, ShowText, StrokeColour, StrokePath, TextMatrix}

-- worked examples of a definition: what it is given, and what it says
abbrev Table : {X Y : Type 0} → (X → Y) → List (X × Y) → Type 0
Table f rows = map (λ it. f it.0) rows ≡ map (λ it. it.1) rows

-- numbers in thousandths
thousandths : Table unsigned (
    (codes "0", Some 0)  -- zero
    ∷ (codes "1", Some 1000)  -- a whole number
    ∷ (codes "0.5", Some 500)  -- one digit after the point
    ∷ (codes "0.502", Some 502)  -- three digits
    ∷ (codes "12.05", Some 12050)  -- a zero after the point
    ∷ (codes "1.", None)  -- no digit after the point
    ∷ (codes ".5", None)  -- none before it
    ∷ (codes "0.1234", None)  -- more than three digits
    ∷ (codes "1.2.3", None)  -- two points
    ∷ (codes "-1", None)  -- a sign
    ∷ []
    )
thousandths = refl

signed_thousandths : Table signed (
    (codes "-0.5", Some (negsuc 499))  -- below zero
    ∷ (codes "2", Some (pos 2000))  -- no sign
    ∷ (codes "-", None)  -- a sign alone
    ∷ ([], None)  -- nothing
    ∷ []
    )
signed_thousandths = refl

colour_parts : Table colour_part (
    (codes "0", Some 0)  -- none
    ∷ (codes "1", Some 255)  -- all
    ∷ (codes "0.533", Some 136)  -- the nearest byte
    ∷ (codes "0.004", Some 1)  -- the least byte
    ∷ []
    )
colour_parts = refl

shown_bytes : Table bytes_in (
    (codes "41ff>", Some (0x41 ∷ 0xFF ∷ []))  -- two bytes
    ∷ (codes ">", Some [])  -- no byte
    ∷ (codes "4>", None)  -- one digit
    ∷ (codes "4g>", None)  -- no digit
    ∷ (codes "41", None)  -- no end
    ∷ []
    )
shown_bytes = refl

contents : Table read_content (
    -- a run in a window: a rectangle is read by its corners
    (
      codes "0.004429133858 0 0 0.004429133858 0 0 cm\n/OC /P2 BDC\nq\n0 0 160 320 re\nW\nn\n1 0.533 0.004 RG\n24 w\n0 0 m\n-16 1056 l\nS\nQ\nEMC\n",
      Some (Scale One ∷ Layer 2 ∷ Save ∷ Rectangle (record { x0 = pos 0; y0 = pos 0; x1 = pos 160; y1 = pos 320 }) ∷ Clip ∷ NoPaint ∷ StrokeColour (record { red = 255; green = 136; blue = 1 }) ∷ LineWidth 24
          ∷ MoveTo (pos 0) (pos 0) ∷ LineTo (negsuc 15) (pos 1056) ∷ StrokePath ∷ Restore ∷ EndLayer ∷ []),
    )
    -- areas, by each rule
    ∷ (
      codes "0 0.533 1 rg\n0 0 m\n9 9 l\nh\nB*\nB\n",
      Some (FillColour (record { red = 0; green = 136; blue = 255 }) ∷ MoveTo (pos 0) (pos 0) ∷ LineTo (pos 9) (pos 9) ∷ ClosePath ∷ FillAndStroke OddCounts ∷ FillAndStroke Winding ∷ []),
    )
    -- a text
    ∷ (
      codes "1.5 0 0 -1.5 7 8 Tm\n/F0 1 Tf\n<4142> Tj\nET\n",
      Some (TextMatrix (record { a = pos 1500; b = pos 0; c = pos 0; d = negsuc 1499 }) (pos 7) (pos 8) ∷ Font 0 ∷ ShowText (0x41 ∷ 0x42 ∷ []) ∷ EndText ∷ []),
    )
    ∷ (codes "f\n", None)  -- another operator
    ∷ (codes "b*\n", None)  -- one that closes a path before it fills it
    ∷ (codes "0 0 rg\n", None)  -- a colour of two parts
    ∷ (codes "0 m\n", None)  -- an operand too few
    ∷ (codes "0 0 0 m\n", None)  -- one too many
    ∷ (codes "1 0 0 1 0 0 cm\n", None)  -- another scale
    ∷ (codes "q\nQ", None)  -- a line that does not end
    ∷ (codes "q Q\n", None)  -- two operators on a line
    ∷ []
    )
unfolding read_content
contents = refl
