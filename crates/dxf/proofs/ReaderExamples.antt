-- Small documents, read.
use Rattle.std.proofs.Common.{◌≡◌, ℕ, ℤ, pos, negsuc, List, [], ◌∷◌, ◌++◌, Bool, true, false, Option, Some, None, codes, map, refl}
use Rattle.pieces.specs.Readings.{◌>>=◌}
use Rattle.dxf.specs.Reader.{Entity, Letters, Lines, Look, TextForm, groups, letters, read_dxf, signed, size}
use Rattle.dxf.specs.Readings.{lines_of}
use Rattle.dxf.specs.declared.cuts.Point.{Point}

abbrev at : ℤ → ℤ → Point
at x y = record { x = x; y = y }

-- a whole number of millimetres, seven decimals at most, and what is no number
sizes : map size (codes "297" ∷ codes "0.0015625" ∷ codes "12.5" ∷ codes "1.00000001" ∷ codes "1." ∷ codes ".5" ∷ codes "1.2.3" ∷ codes "-1" ∷ [] ∷ [])
    ≡ Some 2970000000 ∷ Some 15625 ∷ Some 125000000 ∷ None ∷ Some 10000000 ∷ None ∷ None ∷ None ∷ None ∷ []
sizes = refl

numbers : map signed (codes "-0.0000001" ∷ codes "0" ∷ codes "--1" ∷ []) ≡ Some (negsuc 0) ∷ Some (pos 0) ∷ None ∷ []
numbers = refl

-- letters, by their bytes and after \U+ by four digits
texts : map letters (codes "A4" ∷ codes "\\U+00E9t\\U+005C" ∷ codes "\\U+00E" ∷ codes "\\x" ∷ [])
    ≡ Some (65 ∷ 52 ∷ []) ∷ Some (233 ∷ 116 ∷ 92 ∷ []) ∷ None ∷ None ∷ []
texts = refl

-- a code without a value, a value without a last line end, and a code that is no number
lines : map groups (codes "0\nEOF\n0\n" ∷ codes "0\nEOF" ∷ codes "x\nEOF\n" ∷ []) ≡ None ∷ None ∷ None ∷ []
lines = refl

-- a document of these entities; what comes before their section is passed over
abbrev document : List ℕ → List ℕ
document text = codes "0\nSECTION\n2\nTABLES\n0\nLINE\n0\nENDSEC\n0\nSECTION\n2\nENTITIES\n" ++ text ++ codes "0\nENDSEC\n0\nEOF\n"

one_line : read_dxf (document (codes "0\nLINE\n8\nPEN_1\n10\n1\n20\n-2\n11\n0.5\n21\n0\n"))
    ≡ Some (Lines (record { layer = codes "PEN_1"; colour = None }) None false (at (pos 10000000) (negsuc 19999999) ∷ at (pos 5000000) (pos 0) ∷ []) ∷ [])
unfolding read_dxf
one_line = refl

-- a closed polyline with a colour of its own
abbrev outline : Entity
outline =
    Lines (record { layer = codes "PEN_2"; colour = Some 5 }) (Some 3500000) true (at (pos 0) (pos 0) ∷ at (pos 10000000) (pos 0) ∷ at (pos 10000000) (pos 20000000) ∷ [])

one_polyline : read_dxf (document (codes "0\nPOLYLINE\n8\nPEN_2\n62\n5\n66\n1\n10\n0\n20\n0\n30\n0\n70\n1\n40\n0.35\n41\n0.35\n0\nVERTEX\n8\nPEN_2\n10\n0\n20\n0\n0\nVERTEX\n8\nPEN_2\n10\n1\n20\n0\n0\nVERTEX\n8\nPEN_2\n10\n1\n20\n2\n0\nSEQEND\n"))
    ≡ Some (outline ∷ [])
unfolding read_dxf
one_polyline = refl

-- its lines lead back to its first point
closed_lines : lines_of outline
    ≡ record { from = at (pos 0) (pos 0); to = at (pos 10000000) (pos 0) } ∷ record { from = at (pos 10000000) (pos 0); to = at (pos 10000000) (pos 20000000) }
    ∷ record { from = at (pos 10000000) (pos 20000000); to = at (pos 0) (pos 0) } ∷ []
closed_lines = refl

-- the layer of pen 1
abbrev layer_1 : Look
layer_1 = record { layer = codes "PEN_1"; colour = None }

-- letters of this height, angle, factor and oblique angle
abbrev form : ℕ → ℕ → ℕ → ℤ → Bool → TextForm
form height angle factor oblique is_mirrored =
    record { height = height; angle = angle; factor = factor; oblique = oblique; is_mirrored = is_mirrored }

-- a point, and a text that is fit between two points
two : read_dxf (document (codes "0\nPOINT\n8\nPEN_1\n10\n3\n20\n4\n0\nTEXT\n8\nPEN_1\n10\n0\n20\n0\n40\n5\n1\nA\n50\n0\n41\n1\n7\nSTANDARD\n72\n5\n11\n6\n21\n0\n"))
    ≡ Some (Lines layer_1 None false (at (pos 30000000) (pos 40000000) ∷ []) ∷ Letters layer_1 (at (pos 0) (pos 0)) (Some (at (pos 60000000) (pos 0))) (form 50000000 0 10000000 (pos 0) false) (65 ∷ []) ∷ [])
unfolding read_dxf
two = refl

-- a text of which the other values are these
abbrev text_of : List ℕ → List ℕ
text_of values = document (codes "0\nTEXT\n8\nPEN_1\n10\n0\n20\n0\n1\nA\n" ++ values ++ codes "72\n0\n")

-- what is read of it, if letters lie so
abbrev one_text : Option TextForm → Option (List Entity)
one_text found = found >>= (λ f. Some (Letters layer_1 (at (pos 0) (pos 0)) None f (65 ∷ []) ∷ []))

-- how letters lie: tall ones on a line upward, that lean forward, that lean back, that are upside down or not; and with another
-- flag, without a height, and with angles that are none
forms : map (λ values. read_dxf (text_of values)) (
    codes "40\n2.7\n50\n90\n41\n0.5\n"
    ∷ codes "40\n2.7\n50\n359.9999\n41\n0.0001\n51\n20.5\n"
    ∷ codes "40\n0.0015625\n50\n0\n41\n12\n51\n-85\n71\n4\n"
    ∷ codes "40\n1\n50\n0\n41\n1\n71\n0\n"
    ∷ codes "40\n1\n50\n0\n41\n1\n71\n2\n"
    ∷ codes "50\n0\n41\n1\n"
    ∷ codes "40\n1\n50\n-90\n41\n1\n"
    ∷ codes "40\n1\n50\n0\n41\n1\n51\nx\n" ∷ [])
    ≡ map one_text (
    Some (form 27000000 900000000 5000000 (pos 0) false)
    ∷ Some (form 27000000 3599999000 1000 (pos 205000000) false)
    ∷ Some (form 15625 0 120000000 (negsuc 849999999) true)
    ∷ Some (form 10000000 0 10000000 (pos 0) false) ∷ None ∷ None ∷ None ∷ None ∷ [])
unfolding read_dxf
forms = refl

-- another entity, a line without its second point, and one of which the width changes, are refused
others : map (λ text. read_dxf (document text)) (
    codes "0\nCIRCLE\n8\nPEN_1\n10\n0\n20\n0\n40\n1\n"
    ∷ codes "0\nLINE\n8\nPEN_1\n10\n1\n20\n2\n"
    ∷ codes "0\nPOLYLINE\n8\nPEN_1\n70\n0\n40\n1\n41\n2\n0\nVERTEX\n10\n0\n20\n0\n0\nSEQEND\n" ∷ []) ≡ None ∷ None ∷ None ∷ []
unfolding read_dxf
others = refl
