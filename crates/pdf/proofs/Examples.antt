-- The bytes of small documents.
use Rattle.std.proofs.Common.{◌≡◌, ◌*◌, ◌^◌, ℕ, ℤ, pos, negsuc, List, [], ◌∷◌, ◌++◌, codes, length, map, refl, replicate, true, arith, Some, None}
use Rattle.std.specs.Fmt.{digits}
use Rattle.plot_page.specs.Segments.{Segment}
use Rattle.plot_page.specs.declared.colour.Colour.{Colour}
use Rattle.plot_page.specs.declared.page.Page.{Page}
use Rattle.plot_page.specs.declared.pens.PenSet.{PenSet}
use Rattle.plot_page.specs.declared.window.Window.{Window}
use Rattle.polygons.specs.declared.lines.Rule.TheVariants.{OddCounts, Winding}
use Rattle.areas.specs.Shapes.{Shape}
use Rattle.areas.specs.declared.area.Area.{Area}
use Rattle.labels.specs.Labels.{LabelShape, LineShape}
use Rattle.pdf.specs.Contents.{content_text, lines_operators, runs_operators, stroke_operators, texts_operators}
use Rattle.pdf.specs.Operators.{colour_text, operators_text, scale_factor}
use Rattle.pdf.specs.Documents.{font_object, font_objects, header_text, page_object, pdf_bytes, pens_drawn, resources_text, rows_shown, sheet_labels, sheets}
use Rattle.pdf.specs.Units.{unit_by}
use Rattle.pdf.specs.declared.units.PageUnit.TheVariants.{One, Two, Three}
use Rattle.pdf.specs.Numbers.{nearest, part, points, rounded, signed_thousandths, ten_digits, utf_16_text}
use Rattle.pdf.specs.TextReadings.{placed, texts_of}
use Rattle.pdf.specs.Texts.{above, along, pieces}
use Rattle.pdf.specs.Objects.{entry_text, objects_text, offsets_of}

-- worked examples of a definition: what it is given, and what it says
abbrev Table : {X Y : Type 0} → (X → Y) → List (X × Y) → Type 0
Table f rows = map (λ it. f it.0) rows ≡ map (λ it. it.1) rows

-- one inch by two
abbrev page : Page
page = record {
  width = 1016;
  height = 2032;
  left = 0;
  below = 0;
  width_in = (omega arith, omega arith);
  height_in = (omega arith, omega arith);
  left_in = omega arith;
  below_in = omega arith;
}

abbrev black : Colour
black = record { red = 0; green = 0; blue = 0 }

abbrev orange : Colour
orange = record { red = 255; green = 136; blue = 1 }

abbrev whole : Window
whole = record { x0 = pos 0; y0 = pos 0; x1 = pos 16256; y1 = pos 32512 }

abbrev corner : Window
corner = record { x0 = pos 160; y0 = pos 320; x1 = pos 8000; y1 = pos 9000 }

abbrev stroke : ℕ → Colour → ℕ → Window → ℤ → ℤ → ℤ → ℤ → Segment
stroke pen colour width window ax ay bx by =
    record { pen = pen; colour = colour; width = width; window = window; ax = ax; ay = ay; bx = bx; by = by }

abbrev across : Segment
across = stroke 1 black 56 whole (pos 0) (pos 448) (pos 16256) (pos 448)

-- it begins where the last one ends
abbrev up : Segment
up = stroke 1 black 56 whole (pos 16256) (pos 448) (pos 16256) (negsuc 0)

-- of length zero
abbrev dot : Segment
dot = stroke 1 black 56 whole (pos 16) (pos 32) (pos 16) (pos 32)

abbrev clipped : Segment
clipped = stroke 2 orange 0 corner (pos 0) (pos 0) (pos 16256) (pos 32512)

abbrev all_pens : PenSet
all_pens = record { chosen = replicate 256 true }

-- lengths in points
lengths : Table (points 1) (
    (11880, codes "841.89")  -- height of A4
    ∷ (1016, codes "72")  -- an inch
    ∷ []
    )
unfolding digits
lengths = refl

-- units of pages
units : Table unit_by (
    (203200, One)  -- 14,400 points
    ∷ (203201, Two)  -- over 14,400 points
    ∷ (406400, Two)  -- 14,400 units of two points
    ∷ (406401, Three)  -- over that
    ∷ (524288, Three)  -- the longest side of a page
    ∷ []
    )
units = refl

-- how many units a grain is, which is 9/2032 point, by how many points a unit has; to 12 decimals
abbrev grain_in_units : ℕ → List ℕ
grain_in_units count = codes "0.00" ++ ten_digits (nearest (9 * 10 ^ 12) (2032 * count))

grains_in_units : Table grain_in_units (
    (1, codes "0.004429133858")  -- 9/2032 is 0.00442913385826..
    ∷ (2, codes "0.002214566929")  -- 9/4064 is 0.00221456692913..
    ∷ (3, codes "0.001476377953")  -- 9/6096 is 0.00147637795275..
    ∷ []
    )
grains_in_units = refl

scale_factors : Table scale_factor (
    (One, grain_in_units 1)  -- a point
    ∷ (Two, grain_in_units 2)  -- two points
    ∷ (Three, grain_in_units 3)  -- three points
    ∷ []
    )
scale_factors = refl

headers : Table header_text (
    (One, codes "%PDF-1.5\n%" ++ 226 ∷ 227 ∷ 207 ∷ 211 ∷ 10 ∷ [])  -- no entry of a later version
    ∷ (Two, codes "%PDF-1.6\n%" ++ 226 ∷ 227 ∷ 207 ∷ 211 ∷ 10 ∷ [])  -- pages have `/UserUnit`
    ∷ (Three, codes "%PDF-1.6\n%" ++ 226 ∷ 227 ∷ 207 ∷ 211 ∷ 10 ∷ [])  -- so have these
    ∷ []
    )
headers = refl

-- lengths in units of three points
long_lengths : Table (points 3) (
    (524288, codes "12384.756")  -- the longest side of a page
    ∷ (609600, codes "14400")  -- the longest side in such units
    ∷ []
    )
unfolding digits
long_lengths = refl

a_long_page : page_object Two 9 ≡ codes "<</Type/Page/Parent 3 0 R/UserUnit 2/Contents 9 0 R>>"
unfolding digits
a_long_page = refl

-- parts of a colour
parts : Table part (
    (0, codes "0")  -- none
    ∷ (128, codes "0.502")  -- half
    ∷ (255, codes "1")  -- all
    ∷ []
    )
unfolding digits
parts = refl

a_colour : colour_text orange ≡ codes "1 0.533 0.004 RG\n"
unfolding digits
a_colour = refl

-- lines of the table
entries : Table entry_text (
    (12034, codes "0000012034 00000 n \n")  -- zeros before a number
    ∷ (98765432109, codes "8765432109 00000 n \n")  -- the last ten digits
    ∷ (2 ^ 64, codes "3709551615 00000 n \n")  -- counts stop at 2^64 - 1
    ∷ []
    )
entries = refl

-- y grows upward
a_stroke : operators_text (stroke_operators up) ≡ codes "16256 448 m\n16256 -1 l\n"
unfolding digits
a_stroke = refl

-- edges
abbrev edge : ℤ → ℤ → ℤ → ℤ → Segment
edge ax ay bx by = stroke 1 black 0 whole ax ay bx by

abbrev square : List Segment
square =
    edge (pos 0) (pos 0) (pos 320) (pos 0) ∷ edge (pos 320) (pos 0) (pos 320) (pos 320)
    ∷ edge (pos 320) (pos 320) (pos 0) (pos 320) ∷ edge (pos 0) (pos 320) (pos 0) (pos 0) ∷ []

abbrev hole : List Segment
hole =
    edge (pos 80) (pos 80) (pos 240) (pos 80) ∷ edge (pos 240) (pos 80) (pos 240) (pos 240)
    ∷ edge (pos 240) (pos 240) (pos 80) (pos 80) ∷ []

abbrev point : Segment
point = edge (pos 16) (pos 32) (pos 16) (pos 32)

abbrev corner_of_two : List Segment
corner_of_two = clipped ∷ stroke 2 orange 0 corner (pos 16256) (pos 32512) (pos 0) (pos 32512) ∷ []

abbrev run : List Segment → Shape
run strokes = record { strokes = strokes; rule = None }

-- a path
paths : Table (λ (run : Shape). operators_text (runs_operators page (run ∷ []))) (
    -- two strokes that follow one another, and a dot
    (run (across ∷ up ∷ dot ∷ []), codes "/OC /P1 BDC\nq\n0 0 0 RG\n56 w\n0 448 m\n16256 448 l\n16256 -1 l\n16 32 m\n16 32 l\nS\nQ\nEMC\n")
    -- in a window; the width is at least 24 grains
    ∷ (run (clipped ∷ []), codes "/OC /P2 BDC\nq\n160 320 7840 8680 re\nW\nn\n1 0.533 0.004 RG\n24 w\n0 0 m\n16256 32512 l\nS\nQ\nEMC\n")
    -- a square with a hole
    ∷ (
      record { strokes = square ++ hole; rule = Some OddCounts },
      codes "/OC /P1 BDC\nq\n0 0 0 RG\n24 w\n0 0 0 rg\n0 0 m\n320 0 l\n320 320 l\n0 320 l\n0 0 l\nh\n80 80 m\n240 80 l\n240 240 l\n80 80 l\nh\nB*\nQ\nEMC\n",
    )
    -- an area by winding, of one point
    ∷ (record { strokes = point ∷ []; rule = Some Winding }, codes "/OC /P1 BDC\nq\n0 0 0 RG\n24 w\n0 0 0 rg\n16 32 m\n16 32 l\nh\nB\nQ\nEMC\n")
    -- edges in a window that do not lead back
    ∷ (
      record { strokes = corner_of_two; rule = Some OddCounts },
      codes "/OC /P2 BDC\nq\n160 320 7840 8680 re\nW\nn\n1 0.533 0.004 RG\n24 w\n1 0.533 0.004 rg\n0 0 m\n16256 32512 l\n0 32512 l\nB*\nQ\nEMC\n",
    )
    ∷ []
    )
unfolding digits
paths = refl

-- an area among strokes is a path of its own
abbrev triangle : Area
triangle = record { first = 1; end = 4; rule = OddCounts }

an_area_among_strokes : content_text page all_pens (across ∷ hole ++ up ∷ []) (triangle ∷ []) []
    ≡ codes "0.004429133858 0 0 0.004429133858 0 0 cm\n1 J\n1 j\n/OC /P1 BDC\nq\n0 0 0 RG\n56 w\n0 448 m\n16256 448 l\nS\nQ\nEMC\n/OC /P1 BDC\nq\n0 0 0 RG\n24 w\n0 0 0 rg\n80 80 m\n240 80 l\n240 240 l\n80 80 l\nh\nB*\nQ\nEMC\n/OC /P1 BDC\nq\n0 0 0 RG\n56 w\n16256 448 m\n16256 -1 l\nS\nQ\nEMC\n"
unfolding digits
an_area_among_strokes = refl

empty_content : content_text page all_pens [] [] [] ≡ codes "0.004429133858 0 0 0.004429133858 0 0 cm\n1 J\n1 j\n"
empty_content = refl

two_sheets : sheets (across ∷ up ∷ dot ∷ []) 0 (1 ∷ 3 ∷ []) ≡ (across ∷ []) ∷ (up ∷ dot ∷ []) ∷ []
two_sheets = refl

pens_by_number : pens_drawn all_pens (clipped ∷ across ∷ clipped ∷ []) ≡ 1 ∷ 2 ∷ []
pens_by_number = refl

two_objects : objects_text 8 (codes "null" ∷ codes "[]" ∷ []) ≡ codes "9 0 obj\nnull\nendobj\n10 0 obj\n[]\nendobj\n"
unfolding digits
two_objects = refl

where_they_begin : offsets_of 15 8 (codes "null" ∷ codes "[]" ∷ []) ≡ 15 ∷ 35 ∷ []
unfolding digits
where_they_begin = refl

-- a document without pages
no_pages : pdf_bytes (codes "1") [] page [] [] [] [] ≡ header_text One ++ codes "1 0 obj\n<</Type/Catalog/Pages 3 0 R/OCProperties<</OCGs 4 0 R/D<</Order 4 0 R/ON 4 0 R>>>>>>\nendobj\n2 0 obj\n<</Producer(plotraster 1)>>\nendobj\n3 0 obj\n<</Type/Pages/MediaBox[0 0 72 144]/Resources<</Properties<<>>>>/Count 0/Kids[]>>\nendobj\n4 0 obj\n[]\nendobj\nxref\n0 5\n0000000000 65535 f \n0000000015 00000 n \n0000000115 00000 n \n0000000158 00000 n \n0000000254 00000 n \ntrailer\n<</Size 5/Root 1 0 R/Info 2 0 R>>\nstartxref\n272\n%%EOF\n"
unfolding digits
no_pages = refl

-- a letter, one that is not ASCII, and one that needs two numbers of 16 bits
a_title : utf_16_text (65 ∷ 228 ∷ 128516 ∷ []) ≡ codes "004100e4d83dde04"
a_title = refl

-- so many times a number of parts
roundings : Table (λ (it : ℕ × ℤ × ℕ). rounded it.0 it.1 it.2) (
    ((1, pos 5, 2), pos 3)  -- half away from zero
    ∷ ((1, negsuc 4, 2), negsuc 2)  -- the same below zero
    ∷ ((2, negsuc 1, 3), negsuc 0)  -- nearly a half
    ∷ ((1, negsuc 0, 3), pos 0)  -- to zero
    ∷ []
    )
roundings = refl

below_zero : signed_thousandths (negsuc 1499) ≡ codes "-1.5"
unfolding digits
below_zero = refl

-- how wide letters are
widths : Table (λ (it : ℤ × ℤ × ℕ). along it.0 it.1 it.2) (
    ((pos 100, pos 10084, 16), pos 1040000)  -- 16 letters
    ∷ ((pos 100, pos 0, 1), negsuc 166666)  -- a letter that runs backward
    ∷ []
    )
widths = refl

a_capital : above (pos 0) (pos 360) ≡ pos 640000
a_capital = refl

-- Latin, Greek, Latin, and a letter of more than 16 bits
some_pieces : pieces (65 ∷ 66 ∷ 945 ∷ 946 ∷ 67 ∷ 128516 ∷ [])
    ≡ record { row = 0; bytes = 65 ∷ 66 ∷ [] } ∷ record { row = 3; bytes = 177 ∷ 178 ∷ [] } ∷ record { row = 0; bytes = 67 ∷ [] } ∷ record { row = 255; bytes = 253 ∷ [] } ∷ []
some_pieces = refl

abbrev ab : LineShape
ab = record { text = 65 ∷ 945 ∷ []; start = record { x = negsuc 0; y = pos 20 }; end = record { x = pos 119; y = pos 20 }; top = record { x = negsuc 0; y = pos 65 } }

a_line : operators_text (lines_operators (ab ∷ [])) ≡ codes "100 0 0 80 -1 20 Tm\n/F0 1 Tf\n<41> Tj\n/F3 1 Tf\n<b1> Tj\n"
unfolding digits
a_line = refl

abbrev label : LabelShape
label = record { first = 1; after = 2; lines = ab ∷ [] }

-- the texts of a label on a sheet of strokes
texts : Table (λ (strokes : List Segment). operators_text (texts_operators all_pens strokes (label ∷ []))) (
    (across ∷ up ∷ [], codes "BT\n3 Tr\n100 0 0 80 -1 20 Tm\n/F0 1 Tf\n<41> Tj\n/F3 1 Tf\n<b1> Tj\nET\n")  -- of its second stroke
    ∷ (across ∷ [], [])  -- its strokes are not among these
    ∷ []
    )
unfolding digits
texts = refl

a_reading : texts_of (texts_operators all_pens (across ∷ up ∷ []) (label ∷ [])) ≡ placed ab ∷ []
a_reading = refl

-- the second sheet has the label, which comes after the first stroke of it
two_pages : sheet_labels (record label { first = 3; after = 4 } ∷ []) 0 (2 ∷ 4 ∷ []) ≡ [] ∷ (label ∷ []) ∷ []
two_pages = refl

rows_by_number : rows_shown all_pens (across ∷ up ∷ []) (label ∷ []) ≡ 0 ∷ 3 ∷ []
rows_by_number = refl

some_resources : resources_text 7 (0 ∷ 3 ∷ []) ≡ codes "/Font<</F0 8 0 R/F3 10 0 R>>"
unfolding digits
some_resources = refl

a_font : font_object 7 9 ≡ codes "<</Type/Font/Subtype/Type1/BaseFont/Courier/Encoding 7 0 R/ToUnicode 9 0 R>>"
unfolding digits
a_font = refl

five_objects : length (font_objects 6 (0 ∷ 3 ∷ [])) ≡ 5
five_objects = refl
