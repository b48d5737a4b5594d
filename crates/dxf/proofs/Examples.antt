-- Small examples: numbers, colours, cuts, chains, letters, and entities.
use Rattle.std.proofs.Common.{◌≡◌, ℕ, ℤ, pos, negsuc, List, [], ◌∷◌, Bool, true, false, Some, None, codes, refl, map, replicate}
use Rattle.std.specs.Fmt.{digits}
use Rattle.areas.specs.Shapes.{shapes}
use Rattle.areas.specs.declared.area.Area.{Area}
use Rattle.plot_page.specs.Segments.{Segment}
use Rattle.plot_page.specs.declared.colour.Colour.{Colour}
use Rattle.plot_page.specs.declared.pens.PenSet.{PenSet}
use Rattle.plot_page.specs.declared.window.Window.{Window}
use Rattle.polygons.specs.declared.lines.Rule.TheVariants.{OddCounts}
use Rattle.dxf.specs.Angles.{direction}
use Rattle.dxf.specs.Chains.{chains, marks}
use Rattle.dxf.specs.Colours.{nearest_of}
use Rattle.dxf.specs.Cuts.{line_of, own_line, point_of}
use Rattle.dxf.specs.Groups.{group, number_group, size_text}
use Rattle.dxf.specs.Layers.{colour_group, layer_entry}
use Rattle.dxf.specs.Letters.{letters_text}
use Rattle.dxf.specs.declared.chains.Piece.{Piece}
use Rattle.dxf.specs.declared.cuts.Line.{Line}
use Rattle.dxf.specs.declared.cuts.Point.{Point}

-- a table of examples: each input has its output
abbrev pub Table : {X Y : Type 0} → (X → Y) → List (X × Y) → Type 0
Table f rows = map (λ it. f it.0) rows ≡ map (λ it. it.1) rows

-- a table of examples: each value agrees with the one beside it
abbrev pub Agree : {X : Type 0} → List (X × X) → Type 0
Agree rows = map (λ it. it.0) rows ≡ map (λ it. it.1) rows

-- numbers of parts
numbers : Table size_text (
    (0, codes "0")  -- none
    ∷ (15625, codes "0.0015625")  -- a grain
    ∷ (10000000, codes "1")  -- a millimetre
    ∷ (2970000000, codes "297")  -- the width of A4
    ∷ (125000000, codes "12.5")  -- zeros at the end are left out
    ∷ (100000001, codes "10.0000001")  -- a part
    ∷ [])
unfolding digits
numbers = refl

groups : Agree (
    (group 0 (codes "LINE"), codes "0\nLINE\n")  -- a word
    ∷ (number_group 10 (negsuc 15624), codes "10\n-0.0015625\n")  -- a negative number
    ∷ (layer_entry (codes "0") 7, codes "0\nLAYER\n2\n0\n70\n0\n62\n7\n6\nCONTINUOUS\n")  -- layer 0
    ∷ [])
unfolding digits
groups = refl

abbrev black : Colour
black = record { red = 0; green = 0; blue = 0 }

abbrev orange : Colour
orange = record { red = 255; green = 136; blue = 1 }

-- the number of the nearest of three colours: red, orange and black
abbrev number_among : Colour → ℕ
number_among c = (nearest_of c (0xFF0000 ∷ 0xFF7F00 ∷ 0x000000 ∷ [])).number

colours : Table number_among (
    (orange, 2)  -- nearly
    ∷ (black, 3)  -- exactly
    ∷ (record { red = 255; green = 63; blue = 0 }, 1)  -- nearer to red
    ∷ [])
colours = refl

-- the colours of entities
entities : Agree (
    (colour_group orange (Some black), codes "62\n30\n")  -- another one than that of the layer
    ∷ (colour_group black (Some black), [])  -- the same one
    ∷ [])
unfolding digits
entities = refl

abbrev whole : Window
whole = record { x0 = pos 0; y0 = pos 0; x1 = pos 1024; y1 = pos 1056 }

abbrev corner : Window
corner = record { x0 = pos 0; y0 = pos 0; x1 = pos 100; y1 = pos 100 }

abbrev stroke : ℕ → Window → ℤ → ℤ → ℤ → ℤ → Segment
stroke pen window ax ay bx by =
    record { pen = pen; colour = black; width = 56; window = window; ax = ax; ay = ay; bx = bx; by = by }

abbrev across : Segment
across = stroke 1 whole (pos 0) (pos 448) (pos 1024) (pos 448)

-- it begins where the last one ends
abbrev up : Segment
up = stroke 1 whole (pos 1024) (pos 448) (pos 1024) (pos 1056)

abbrev line : Point → Point → Line
line from to = record { from = from; to = to }

-- what is seen of strokes
cuts : Table line_of (
    (across, Some (own_line across))  -- all
    ∷ (stroke 1 corner (pos 0) (pos 0) (pos 200) (pos 200), Some (line (point_of (pos 0) (pos 0)) (point_of (pos 100) (pos 100))))  -- one end is cut
    ∷ (stroke 1 corner (negsuc 99) (pos 50) (pos 200) (pos 50), Some (line (point_of (pos 0) (pos 50)) (point_of (pos 100) (pos 50))))  -- both ends
    ∷ (stroke 1 corner (pos 100) (pos 200) (pos 200) (pos 100), None)  -- it passes by
    ∷ (stroke 1 corner (pos 0) (pos 200) (pos 200) (pos 0), Some (line (point_of (pos 100) (pos 100)) (point_of (pos 100) (pos 100))))  -- it touches the corner
    ∷ (stroke 1 corner (pos 100) (pos 100) (pos 103) (pos 101), Some (line (point_of (pos 100) (pos 100)) (point_of (pos 100) (pos 100))))  -- it begins there
    ∷ (stroke 1 corner (pos 101) (pos 50) (pos 101) (pos 50), None)  -- a point outside
    ∷ [])
cuts = refl

-- directions, in ten-thousandths of a degree
abbrev direction_to : ℤ → ℤ → ℕ
direction_to x y = direction (record { x = x; y = y })

directions : Agree (
    (direction_to (pos 5) (pos 0), 0)  -- to the right
    ∷ (direction_to (pos 5) (pos 5), 450000)  -- a diagonal
    ∷ (direction_to (pos 0) (pos 7), 900000)  -- up
    ∷ (direction_to (negsuc 4) (pos 0), 1800000)  -- to the left
    ∷ (direction_to (pos 0) (negsuc 6), 2700000)  -- down
    ∷ (direction_to (pos 1200) (pos 300), 140362)  -- atan (1 / 4)
    ∷ (direction_to (pos 3) (negsuc 3), 3068699)  -- 360 degrees less atan (4 / 3)
    ∷ (direction_to (pos 0) (pos 0), 0)  -- none
    ∷ [])
directions = refl

-- letters as a text has them
letters : Table letters_text (
    (codes "A b", codes "A b")  -- plain
    ∷ (0x25 ∷ 0x5C ∷ 0x5E ∷ [], codes "\\U+0025\\U+005C\\U+005E")  -- signs with a meaning
    ∷ (0xE4 ∷ 0x20AC ∷ [], codes "\\U+00E4\\U+20AC")  -- beyond ASCII
    ∷ (0x0A ∷ 0x7F ∷ 0xD800 ∷ 0xFFFE ∷ 0x1F600 ∷ [], codes "\\U+FFFD\\U+FFFD\\U+FFFD\\U+FFFD\\U+FFFD")  -- none that can be written
    ∷ [])
letters = refl

abbrev all_pens : PenSet
all_pens = record { chosen = replicate 256 true }

-- the chains of strokes, and of an area: how many pieces each has after the first one
abbrev sizes : List Segment → List Area → List (List Piece)
sizes strokes areas = map (λ c. c.others) (chains (marks all_pens (shapes strokes areas)))

abbrev piece : ℕ → Bool → Segment → Piece
piece width closed s = record {
  pen = s.pen;
  colour = s.colour;
  width = width;
  is_closed = closed;
  from = (own_line s).from;
  to = (own_line s).to;
}

abbrev area : ℕ → ℕ → Area
area first end = record { first = first; end = end; rule = OddCounts }

chains_of_strokes : Agree (
    (sizes (across ∷ up ∷ []) [], (piece 56 false up ∷ []) ∷ [])  -- one after another
    ∷ (sizes (up ∷ across ∷ []) [], [] ∷ [] ∷ [])  -- apart
    ∷ (sizes (across ∷ stroke 2 whole (pos 1024) (pos 448) (pos 0) (pos 0) ∷ []) [], [] ∷ [] ∷ [])  -- another pen
    ∷ (sizes (across ∷ up ∷ []) (area 1 2 ∷ []), [] ∷ [] ∷ [])  -- an area between
    ∷ (sizes (across ∷ up ∷ []) (area 0 2 ∷ []), (piece 24 true up ∷ []) ∷ [])  -- an area
    ∷ [])
chains_of_strokes = refl
