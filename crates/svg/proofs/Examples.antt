-- The bytes of small documents.
use Rattle.std.proofs.Common.{◌≡◌, ℕ, ℤ, pos, negsuc, [], ◌∷◌, ◌++◌, flat_map, Some, None, codes, refl, replicate, true, arith, List, map}
use Rattle.std.specs.Fmt.{digits}
use Rattle.areas.specs.Shapes.{shapes, stroke_shape}
use Rattle.areas.specs.declared.area.Area.{Area}
use Rattle.plot_page.specs.Segments.{Segment}
use Rattle.plot_page.specs.declared.colour.Colour.{Colour}
use Rattle.plot_page.specs.declared.page.Page.{Page}
use Rattle.plot_page.specs.declared.pens.PenSet.{PenSet}
use Rattle.plot_page.specs.declared.window.Window.{Window}
use Rattle.polygons.specs.declared.lines.Rule.TheVariants.{OddCounts, Winding}
use Rattle.svg.specs.Clips.{clip_text, clips_of, clips_text}
use Rattle.svg.specs.Commands.{LineBy, LineTo, MoveBy, MoveTo, command_text, line, move}
use Rattle.svg.specs.Documents.{foot_text, head_text, page_text, sheets_bytes, svg_bytes}
use Rattle.svg.specs.Numbers.{colour_digits, millimetres}
use Rattle.svg.specs.Paths.{clipped_text, fill_text, path_of, path_text, paths, pen_text, run_commands}
use Rattle.svg.specs.Places.{rectangle_of}
use Rattle.svg.specs.Readings.{lines_from, read_paths, size_of}
use Rattle.svg.specs.declared.places.Place.{Place}

-- a table of examples: each input has its output
abbrev pub Table : {X Y : Type 0} → (X → Y) → List (X × Y) → Type 0
Table f rows = map (λ it. f it.0) rows ≡ map (λ it. it.1) rows

-- a table of examples: each value agrees with the one beside it
abbrev pub Agree : {X : Type 0} → List (X × X) → Type 0
Agree rows = map (λ it. it.0) rows ≡ map (λ it. it.1) rows

-- 64 by 66 plotter units
abbrev pub page : Page
page = record {
  width = 64;
  height = 66;
  left = 0;
  below = 0;
  width_in = (omega arith, omega arith);
  height_in = (omega arith, omega arith);
  left_in = omega arith;
  below_in = omega arith;
}

abbrev black : Colour
black = record { red = 0; green = 0; blue = 0 }

abbrev orange : Colour
orange = record { red = 255; green = 136; blue = 1 }

abbrev whole : Window
whole = record { x0 = pos 0; y0 = pos 0; x1 = pos 1024; y1 = pos 1056 }

abbrev corner : Window
corner = record { x0 = pos 0; y0 = pos 0; x1 = pos 160; y1 = pos 320 }

-- the right half of the page
abbrev right : Window
right = record { x0 = pos 512; y0 = pos 0; x1 = pos 1024; y1 = pos 1056 }

abbrev stroke : ℕ → Colour → ℕ → Window → ℤ → ℤ → ℤ → ℤ → Segment
stroke pen colour width window ax ay bx by =
    record { pen = pen; colour = colour; width = width; window = window; ax = ax; ay = ay; bx = bx; by = by }

abbrev pub across : Segment
across = stroke 1 black 56 whole (pos 0) (pos 448) (pos 1024) (pos 448)

-- it begins where the last one ends
abbrev pub up : Segment
up = stroke 1 black 56 whole (pos 1024) (pos 448) (pos 1024) (pos 1056)

-- of length zero
abbrev pub dot : Segment
dot = stroke 1 black 56 whole (pos 16) (pos 32) (pos 16) (pos 32)

abbrev clipped : Segment
clipped = stroke 2 orange 0 corner (pos 0) (pos 0) (pos 1024) (pos 1056)

abbrev clipped_right : Segment
clipped_right = stroke 2 orange 30 right (pos 0) (pos 0) (pos 0) (pos 0)

-- its window is empty
abbrev pub empty : Segment
empty = stroke 1 black 56 (record { x0 = pos 1; y0 = pos 0; x1 = pos 0; y1 = pos 0 }) (pos 0) (pos 0) (pos 0) (pos 0)

abbrev pub all_pens : PenSet
all_pens = record { chosen = replicate 256 true }

-- lengths in millimetres
lengths : Table millimetres (
    (11880, codes "297")  -- the width of A4
    ∷ (64, codes "1.6")  -- one decimal
    ∷ (66, codes "1.65")  -- two decimals
    ∷ (65, codes "1.625")  -- three decimals
    ∷ [])
unfolding digits
lengths = refl

-- the texts of parts
texts : Agree (
    (colour_digits orange, codes "ff8801")  -- a colour
    ∷ (page_text page, codes " width=\"1.6mm\" height=\"1.65mm\" viewBox=\"0 0 1024 1056\">\n")  -- the page
    ∷ (flat_map command_text (run_commands page across []), codes "M0 608l1024 0")  -- y grows downward from the upper edge
    ∷ (flat_map command_text (run_commands page (stroke 1 black 56 whole (negsuc 15) (negsuc 0) (pos 2000) (pos 2000)) []), codes "M-16 1057L2000 -944")  -- off the page
    ∷ (pen_text 255 orange 12800, codes "<path class=\"pen255\" stroke=\"#ff8801\" stroke-width=\"12800\"")  -- the pen
    ∷ (clip_text (rectangle_of page corner), codes "<clipPath id=\"w0_736_160_320\"><rect x=\"0\" y=\"736\" width=\"160\" height=\"320\"/></clipPath>\n")  -- a clip path
    ∷ (clipped_text (Some (rectangle_of page corner)), codes " clip-path=\"url(#w0_736_160_320)\"")  -- a reference
    ∷ (clipped_text None, [])  -- not clipped
    ∷ (clips_text (clips_of page all_pens (across ∷ [])), [])  -- no clip paths
    -- two strokes that follow one another, and a dot
    ∷ (path_text (path_of page None across (up ∷ dot ∷ [])), codes "<path class=\"pen1\" stroke=\"#000000\" stroke-width=\"56\" d=\"M0 608l1024 0L1024 0M16 1024l0 0\"/>\n")
    ∷ (fill_text None (codes "ff8801"), [])  -- strokes are not filled
    ∷ (fill_text (Some OddCounts) (codes "ff8801"), codes " fill=\"#ff8801\" fill-rule=\"evenodd\"")  -- an area by odd counts
    ∷ (fill_text (Some Winding) (codes "ff8801"), codes " fill=\"#ff8801\"")  -- an area by winding
    ∷ [])
unfolding digits
texts = refl

-- a place of the document
abbrev at : ℤ → ℤ → Place
at x y = record { x = x; y = y }

-- lines and moves have absolute or relative numbers, whichever are shorter
commands : Agree (
    (line (at (pos 0) (pos 1056)) (at (pos 1024) (pos 0)), LineTo (at (pos 1024) (pos 0)))  -- absolute
    ∷ (line (at (pos 1000) (pos 608)) (at (pos 1024) (pos 608)), LineBy (at (pos 24) (pos 0)))  -- relative
    ∷ (line (at (pos 1024) (pos 608)) (at (pos 1024) (pos 0)), LineTo (at (pos 1024) (pos 0)))  -- both have six characters
    ∷ (move (at (pos 1000) (negsuc 999)) (at (pos 1000) (negsuc 1000)), MoveBy (at (pos 0) (negsuc 0)))  -- a relative move
    ∷ [])
unfolding digits
commands = refl

-- in order, each once, without the page
two_clip_paths : clips_of page all_pens (clipped_right ∷ across ∷ clipped ∷ clipped_right ∷ []) ≡ rectangle_of page corner ∷ rectangle_of page right ∷ []
two_clip_paths = refl

-- where relative commands lead
lines_of_commands : lines_from (at (pos 0) (pos 0)) (MoveTo (at (pos 5) (pos 6)) ∷ LineBy (at (pos 1) (negsuc 0)) ∷ MoveBy (at (pos 4) (pos 0)) ∷ LineTo (at (pos 2) (pos 2)) ∷ []) ≡ (at (pos 5) (pos 6), at (pos 6) (pos 5)) ∷ (at (pos 10) (pos 5), at (pos 2) (pos 2)) ∷ []
lines_of_commands = refl

-- the strokes are read as they were, but for a width below 24
strokes_read : read_paths (size_of page) (paths page all_pens (shapes (across ∷ clipped ∷ []) [])) ≡ stroke_shape across ∷ stroke_shape (record clipped { width = 24 }) ∷ []
unfolding digits
strokes_read = refl

-- the area of the strokes after so many, up to and including this one
abbrev area : ℕ → ℕ → Area
area first end = record { first = first; end = end; rule = OddCounts }

-- an area is read as it was
area_read : read_paths (size_of page) (paths page all_pens (shapes (across ∷ up ∷ dot ∷ []) (area 1 3 ∷ [])))
    ≡ stroke_shape across ∷ record { strokes = up ∷ dot ∷ []; rule = Some OddCounts } ∷ []
unfolding digits
area_read = refl

-- documents
documents : Agree (
    -- the width is 24 grains at least
    (svg_bytes page all_pens (across ∷ clipped ∷ []) [] [], codes "<?xml version=\"1.0\" encoding=\"UTF-8\"?>\n<svg xmlns=\"http://www.w3.org/2000/svg\" width=\"1.6mm\" height=\"1.65mm\" viewBox=\"0 0 1024 1056\">\n<g fill=\"none\" stroke-linecap=\"round\" stroke-linejoin=\"round\">\n<defs>\n<clipPath id=\"w0_736_160_320\"><rect x=\"0\" y=\"736\" width=\"160\" height=\"320\"/></clipPath>\n</defs>\n<path class=\"pen1\" stroke=\"#000000\" stroke-width=\"56\" d=\"M0 608l1024 0\"/>\n<path class=\"pen2\" stroke=\"#ff8801\" stroke-width=\"24\" clip-path=\"url(#w0_736_160_320)\" d=\"M0 1056L1024 0\"/>\n</g></svg>\n")
    -- two sheets, of which the second one ends with the plot
    ∷ (sheets_bytes page all_pens (across ∷ up ∷ []) [] (1 ∷ []) [], head_text page ++ codes "<g id=\"sheet-1\">\n<path class=\"pen1\" stroke=\"#000000\" stroke-width=\"56\" d=\"M0 608l1024 0\"/>\n</g>\n<g id=\"sheet-2\">\n<path class=\"pen1\" stroke=\"#000000\" stroke-width=\"56\" d=\"M1024 608L1024 0\"/>\n</g>\n" ++ foot_text)
    -- an area on the second sheet
    ∷ (sheets_bytes page all_pens (across ∷ up ∷ dot ∷ []) (area 1 3 ∷ []) (1 ∷ []) [], head_text page ++ codes "<g id=\"sheet-1\">\n<path class=\"pen1\" stroke=\"#000000\" stroke-width=\"56\" d=\"M0 608l1024 0\"/>\n</g>\n<g id=\"sheet-2\">\n<path class=\"pen1\" stroke=\"#000000\" stroke-width=\"56\" fill=\"#000000\" fill-rule=\"evenodd\" d=\"M1024 608L1024 0M16 1024l0 0\"/>\n</g>\n" ++ foot_text)
    ∷ (svg_bytes page all_pens [] [] [], head_text page ++ foot_text)  -- empty document
    ∷ [])
unfolding digits
documents = refl
