-- Small documents, read.
use Rattle.std.proofs.Common.{◌≡◌, ℕ, pos, negsuc, List, [], ◌∷◌, ◌++◌, Some, None, codes, map, refl}
use Rattle.areas.specs.Shapes.{stroke_shape}
use Rattle.plot_page.specs.Segments.{Segment}
use Rattle.polygons.specs.declared.lines.Rule.TheVariants.{OddCounts, Winding}
use Rattle.svg.specs.Commands.{LineBy, LineTo, MoveBy, MoveTo}
use Rattle.pieces.specs.Readings.{split}
use Rattle.svg.specs.Reader.{colour, commands, elements, place, read_svg, read_titles, value}

-- what lies between quotation marks, and outside of them
words : split 0x22 (codes " x=\"1\" y=\"\"/>") ≡ codes " x=" ∷ codes "1" ∷ codes " y=" ∷ [] ∷ codes "/>" ∷ []
words = refl

-- each element with the text after it: a title is no element, whatever it says
tags : elements (codes "<a>\n<title>&lt;path d=\"M0 0\"/&gt;</title>") ≡ codes "<a>\n" ∷ codes "<title>&lt;path d=\"M0 0\"/&gt;" ∷ codes "</title>" ∷ []
tags = refl

places : map place (codes "3 -4" ∷ codes "3  4" ∷ codes "3,4" ∷ codes "3" ∷ codes "3 4 5" ∷ []) ≡ Some (record { x = pos 3; y = negsuc 3 }) ∷ None ∷ None ∷ None ∷ None ∷ []
places = refl

-- each letter begins a command; without one, or with another one, there is nothing
path_data : map commands (codes "M1 2l-3 0" ∷ codes "m1 2L3 4" ∷ [] ∷ codes "1 2" ∷ codes "M1 2C3 4" ∷ codes "M1 2l" ∷ [])
    ≡ Some (MoveTo (record { x = pos 1; y = pos 2 }) ∷ LineBy (record { x = negsuc 2; y = pos 0 }) ∷ []) ∷ Some (MoveBy (record { x = pos 1; y = pos 2 }) ∷ LineTo (record { x = pos 3; y = pos 4 }) ∷ []) ∷ Some [] ∷ None ∷ None ∷ None ∷ []
path_data = refl

colours : map colour (codes "#ff8801" ∷ codes "#FF8801" ∷ codes "ff8801" ∷ codes "#ff880" ∷ codes "#ff880g" ∷ [])
    ≡ Some (record { red = 255; green = 136; blue = 1 }) ∷ Some (record { red = 255; green = 136; blue = 1 }) ∷ None ∷ None ∷ None ∷ []
colours = refl

-- the attribute of this name, wherever it is
attribute : map (λ name. value name (codes " x=" ∷ codes "1" ∷ codes " width=" ∷ codes "2" ∷ codes "/>" ∷ [])) (codes "width" ∷ codes "x" ∷ codes "y" ∷ codes "1" ∷ []) ≡ Some (codes "2") ∷ Some (codes "1") ∷ None ∷ None ∷ []
attribute = refl

-- 32 by 16 grains, a clip path, and a title with a path in it
abbrev head : List ℕ
head = codes "<svg viewBox=\"0 0 32 16\">\n<clipPath id=\"a\"><rect y=\"4\" x=\"3\" height=\"2\" width=\"1\"/></clipPath><title>&lt;path/></title>"

-- y grows upward from the lower edge
one_stroke : read_svg (head ++ codes "<path d=\"M1 2l3 0\" stroke=\"#000000\" class=\"pen7\" stroke-width=\"56\"/></svg>")
    ≡ Some (stroke_shape (record { pen = 7; colour = record { red = 0; green = 0; blue = 0 }; width = 56; window = record { x0 = pos 0; y0 = pos 0; x1 = pos 32; y1 = pos 16 }; ax = pos 1; ay = pos 14; bx = pos 4; by = pos 14 }) ∷ [])
unfolding read_svg
one_stroke = refl

-- the window is that of the clip path
clipped_stroke : read_svg (head ++ codes "<path d=\"M1 2L3 0\" clip-path=\"url(#a)\" stroke=\"#0000ff\" class=\"pen1\" stroke-width=\"56\"/></svg>")
    ≡ Some (stroke_shape (record { pen = 1; colour = record { red = 0; green = 0; blue = 255 }; width = 56; window = record { x0 = pos 3; y0 = pos 10; x1 = pos 4; y1 = pos 12 }; ax = pos 1; ay = pos 14; bx = pos 3; by = pos 16 }) ∷ [])
unfolding read_svg
clipped_stroke = refl

-- a path with a fill is an area, by winding if no rule is named
abbrev edge : Segment
edge = record { pen = 1; colour = record { red = 0; green = 0; blue = 255 }; width = 24; window = record { x0 = pos 0; y0 = pos 0; x1 = pos 32; y1 = pos 16 }; ax = pos 1; ay = pos 14; bx = pos 3; by = pos 16 }

areas_read : map read_svg (
    (head ++ codes "<path d=\"M1 2L3 0\" fill-rule=\"evenodd\" fill=\"#0000ff\" stroke=\"#0000ff\" class=\"pen1\" stroke-width=\"24\"/></svg>") ∷
    (head ++ codes "<path d=\"M1 2L3 0\" fill-rule=\"nonzero\" fill=\"#0000ff\" stroke=\"#0000ff\" class=\"pen1\" stroke-width=\"24\"/></svg>") ∷
    (head ++ codes "<path d=\"M1 2L3 0\" fill=\"#0000ff\" stroke=\"#0000ff\" class=\"pen1\" stroke-width=\"24\"/></svg>") ∷ [])
    ≡ map (λ rule. Some (record { strokes = edge ∷ []; rule = Some rule } ∷ [])) (OddCounts ∷ Winding ∷ Winding ∷ [])
unfolding read_svg
areas_read = refl

-- a clip path that is not there, a path without a width, a drawing without a size; and what might change how paths are drawn
abbrev line : List ℕ
line = codes "<path d=\"M1 2L3 0\" stroke=\"#0000ff\" class=\"pen1\" stroke-width=\"56\"/>"

not_read : map read_svg (
    (head ++ codes "<path d=\"M1 2L3 0\" clip-path=\"url(#b)\" stroke=\"#0000ff\" class=\"pen1\" stroke-width=\"56\"/></svg>") ∷
    (head ++ codes "<path d=\"M1 2L3 0\" stroke=\"#0000ff\" class=\"pen1\"/></svg>") ∷
    (codes "<svg width=\"1\">" ++ line ++ codes "</svg>") ∷
    (head ++ codes "<g transform=\"scale(2)\">" ++ line ++ codes "</g></svg>") ∷
    (head ++ codes "<style>" ++ line ++ codes "</style></svg>") ∷
    (head ++ codes "<path d=\"M1 2L3 0\" stroke=\"#0000ff\" class=\"pen1\" stroke-width=\"56\" opacity=\"0\"/></svg>") ∷
    (head ++ codes "<path d=\"M1 2L3 0\" stroke=\"#0000ff\" fill=\"#0000fe\" class=\"pen1\" stroke-width=\"56\"/></svg>") ∷
    (head ++ codes "<path d=\"M1 2L3 0\" stroke=\"#0000ff\" fill=\"#0000ff\" fill-rule=\"even\" class=\"pen1\" stroke-width=\"56\"/></svg>") ∷
    (head ++ codes "<path d=\"M1 2L3 0\" stroke=\"#0000ff\" fill-rule=\"evenodd\" class=\"pen1\" stroke-width=\"56\"/></svg>") ∷ [])
    ≡ None ∷ None ∷ None ∷ None ∷ None ∷ None ∷ None ∷ None ∷ None ∷ []
unfolding read_svg
not_read = refl

-- a group with a name is no hindrance
in_a_group : read_svg (head ++ codes "<g id=\"a\">" ++ line ++ codes "</g></svg>")
    ≡ Some (stroke_shape (record { pen = 1; colour = record { red = 0; green = 0; blue = 255 }; width = 56; window = record { x0 = pos 0; y0 = pos 0; x1 = pos 32; y1 = pos 16 }; ax = pos 1; ay = pos 14; bx = pos 3; by = pos 16 }) ∷ [])
unfolding read_svg
in_a_group = refl

-- references are resolved, and other bytes are as they are
titles_read : read_titles (head ++ codes "<g><title>A&amp;B&lt;\"C\"&gt;&amp;amp;</title>" ++ line ++ codes "</g><g><title></title></g></svg>")
    ≡ Some (codes "<path/>" ∷ codes "A&B<\"C\">&amp;" ∷ [] ∷ [])
unfolding read_titles
titles_read = refl

-- another reference is not known
no_reference : read_titles (codes "<title>A&quot;</title>") ≡ None
unfolding read_titles
no_reference = refl
