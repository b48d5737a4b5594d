-- Labels in some styles. L goes down from the top of a letter's left side and then right, and a full stop is a dot in the
-- middle of its foot. Letters of the usual style are 1216 by 1728 grains; the next letter is 1824 grains to the right, and the
-- next line 3456 grains down.
use Rattle.std.proofs.Common.{◌≡◌, ℕ, ◌^◌, List, [], ◌∷◌, ◌++◌, map, refl, ℤ, pos, negsuc}
use Rattle.std.specs.Prelude.{codes}
use Rattle.exact.specs.Roots.{root_by}
use Rattle.exact.specs.declared.spot.Spot.{Spot}
use Rattle.exact.proofs.Tables.{Agree, at, Table}
use Rattle.directions.specs.Directions.{surplus, unit, vector_turned}
use Rattle.directions.specs.declared.turn.Turn.TheVariants.{Quarter}
use Rattle.character_sets.specs.declared.sign.Sign.{Sign}
use Rattle.character_sets.specs.declared.sign.Sign.TheVariants.{Printed, CarriageReturn, LineFeed, Back, Tab}
use Rattle.full_font.specs.Glyphs.{font}
use Rattle.lettering.specs.Styles.{usual}
use Rattle.lettering.specs.Cells.{cell_offset}
use Rattle.lettering.specs.Columns.{next_stop, section_letters}
use Rattle.lettering.specs.Letters.{centred}
use Rattle.lettering.specs.Labels.{styled_label_strokes, styled_label_end, margin_move}
use Rattle.lettering.specs.declared.style.LineFeed.TheVariants.{Normal, Reverse}
use Rattle.lettering.specs.declared.style.Path.TheVariants.{Right, Down, Left, Up}
use Rattle.lettering.specs.declared.style.Style.{Style}
use Rattle.labels.specs.Labels.{LineShape, cut}
use Rattle.lettering.specs.Lines.{label_lines}

abbrev dot : ℤ → ℤ → Spot × Spot
dot x y = (at x y, at x y)

abbrev printed : List ℕ → List Sign
printed code_points = map (λ code. Printed code) code_points

-- signs before and after CR and LF
abbrev two_lines : List Sign → List Sign → List Sign
two_lines first second = first ++ CarriageReturn ∷ LineFeed ∷ second

abbrev two_dots : List Sign
two_dots = printed (codes ".") ++ LineFeed ∷ printed (codes ".")

-- the strokes of a text in a style
abbrev written : Style → List ℕ → List (Spot × Spot)
written style text = styled_label_strokes style (printed text)

-- two strokes that meet, as in L
abbrev bend : Spot → Spot → Spot → List (Spot × Spot)
bend a b c = (a, b) ∷ (b, c) ∷ []

-- letters in some sizes, directions and slants, and far apart
letters : Agree (
    (written (record usual { width = pos 480; height = pos 640 }) (codes "L"), bend (at (pos 0) (pos 640)) (at (pos 0) (pos 0)) (at (pos 480) (pos 0)))  -- width and height
    ∷ (written (record usual { width = negsuc 479; height = pos 640 }) (codes "L"), bend (at (pos 0) (pos 640)) (at (pos 0) (pos 0)) (at (negsuc 479) (pos 0)))  -- mirrored
    ∷ (written (record usual { direction = unit (pos 3) (pos 4) }) (codes "L"), bend (at (negsuc 1381) (pos 1037)) (at (pos 0) (pos 0)) (at (pos 730) (pos 973)))  -- the direction of 3 to 4
    -- turned by a quarter
    ∷ (written (record usual { direction = vector_turned Quarter (unit (pos 3) (pos 4)) }) (codes "L"), bend (at (negsuc 1036) (negsuc 1381)) (at (pos 0) (pos 0)) (at (negsuc 972) (pos 730)))
    ∷ (written (record usual { direction = unit (pos 5) (pos 3) }) (codes "."), (dot (pos 521) (pos 313)) ∷ [])  -- the direction of 5 to 3
    ∷ (written (record usual { slant = pos (10 ^ 6) }) (codes "L"), bend (at (pos 1728) (pos 1728)) (at (pos 0) (pos 0)) (at (pos 1216) (pos 0)))  -- a slant of 45 degrees
    ∷ (written (record usual { step_x = pos 2000000 }) (codes ".."), (dot (pos 608) (pos 0)) ∷ (dot (pos 4256) (pos 0)) ∷ [])  -- a space more between letters
    -- a line more between lines
    ∷ (styled_label_strokes (record usual { step_y = pos 2000000 }) (two_lines (printed (codes ".")) (printed (codes "."))), (dot (pos 608) (pos 0)) ∷ (dot (pos 608) (negsuc 6911)) ∷ [])
    -- backwards
    ∷ (styled_label_strokes (record usual { step_x = negsuc 499999; step_y = pos 1500000; origin = 7 }) (two_lines (printed (codes "..")) (printed (codes "."))), (dot (pos 304) (pos 0)) ∷ (dot (negsuc 607) (pos 0)) ∷ (dot (negsuc 607) (negsuc 5183)) ∷ [])
    -- a small letter, slanted to the left, in a direction between two axes
    ∷ (written (record usual { slant = negsuc 499999; direction = unit (negsuc 0) (pos 1); origin = 18 }) (codes "l"), (at (pos 1075) (negsuc 2296), at (pos 860) (negsuc 2081)) ∷ (at (pos 860) (negsuc 2081), at (pos 1369) (negsuc 553)) ∷ (at (pos 1369) (negsuc 553), at (pos 1256) (negsuc 33)) ∷ [])
    ∷ [])
unfolding font root_by surplus
letters = refl

-- each origin
abbrev with_origin : ℕ → Style
with_origin n = record usual { origin = n }

abbrev dots_by_origin : ℕ → List (Spot × Spot)
dots_by_origin n = written (with_origin n) (codes "..")

abbrev dots : ℤ → ℤ → ℤ → List (Spot × Spot)
dots a b y = dot a y ∷ dot b y ∷ []

-- dots by their origin, without and with a gap
by_origin : Table dots_by_origin (
    (1, dots (pos 608) (pos 2432) (pos 0))
    ∷ (2, dots (pos 608) (pos 2432) (negsuc 863))
    ∷ (3, dots (pos 608) (pos 2432) (negsuc 1727))
    ∷ (4, dots (negsuc 911) (pos 912) (pos 0))
    ∷ (5, dots (negsuc 911) (pos 912) (negsuc 863))
    ∷ (6, dots (negsuc 911) (pos 912) (negsuc 1727))
    ∷ (7, dots (negsuc 2431) (negsuc 607) (pos 0))
    ∷ (8, dots (negsuc 2431) (negsuc 607) (negsuc 863))
    ∷ (9, dots (negsuc 2431) (negsuc 607) (negsuc 1727))
    ∷ (11, dots (pos 1216) (pos 3040) (pos 864))
    ∷ (12, dots (pos 1216) (pos 3040) (negsuc 863))
    ∷ (13, dots (pos 1216) (pos 3040) (negsuc 2591))
    ∷ (14, dots (negsuc 911) (pos 912) (pos 864))
    ∷ (15, dots (negsuc 911) (pos 912) (negsuc 863))
    ∷ (16, dots (negsuc 911) (pos 912) (negsuc 2591))
    ∷ (17, dots (negsuc 3039) (negsuc 1215) (pos 864))
    ∷ (18, dots (negsuc 3039) (negsuc 1215) (negsuc 863))
    ∷ (19, dots (negsuc 3039) (negsuc 1215) (negsuc 2591))
    ∷ [])
unfolding font
by_origin = refl

-- other letters by their origin
others_by_origin : Agree (
    (written (with_origin 3) (codes "L"), bend (at (pos 0) (pos 0)) (at (pos 0) (negsuc 1727)) (at (pos 1216) (negsuc 1727)))  -- on top
    ∷ (written (with_origin 19) (codes "L"), bend (at (negsuc 1823) (negsuc 863)) (at (negsuc 1823) (negsuc 2591)) (at (negsuc 607) (negsuc 2591)))  -- with a gap
    -- each section of a label by itself
    ∷ (styled_label_strokes (with_origin 4) (two_lines (printed (codes "..")) (printed (codes "."))), (dot (negsuc 911) (pos 0)) ∷ (dot (pos 912) (pos 0)) ∷ (dot (pos 0) (negsuc 3455)) ∷ [])
    ∷ [])
unfolding font
others_by_origin = refl

-- other paths, for which no origin counts
abbrev along_path : Style → Style
along_path style = record style { origin = 9 }

-- labels on other paths, for which no origin counts, and symbols, which are centred
paths : Agree (
    (styled_label_strokes (along_path (record usual { path = Down; line_feed = Normal })) two_dots, (dot (pos 608) (pos 0)) ∷ (dot (negsuc 1215) (negsuc 3455)) ∷ [])  -- downward
    ∷ (styled_label_strokes (along_path (record usual { path = Down; line_feed = Reverse })) two_dots, (dot (pos 608) (pos 0)) ∷ (dot (pos 2432) (negsuc 3455)) ∷ [])  -- downward reverse
    ∷ (styled_label_strokes (along_path (record usual { path = Left; line_feed = Normal })) two_dots, (dot (pos 608) (pos 0)) ∷ (dot (negsuc 1215) (pos 3456)) ∷ [])  -- to the left
    ∷ (styled_label_strokes (along_path (record usual { path = Up; line_feed = Normal })) two_dots, (dot (pos 608) (pos 0)) ∷ (dot (pos 2432) (pos 3456)) ∷ [])  -- upward
    ∷ (styled_label_strokes (record usual { path = Right; line_feed = Reverse }) two_dots, (dot (pos 608) (pos 0)) ∷ (dot (pos 2432) (pos 3456)) ∷ [])  -- reverse line feed
    ∷ (written (centred usual) (codes "."), (dot (pos 0) (negsuc 863)) ∷ [])  -- a symbol
    ∷ (written (centred (record usual { path = Down; line_feed = Reverse; origin = 13 })) (codes "."), (dot (pos 0) (negsuc 863)) ∷ [])  -- also if labels lead down and have another origin
    ∷ [])
unfolding font
paths = refl

-- small letters, and others than ASCII
characters : Agree (
    -- l
    (styled_label_strokes usual (Printed 0x6c ∷ []), (at (pos 304) (pos 1728), at (pos 608) (pos 1728)) ∷ (at (pos 608) (pos 1728), at (pos 608) (pos 288)) ∷ (at (pos 608) (pos 288), at (pos 912) (pos 0)) ∷ [])
    -- j goes below the line
    ∷ (styled_label_strokes usual (Printed 0x6a ∷ []), (at (pos 608) (pos 1152), at (pos 912) (pos 1152)) ∷ (at (pos 912) (pos 1152), at (pos 912) (negsuc 287)) ∷ (at (pos 912) (negsuc 287), at (pos 608) (negsuc 575)) ∷ (at (pos 608) (negsuc 575), at (pos 0) (negsuc 575)) ∷ dot (pos 912) (pos 1728) ∷ [])
    -- what is below the line is slanted to the other side
    ∷ (styled_label_strokes (record usual { slant = pos (10 ^ 6) }) (Printed 0x6a ∷ []), (at (pos 1760) (pos 1152), at (pos 2064) (pos 1152)) ∷ (at (pos 2064) (pos 1152), at (pos 624) (negsuc 287)) ∷ (at (pos 624) (negsuc 287), at (pos 32) (negsuc 575)) ∷ (at (pos 32) (negsuc 575), at (negsuc 575) (negsuc 575)) ∷ dot (pos 2640) (pos 1728) ∷ [])
    -- o with dieresis
    ∷ (styled_label_strokes usual (Printed 0xf6 ∷ []), (at (pos 304) (pos 0), at (pos 0) (pos 288)) ∷ (at (pos 0) (pos 288), at (pos 0) (pos 864)) ∷ (at (pos 0) (pos 864), at (pos 304) (pos 1152)) ∷ (at (pos 304) (pos 1152), at (pos 912) (pos 1152)) ∷ (at (pos 912) (pos 1152), at (pos 1216) (pos 864)) ∷ (at (pos 1216) (pos 864), at (pos 1216) (pos 288)) ∷ (at (pos 1216) (pos 288), at (pos 912) (pos 0)) ∷ (at (pos 912) (pos 0), at (pos 304) (pos 0)) ∷ dot (pos 304) (pos 1728) ∷ dot (pos 912) (pos 1728) ∷ [])
    -- a character that is not in the font
    ∷ (styled_label_strokes usual (Printed 0x4e00 ∷ []), (at (pos 0) (pos 0), at (pos 0) (pos 1728)) ∷ (at (pos 0) (pos 1728), at (pos 1216) (pos 1728)) ∷ (at (pos 1216) (pos 1728), at (pos 1216) (pos 0)) ∷ (at (pos 1216) (pos 0), at (pos 0) (pos 0)) ∷ [])
    ∷ [])
unfolding font
characters = refl

abbrev stop : Sign
stop = Printed 46

-- where the pen goes on
ends : Agree (
    (styled_label_end (with_origin 1) (printed (codes "..")), at (pos 3648) (pos 0))  -- after the whole label
    ∷ (styled_label_end (with_origin 14) (printed (codes "..")), at (pos 1824) (pos 0))  -- after half of it
    ∷ (styled_label_end (with_origin 7) (printed (codes "..")), at (pos 0) (pos 0))  -- where it was
    ∷ (styled_label_end (with_origin 4) (two_lines (printed (codes "..")) (printed (codes "."))), at (pos 912) (negsuc 3455))  -- after the last line
    ∷ (styled_label_end (along_path (record usual { path = Down; line_feed = Normal })) two_dots, at (negsuc 1823) (negsuc 6911))  -- downward
    ∷ (styled_label_end (along_path (record usual { path = Down; line_feed = Reverse })) two_dots, at (pos 1824) (negsuc 6911))  -- downward, with line feeds the other way
    ∷ (styled_label_end (along_path (record usual { path = Left; line_feed = Normal })) two_dots, at (negsuc 3647) (pos 3456))  -- to the left
    ∷ (styled_label_end (along_path (record usual { path = Up; line_feed = Normal })) two_dots, at (pos 1824) (pos 6912))  -- upward
    ∷ (styled_label_end usual (stop ∷ Back ∷ stop ∷ []), at (pos 1824) (pos 0))  -- back over a letter
    ∷ (styled_label_end usual (stop ∷ Tab ∷ stop ∷ []), at (pos 16416) (pos 0))  -- after a tab
    ∷ (styled_label_end usual (Back ∷ Back ∷ stop ∷ Tab ∷ stop ∷ []), at (pos 1824) (pos 0))  -- after columns below 0
    ∷ [])
ends = refl

-- back over a letter, on to the next tab stop, and both below 0
columns : Agree (
    (styled_label_strokes usual (stop ∷ Back ∷ stop ∷ []), dot (pos 608) (pos 0) ∷ dot (pos 608) (pos 0) ∷ [])  -- back over a letter
    ∷ (styled_label_strokes usual (stop ∷ Tab ∷ stop ∷ []), dot (pos 608) (pos 0) ∷ dot (pos 15200) (pos 0) ∷ [])  -- tab
    ∷ (styled_label_strokes usual (Back ∷ Back ∷ stop ∷ Tab ∷ stop ∷ []), dot (negsuc 3039) (pos 0) ∷ dot (pos 608) (pos 0) ∷ [])  -- below zero
    -- a section is as long as the greatest column in it, also if its letters end before
    ∷ (styled_label_strokes (with_origin 4) (stop ∷ Back ∷ stop ∷ []), dot (pos 0) (pos 0) ∷ dot (pos 0) (pos 0) ∷ [])
    ∷ (styled_label_strokes (with_origin 5) (Back ∷ stop ∷ []), dot (negsuc 1823) (negsuc 863) ∷ [])  -- and at least one letter
    ∷ [])
unfolding font
columns = refl

next_stops : map next_stop (negsuc 8 ∷ negsuc 7 ∷ negsuc 0 ∷ pos 0 ∷ pos 7 ∷ pos 8 ∷ [])
    ≡ negsuc 7 ∷ pos 0 ∷ pos 0 ∷ pos 8 ∷ pos 8 ∷ pos 16 ∷ []
next_stops = refl

sections : section_letters (stop ∷ Tab ∷ Back ∷ CarriageReturn ∷ Tab ∷ Tab ∷ []) ∷ section_letters (Back ∷ CarriageReturn ∷ stop ∷ stop ∷ []) ∷ []
    ≡ pos 8 ∷ pos 1 ∷ []
sections = refl

-- what moves the pen
moves : Agree (
    (cell_offset usual (pos 2000000) (pos 1000000), at (pos 3648) (negsuc 3455))  -- two columns on and a line down
    ∷ (cell_offset usual (pos 500000) (negsuc 249999), at (pos 912) (pos 864))  -- half a column on and a quarter of a line up
    ∷ (margin_move (with_origin 4) (two_lines (printed (codes "..")) (printed (codes "."))), at (pos 0) (negsuc 3455))  -- the margin follows the lines
    ∷ (margin_move usual (printed (codes "..")), at (pos 0) (pos 0))  -- margin of one line
    ∷ [])
moves = refl

abbrev lines : Style → List Sign → List LineShape
lines style signs = label_lines style (record { x = pos 100; y = pos 200 }) signs

-- a text, and the numbers of its start, its end and its top
abbrev line : List ℕ → ℤ → ℤ → ℤ → ℤ → ℤ → ℤ → LineShape
line text start_x start_y end_x end_y top_x top_y = record {
  text = text;
  start = record { x = start_x; y = start_y };
  end = record { x = end_x; y = end_y };
  top = record { x = top_x; y = top_y };
}

-- the lines of labels that start at (100, 200)
lines_of_labels : Agree (
    (lines usual (printed (codes "A B")), line (codes "A B") (pos 100) (pos 200) (pos 5572) (pos 200) (pos 100) (pos 1928) ∷ [])  -- a blank is a letter without strokes
    -- two lines
    ∷ (lines usual (printed (codes "AB") ++ CarriageReturn ∷ LineFeed ∷ printed (codes "C")), line (codes "AB") (pos 100) (pos 200) (pos 3748) (pos 200) (pos 100) (pos 1928) ∷ line (codes "C") (pos 100) (negsuc 3255) (pos 1924) (negsuc 3255) (pos 100) (negsuc 1527) ∷ [])
    -- HT goes to column 8
    ∷ (lines usual (printed (codes "A") ++ Tab ∷ printed (codes "B")), line (codes "A") (pos 100) (pos 200) (pos 1924) (pos 200) (pos 100) (pos 1928) ∷ line (codes "B") (pos 14692) (pos 200) (pos 16516) (pos 200) (pos 14692) (pos 1928) ∷ [])
    -- BS goes back to the letter before
    ∷ (lines usual (printed (codes "A") ++ Back ∷ printed (codes "_")), line (codes "A") (pos 100) (pos 200) (pos 1924) (pos 200) (pos 100) (pos 1928) ∷ line (codes "_") (pos 100) (pos 200) (pos 1924) (pos 200) (pos 100) (pos 1928) ∷ [])
    ∷ (lines usual (LineFeed ∷ CarriageReturn ∷ []), [])  -- without letters
    ∷ (lines (record usual { path = Down }) (printed (codes "AB")), line (codes "AB") (pos 100) (pos 1928) (pos 100) (negsuc 4983) (pos 1316) (pos 1928) ∷ [])  -- along the path, downward
    ∷ (lines (record usual { path = Left }) (printed (codes "AB")), line (codes "AB") (pos 1316) (pos 1928) (negsuc 2331) (pos 1928) (pos 1316) (pos 200) ∷ [])  -- leftward
    ∷ (lines (record usual { path = Up }) (printed (codes "AB")), line (codes "AB") (pos 1316) (pos 200) (pos 1316) (pos 7112) (pos 100) (pos 200) ∷ [])  -- upward
    -- LO 5: each section is centred
    ∷ (lines (record usual { origin = 5 }) (printed (codes "AB") ++ CarriageReturn ∷ LineFeed ∷ printed (codes "C")), line (codes "AB") (negsuc 1419) (negsuc 663) (pos 2228) (negsuc 663) (negsuc 1419) (pos 1064) ∷ line (codes "C") (negsuc 507) (negsuc 4119) (pos 1316) (negsuc 4119) (negsuc 507) (negsuc 2391) ∷ [])
    ∷ [])
lines_of_labels = refl

-- what would be farther away than strokes may end is cut to that
far : label_lines usual (record { x = pos (2 ^ 27); y = pos 0 }) (printed (codes "A"))
    ≡ (let most = cut (pos (2 ^ 27)) in line (codes "A") most (pos 0) most (pos 0) most (pos 1728) ∷ [])
far = refl
