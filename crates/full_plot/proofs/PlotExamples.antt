-- Line types, polygons and sheets: what small plots draw in the profile full, by their text. The diagonal of P1 and P2 at (0,0) and
-- (300,400) is 8,000 grains, and ten percent of it are 800.
use Rattle.std.proofs.Common.{◌≡◌, lit≤, ℕ, true, false, List, [], ◌∷◌, refl, pos, length, Some, flat_map}
use Rattle.std.specs.Prelude.{codes}
use Rattle.exact.specs.Roots.{root_by}
use Rattle.exact.proofs.Tables.{Table, Agree}
use Rattle.plot_page.specs.declared.page.Page.{Page}
use Rattle.plot_page.specs.Segments.{Segment}
use Rattle.plot_settings.specs.Colours.{rgb, default_colours}
use Rattle.plot_settings.specs.Settings.{all_pens}
use Rattle.hpgl_plot.specs.declared.fault.PlotFault.TheVariants.{OffRange}
use Rattle.carousel.specs.Carousels.{empty}
use Rattle.hpgl_plot.specs.Frames.{place_along, back_along}
use Rattle.hpgl_plot.specs.Machine as core
use Rattle.full_plot.specs.Lines.{line_step}
use Rattle.full_plot.specs.Drawings.{outcome, refusal_in, strokes_in, ends_in, sheet_count, sheet_strokes}
use Rattle.full_plot.specs.Polygons.{trace_step}
use Rattle.std.specs.List.{range_with_len}
use Rattle.full_plot.specs.Sheets.{ends_with, has_more}

abbrev pub page : Page
page = record { width = 1000; height = 1000; left = 0; below = 0; width_in = (lit≤ tt, lit≤ tt); height_in = (lit≤ tt, lit≤ tt); left_in = lit≤ tt; below_in = lit≤ tt }

abbrev pub strokes : List ℕ → List Segment
strokes plot = strokes_in (outcome page plot)

-- a stroke of pen 1, which is black and 224 grains wide
abbrev pub line : ℕ → ℕ → ℕ → ℕ → Segment
line ax ay bx by = record {
  pen = 1;
  colour = rgb 0 0 0;
  width = 224;
  window = record { x0 = pos 0; y0 = pos 0; x1 = pos 16000; y1 = pos 16000 };
  ax = pos ax;
  ay = pos ay;
  bx = pos bx;
  by = pos by;
}

abbrev dot : ℕ → ℕ → Segment
dot x y = line x y x y

-- runs of patterns
runs : Table strokes (
    -- the pattern goes on round a corner
    (codes "IP0,0,300,400;LT2,10;PU0,100;PD60,100,60,150;", line 0 1600 400 1600 ∷ line 800 1600 960 1600 ∷ line 960 1600 960 1840 ∷ line 960 2240 960 2400 ∷ [])
    -- PU and PD on the spot keep the run, and the dot of PD is not part of it
    ∷ (codes "IP0,0,300,400;LT2,10;PU0,0;PD20,0;PU;PD;PD60,0;", line 0 0 320 0 ∷ dot 320 0 ∷ line 320 0 400 0 ∷ line 800 0 960 0 ∷ [])
    -- a line that begins elsewhere begins with the pattern
    ∷ (codes "IP0,0,300,400;LT2,10;PU0,0;PD20,0;PU0,100;PD60,100;", line 0 0 320 0 ∷ line 0 1600 400 1600 ∷ line 800 1600 960 1600 ∷ [])
    ∷ (codes "IP0,0,300,400;LT2,10;PU0,0;PD20,0;LT2;PD60,0;", line 0 0 320 0 ∷ line 320 0 720 0 ∷ [])  -- LT ends the run
    ∷ (codes "IP0,0,300,400;LT2,10;SP0;PU0,0;PD20,0;SP1;PD60,0;", line 320 0 400 0 ∷ line 800 0 960 0 ∷ [])  -- lines of pen 0 make no stroke, and the pattern goes on in them
    ∷ (codes "LT2,10;IP0,0,300,400;PU0,100;PD50,100;", line 0 1600 400 1600 ∷ [])  -- the length is taken when a line is drawn
    ∷ [])
unfolding place_along back_along all_pens default_colours empty root_by line_step core.step
runs = refl

-- line types
types : Table strokes (
    (codes "LT0;PU0,100;PD50,100,50,150;", dot 800 1600 ∷ dot 800 2400 ∷ [])  -- type 0
    ∷ (codes "IP0,0,300,400;LT2,10;LT;PU0,0;PD50,0;LT99;PD100,0;", line 0 0 800 0 ∷ line 800 0 1200 0 ∷ [])  -- LT99 brings back the type before LT
    ∷ (codes "IP0,0,300,400;UL1,50,20,30;LT1,10;PU0,0;PD50,0;", line 0 0 400 0 ∷ line 560 0 800 0 ∷ [])  -- UL, with an odd number of gaps
    ∷ (codes "IP0,0,300,400;LT2,10;PU0,0;EA50,25;", line 0 0 400 0 ∷ line 800 0 800 400 ∷ line 400 400 0 400 ∷ [])  -- round a rectangle
    ∷ (codes "IP0,0,300,400;LT2,10;PU0,0;PE7?c_;", line 0 0 400 0 ∷ line 800 0 1024 0 ∷ [])  -- an encoded polyline
    ∷ (codes "LT9;LT2,0;LT2,1,2;UL0,1;PU0,0;PD50,0;", line 0 0 800 0 ∷ [])  -- wrong numbers set nothing
    ∷ (codes "LT0;BP;PD50,0;LT0;DF;PD60,0;", line 0 0 800 0 ∷ line 800 0 960 0 ∷ [])  -- BP and DF set solid lines
    ∷ [])
unfolding place_along back_along all_pens default_colours empty line_step core.step root_by
types = refl

-- a place out of range is refused in every line type
off_range : refusal_in (outcome page (codes "LT2;PD8388607.1,0;")) ≡ Some (OffRange 4)
unfolding place_along back_along all_pens default_colours empty line_step core.step
off_range = refl

-- a sheet ends only if it has a stroke
abbrev sheets : List ℕ
sheets = codes "PG;PU0,0;PD10,0;PG;PG;PD20,0;PG;"

sheets_end : ends_in (outcome page sheets) ≡ 1 ∷ 2 ∷ []
unfolding place_along back_along all_pens default_colours empty line_step core.step
sheets_end = refl

two_sheets : sheet_count (ends_in (outcome page sheets)) (length (strokes sheets)) [] 0 ≡ 2
unfolding place_along back_along all_pens default_colours empty line_step core.step
two_sheets = refl

abbrev of_sheet : ℕ → List Segment
of_sheet n = sheet_strokes (strokes sheets) (ends_in (outcome page sheets)) n

-- the strokes of sheets
sheets_drawn : Table of_sheet (
    (1, line 0 0 160 0 ∷ [])  -- first sheet
    ∷ (2, line 160 0 320 0 ∷ [])  -- second sheet
    ∷ (0, line 0 0 160 0 ∷ line 160 0 320 0 ∷ [])  -- sheet 0 is all of them
    ∷ (3, [])  -- there is no sheet 3
    ∷ [])
unfolding place_along back_along all_pens default_colours empty line_step core.step
sheets_drawn = refl

-- what polygons draw
polygons : Table strokes (
    (codes "PU0,0;PD5,5;PM;PD10,0,0,10;PM1;PD3,3;PM2;", line 0 0 80 80 ∷ [])  -- what is drawn before polygon mode stays, and nothing is added in it
    ∷ (codes "PU0,0;PM;PD10,0,10,10;PU;PM2;EP;", line 0 0 160 0 ∷ line 160 0 160 160 ∷ [])  -- the closing edge is not drawn if the pen is up at the PM2
    ∷ (codes "PU0,0;PM;PD10,0,10,10;PM2;PU;EP;", line 0 0 160 0 ∷ line 160 0 160 160 ∷ line 160 160 0 0 ∷ [])  -- it is drawn if the pen is down
    -- the pen stays where it is, and edges to which it moved up are not drawn
    ∷ (codes "PU0,0;PM;PU9,0;PD9,9;PM1;PU1,1;PD2,1,2,2;PU;PM2;EP;PD3,3;", line 144 0 144 144 ∷ line 144 144 0 0 ∷ line 16 16 32 16 ∷ line 32 16 32 32 ∷ line 32 32 48 48 ∷ [])
    -- the edge of a rectangle is a polygon, and the buffer has places of the page
    ∷ (codes "PU2,2;EA4,3;SP0;SC0,9,0,9;SP1;EP;", line 32 32 64 32 ∷ line 64 32 64 48 ∷ line 64 48 32 48 ∷ line 32 48 32 32 ∷ line 32 32 64 32 ∷ line 64 32 64 48 ∷ line 64 48 32 48 ∷ line 32 48 32 32 ∷ [])
    ∷ [])
unfolding place_along back_along all_pens default_colours empty line_step core.step trace_step
polygons = refl

polygon_off_range : refusal_in (outcome page (codes "PM;PD1,1,8388607.1,0;")) ≡ Some (OffRange 3)
unfolding place_along back_along all_pens default_colours empty line_step core.step trace_step
polygon_off_range = refl

-- a sheet ends only if it has a stroke or an image
is_more : Agree (
    (has_more [] 3 [] 0, true)  -- the first one has strokes
    ∷ (has_more [] 0 [] 1, true)  -- or an image
    ∷ (has_more (3 ∷ []) 3 (1 ∷ []) 1, false)  -- nothing after the first one
    ∷ (has_more (3 ∷ []) 3 (1 ∷ []) 2, true)  -- an image after it
    ∷ [])
is_more = refl

one_more_end : ends_with true (3 ∷ []) 5 ≡ 3 ∷ 5 ∷ []
one_more_end = refl

-- three sheets, of which the last ends with the plot: in order, they have all strokes
abbrev three : List Segment
three = line 0 0 160 0 ∷ line 160 0 320 0 ∷ line 320 0 480 0 ∷ []

-- how many sheets there are
counts : Agree (
    (sheet_count [] 0 [] 0, 0)  -- nothing is drawn
    ∷ (sheet_count (3 ∷ []) 5 (0 ∷ []) 0, 2)  -- the last ends with the plot
    ∷ (sheet_count (1 ∷ 2 ∷ []) 3 (0 ∷ 0 ∷ []) 0, 3)  -- three sheets
    ∷ (sheet_count (1 ∷ []) 1 (0 ∷ []) 1, 2)  -- the last has an image only
    ∷ [])
counts = refl

joined : flat_map (sheet_strokes three (1 ∷ 2 ∷ [])) (range_with_len 1 3) ≡ three
joined = refl
