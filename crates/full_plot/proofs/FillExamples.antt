-- What solid fills draw, by the text of small plots: the edges as strokes of width 0, among other strokes, and the areas.
use Rattle.std.proofs.Common.{ℕ, List, [], ◌∷◌, refl}
use Rattle.std.specs.Prelude.{codes}
use Rattle.exact.specs.Roots.{root_by}
use Rattle.exact.proofs.Tables.{Table}
use Rattle.areas.specs.Shapes.{ShapeList}
use Rattle.areas.specs.declared.area.Area.{Area}
use Rattle.carousel.specs.Carousels.{empty}
use Rattle.plot_page.specs.Segments.{Segment}
use Rattle.plot_settings.specs.Colours.{rgb, default_colours}
use Rattle.plot_settings.specs.Settings.{all_pens}
use Rattle.polygons.specs.declared.lines.Rule.TheVariants.{OddCounts, Winding}
use Rattle.hpgl_plot.specs.Frames.{place_along, back_along}
use Rattle.hpgl_plot.specs.Machine as core
use Rattle.full_plot.specs.Lines.{line_step}
use Rattle.full_plot.specs.Drawings.{areas_of, outcome, strokes_in}
use Rattle.full_plot.specs.Polygons.{trace_step}
use Rattle.full_plot.proofs.PlotExamples.{line, page}

abbrev drawn : List ℕ → ShapeList
drawn plot = record { strokes = strokes_in (outcome page plot); areas = areas_of (outcome page plot) }

abbrev shapes : List Segment → List Area → ShapeList
shapes strokes areas = record { strokes = strokes; areas = areas }

-- an edge, and an area of edges
abbrev edge : ℕ → ℕ → ℕ → ℕ → Segment
edge ax ay bx by = record (line ax ay bx by) { width = 0 }

abbrev red : ℕ → ℕ → ℕ → ℕ → Segment
red ax ay bx by = record (edge ax ay bx by) { pen = 2; colour = rgb 255 0 0 }

abbrev odd : ℕ → ℕ → Area
odd first end = record { first = first; end = end; rule = OddCounts }

abbrev wound : ℕ → ℕ → Area
wound first end = record { first = first; end = end; rule = Winding }

-- rectangles
rectangles : Table drawn (
    (codes "PU0,0;RA4,3;", shapes (edge 0 0 64 0 ∷ edge 64 0 64 48 ∷ edge 64 48 0 48 ∷ edge 0 48 0 0 ∷ []) (odd 0 4 ∷ []))
    ∷ (codes "PU2,3;RR4,0;", shapes (edge 32 48 96 48 ∷ edge 96 48 96 48 ∷ edge 96 48 32 48 ∷ edge 32 48 32 48 ∷ []) (odd 0 4 ∷ []))  -- flat
    ∷ (codes "PU2,3;RR0,0;", shapes (edge 32 48 32 48 ∷ edge 32 48 32 48 ∷ edge 32 48 32 48 ∷ edge 32 48 32 48 ∷ []) (odd 0 4 ∷ []))  -- a point
    -- between lines
    ∷ (codes "PU0,0;PD1,0;RR1,1;PD3,0;", shapes (line 0 0 16 0 ∷ edge 16 0 32 0 ∷ edge 32 0 32 16 ∷ edge 32 16 16 16 ∷ edge 16 16 16 0 ∷ line 16 0 48 0 ∷ []) (odd 1 5 ∷ []))
    -- by pen 0 nothing, and then the buffer by pen 2
    ∷ (codes "SP0;PU0,0;RA1,1;SP2;FP;", shapes (red 0 0 16 0 ∷ red 16 0 16 16 ∷ red 16 16 0 16 ∷ red 0 16 0 0 ∷ []) (odd 0 4 ∷ []))
    ∷ (codes "FT21;PU0,0;RA1,1;", shapes (edge 0 0 16 0 ∷ edge 16 0 16 16 ∷ edge 16 16 0 16 ∷ edge 0 16 0 0 ∷ []) (odd 0 4 ∷ []))  -- a pattern
    ∷ (codes "FT10,100;PU0,0;RA1,1;", shapes (edge 0 0 16 0 ∷ edge 16 0 16 16 ∷ edge 16 16 0 16 ∷ edge 0 16 0 0 ∷ []) (odd 0 4 ∷ []))  -- shading of 100 percent
    ∷ (codes "FT10,0;PU0,0;RA1,1;", shapes [] [])  -- shading of nothing
    ∷ [])
unfolding place_along back_along all_pens default_colours empty line_step core.step root_by trace_step
rectangles = refl

-- polygons
polygons : Table drawn (
    (codes "FP;PM0;PM2;FP;", shapes [] [])  -- empty buffers
    -- edges along which the pen was up, and the one that closes the polygon
    ∷ (codes "PU0,0;PM0;PU4,0,4,4;PM2;FP;", shapes (edge 0 0 64 0 ∷ edge 64 0 64 64 ∷ edge 64 64 0 0 ∷ []) (odd 0 3 ∷ []))
    -- two polygons are one area; EP draws lines of the pen
    ∷ (
      codes "PU0,0;PM0;PD4,0,4,4;PM1;PU1,0;PD1,1,2,1;PM2;FP1;PM0;PD1,1;PM2;EP;",
      shapes (edge 0 0 64 0 ∷ edge 64 0 64 64 ∷ edge 64 64 0 0 ∷ edge 16 0 16 16 ∷ edge 16 16 32 16 ∷ edge 32 16 16 0 ∷ line 32 16 16 16 ∷ line 16 16 32 16 ∷ []) (wound 0 6 ∷ []),
    )
    -- by both rules
    ∷ (
      codes "PU0,0;PM0;PD4,0,4,4;PM2;FP1;FP;",
      shapes (edge 0 0 64 0 ∷ edge 64 0 64 64 ∷ edge 64 64 0 0 ∷ edge 0 0 64 0 ∷ edge 64 0 64 64 ∷ edge 64 64 0 0 ∷ []) (wound 0 3 ∷ odd 3 6 ∷ []),
    )
    ∷ [])
unfolding place_along back_along all_pens default_colours empty line_step core.step root_by trace_step
polygons = refl
