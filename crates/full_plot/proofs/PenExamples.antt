-- What small plots draw with a carousel in which pen 2 is 64 grains wide and pen 3 orange, by their text.
use Rattle.std.proofs.Common.{ℕ, List, [], ◌∷◌, refl}
use Rattle.std.specs.Prelude.{codes}
use Rattle.exact.specs.Roots.{root_by}
use Rattle.exact.proofs.Tables.{Table}
use Rattle.character_sets.specs.declared.encoding.Encoding.TheVariants.{ByPlot}
use Rattle.carousel.specs.Carousels.{empty}
use Rattle.carousel.proofs.Examples.{fine_and_orange}
use Rattle.plot_page.specs.Segments.{Segment}
use Rattle.plot_settings.specs.Colours.{rgb, default_colours}
use Rattle.plot_settings.specs.Settings.{all_pens}
use Rattle.hpgl_plot.specs.Frames.{place_along, back_along}
use Rattle.hpgl_plot.specs.Machine as core
use Rattle.full_plot.specs.Lines.{line_step}
use Rattle.full_plot.specs.Drawings.{outcome_with, strokes_in}
use Rattle.full_plot.specs.Polygons.{trace_step}
use Rattle.full_plot.proofs.PlotExamples.{line, page}

abbrev strokes : List ℕ → List Segment
strokes plot = strokes_in (outcome_with ByPlot fine_and_orange page plot)

-- of pen 2, and of pen 3
abbrev fine : ℕ → ℕ → ℕ → ℕ → Segment
fine ax ay bx by = record (line ax ay bx by) { pen = 2; colour = rgb 255 0 0; width = 64 }

abbrev orange_line : ℕ → ℕ → ℕ → ℕ → Segment
orange_line ax ay bx by = record (line ax ay bx by) { pen = 3; colour = rgb 255 165 0 }

-- what they draw
pens : Table strokes (
    (codes "SP2;PT0.5;PU0,0;PD10,0;BP;SP2;PD20,0;", fine 0 0 160 0 ∷ fine 0 0 320 0 ∷ [])  -- neither PT nor BP changes its width
    -- nor a PC in the ranges of CR its colour, and dashes have it
    ∷ (codes "CR0,63,0,63,0,63;PC3,63,0,0;IP0,0,300,400;LT2,10;SP3;PU0,100;PD60,100;", orange_line 0 1600 400 1600 ∷ orange_line 800 1600 960 1600 ∷ [])
    ∷ (codes "SP2;PU0,0;PM;PD10,0,10,10;PU;PM2;EP;", fine 0 0 160 0 ∷ fine 160 0 160 160 ∷ [])  -- the edges of polygons are lines of the pen
    ∷ [])
unfolding place_along back_along all_pens default_colours empty line_step core.step root_by trace_step
pens = refl
