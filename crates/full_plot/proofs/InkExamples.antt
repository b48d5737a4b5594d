-- Widths of bold letters, colours of screened lines, and what small plots draw after TR, SV, SD and AD, by their text.
use Rattle.std.proofs.Common.{ℕ, [], ◌∷◌, refl, Some, None, true, false}
use Rattle.std.specs.Prelude.{codes}
use Rattle.exact.specs.Roots.{root_by}
use Rattle.exact.proofs.Tables.{Agree, Table}
use Rattle.carousel.specs.Carousels.{empty}
use Rattle.plot_page.specs.Segments.{Segment}
use Rattle.plot_settings.specs.Colours.{rgb, default_colours}
use Rattle.plot_settings.specs.Settings.{all_pens}
use Rattle.hpgl_plot.specs.Frames.{place_along, back_along}
use Rattle.plot_page.specs.Colours.{is_white}
use Rattle.hpgl_plot.specs.Inks.{screened}
use Rattle.hpgl_plot.specs.Machine as core
use Rattle.full_plot.specs.Bold.{bold_width}
use Rattle.full_plot.specs.Lines.{line_step}
use Rattle.full_plot.proofs.PlotExamples.{line, strokes}

-- twice the width, but no wider than a pen may be
widths : Table bold_width (
    (224, 448)  -- the usual pen
    ∷ (0, 0)  -- as fine as can be
    ∷ (6400, 12800)  -- half as wide as a pen may be
    ∷ (6401, 12800)  -- wider
    ∷ (12800, 12800)  -- the widest
    ∷ [])
widths = refl

-- colours
screens : Agree (
    (screened None (rgb 1 2 3), rgb 1 2 3)  -- not screened
    ∷ (screened (Some 100000000) (rgb 0 7 255), rgb 0 7 255)  -- by 100 percent
    ∷ (screened (Some 0) (rgb 0 7 255), rgb 255 255 255)  -- by 0 percent
    ∷ (screened (Some 50000000) (rgb 0 100 255), rgb 127 177 255)  -- halves are rounded up before they are taken from 255
    ∷ (screened (Some 12500000) (rgb 0 128 254), rgb 223 239 255)  -- 12.5 percent
    ∷ [])
screens = refl

whites : Table is_white (
    (rgb 255 255 255, true)
    ∷ (rgb 254 255 255, false)
    ∷ (rgb 255 254 255, false)
    ∷ (rgb 255 255 254, false)
    ∷ [])
whites = refl

abbrev coloured : ℕ → Segment → Segment
coloured n s = record s { colour = rgb n n n }

-- what TR hides, and SV screens
inks : Table strokes (
    (codes "PC1,255,255,255;PU0,0;PD9,9;TR;PD0,9;TR0;PD9,9;", coloured 255 (line 0 0 144 144) ∷ coloured 255 (line 0 144 144 144) ∷ [])  -- white from TR to TR0
    ∷ (codes "PC1,254,254,254;TR1;PU0,0;PD9,9;", coloured 254 (line 0 0 144 144) ∷ [])  -- nearly white
    ∷ (codes "SV1;PU0,0;PD9,0;SV1,100;PD9,9;SV;PD0,9;", coloured 127 (line 0 0 144 0) ∷ line 144 0 144 144 ∷ line 144 144 0 144 ∷ [])  -- half, and all of it
    ∷ (codes "SV1,0;PU0,0;PD9,0;TR;PD9,9;", coloured 255 (line 0 0 144 0) ∷ [])  -- a line that a screen makes white is hidden, too
    ∷ (codes "SV1;SV11;PU0,0;PD9,0;", line 0 0 144 0 ∷ [])  -- a pattern
    ∷ (codes "SV1;TR;DF;PC1,255,255,255;PU0,0;PD9,0;", coloured 255 (line 0 0 144 0) ∷ [])  -- DF ends both
    -- a hidden line makes no dash, and the pattern goes on in it
    ∷ (codes "IP0,0,300,400;LT2,10;PC2,255,255,255;TR;SP2;PU0,0;PD20,0;SP1;PD60,0;", line 320 0 400 0 ∷ line 800 0 960 0 ∷ [])
    ∷ [])
unfolding place_along back_along all_pens default_colours empty line_step core.step root_by
inks = refl
