-- Images of small plots in the profile full, by their text: where they lie, among which strokes, and on which sheets; and what is noted
-- on escapes.
use Rattle.std.proofs.Common.{◌≡◌, ℕ, ℤ, pos, List, [], ◌∷◌, ◌++◌, refl, map, Option, Some, None}
use Rattle.std.specs.Prelude.{codes}
use Rattle.exact.proofs.Tables.{Table}
use Rattle.escapes.specs.Escapes.{chain}
use Rattle.image_rows.specs.Changes.{changes_by}
use Rattle.image_rows.specs.Rows.{changed, breaks_off_from}
use Rattle.plot_settings.specs.Colours.{default_colours}
use Rattle.plot_settings.specs.Settings.{all_pens}
use Rattle.hpgl_plot.specs.declared.fault.PlotFault.TheVariants.{OffRange}
use Rattle.hpgl_plot.specs.declared.note.NoteKind.{NoteKind}
use Rattle.hpgl_plot.specs.declared.note.NoteKind.TheVariants.{Bad, Skipped}
use Rattle.carousel.specs.Carousels.{empty}
use Rattle.character_sets.specs.declared.encoding.Encoding.TheVariants.{ByPlot}
use Rattle.hpgl_plot.specs.Frames.{place_along, back_along}
use Rattle.hpgl_plot.specs.Machine as core
use Rattle.page_images.specs.PageImages.{ImageShape}
use Rattle.raster_graphics.specs.Lengths.{longest}
use Rattle.raster_graphics.specs.Rows.{filled}
use Rattle.full_plot.specs.Commands.{after_request}
use Rattle.full_plot.specs.Drawings.{ends_in, image_ends_in, images_in, outcome, refusal_in}
use Rattle.full_plot.specs.Lines.{line_step}
use Rattle.full_plot.specs.Noted.{told_of}
use Rattle.full_plot.proofs.PlotExamples.{page}

-- ESC
abbrev esc : List ℕ
esc = 27 ∷ []

-- the first corner of an image, and how many strokes are drawn before it
abbrev lies : ImageShape → ℤ × ℤ × ℕ
lies i = (i.image.corner.x, i.image.corner.y, i.before)

-- the images of a plot, and how many strokes and images there are at each sheet's end
abbrev made : List ℕ → List (ℤ × ℤ × ℕ) × List ℕ × List ℕ
made plot = (map lies (images_in (outcome page plot)), ends_in (outcome page plot), image_ends_in (outcome page plot))

-- images are among the strokes, and the next one begins below
among_strokes : Table made (
    (codes "PD4,8;" ++ esc ++ codes "*b1W@" ++ esc ++ codes "*rBPD9,9;" ++ esc ++ codes "*b1W@", ((pos 0, pos 0, 1) ∷ (pos 54, pos 0, 2) ∷ [], [], []))
    -- a sheet with an image only
    ∷ (esc ++ codes "%0A" ++ esc ++ codes "*b1W@" ++ (12 ∷ []) ++ esc ++ codes "%0BPD4,8;PG;", ((pos 0, pos 0, 0) ∷ [], 0 ∷ 1 ∷ [], 1 ∷ 1 ∷ []))
    -- at the pen
    ∷ (codes "PU10,20;" ++ esc ++ codes "%1A" ++ esc ++ codes "*r1A" ++ esc ++ codes "*b1W@", ((pos 160, pos 320, 0) ∷ [], [], []))
    ∷ [])
unfolding chain after_request changes_by changed breaks_off_from filled longest place_along back_along all_pens default_colours empty line_step core.step
among_strokes = refl

-- the image that is open at the plot's end is refused there
refused_at_the_end : refusal_in (outcome page (esc ++ codes "*p2476900Y" ++ esc ++ codes "*t2400R" ++ esc ++ codes "*r1A" ++ esc ++ codes "*b40Y" ++ esc ++ codes "*t10R"))
    ≡ Some (OffRange 36)
unfolding chain after_request filled longest place_along back_along all_pens default_colours empty line_step core.step
refused_at_the_end = refl

-- one note an escape, bad before skipped
told : List ℕ → List (Option NoteKind)
told plot = told_of ByPlot empty page plot

noted : Table told (
    (esc ++ codes "*r9a1G" ++ esc ++ codes "*r1g4U" ++ esc ++ codes "*r1G" ++ esc ++ codes "*r1A", Some Bad ∷ Some Bad ∷ Some Skipped ∷ None ∷ [])
    ∷ [])
unfolding told chain after_request filled longest place_along back_along all_pens default_colours empty line_step core.step
noted = refl
