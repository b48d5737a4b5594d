-- A scene: what its rows show, and the chains of its strokes.
use Rattle.std.specs.Prelude.{◌≡◌, ℕ, ◌+◌, ◌*◌, ◌<◌, ◌≤◌, Bool, List, length}
use Rattle.stroke_raster.specs.declared.scene.Scene.{Scene}
use Rattle.stroke_raster.specs.Chains.{Linked}
use Rattle.plot_page.specs.Resolutions.{columns_of, rows_of}
use Rattle.stroke_raster.specs.Boxes.{in_box, selected, boxes}
use Rattle.stroke_raster.specs.Rows.{rows_shown}
use Rattle.areas.specs.Views.{areas_in}
use Rattle.stroke_raster.specs.ShownShapes.{Reaches, shows_at}
use Rattle.stroke_raster.specs.Canvases.{Shows}
use Rattle.stroke_raster.specs.Slots.{band_of, goes_on}

-- how many columns its rows have
abbrev pub width_of : Scene → ℕ
width_of scene = columns_of scene.page scene.dots

-- a pixel shows a position, unless it shows a later one
abbrev pub scene_test : Reaches → Scene → ℕ → ℕ → ℕ → Bool
scene_test reaches scene = shows_at reaches scene.pens scene.strokes.now (areas_in scene.areas) scene.page scene.dots

-- a number of its rows are shown, from a row on
abbrev pub ShowsScene : (ℕ → ℕ → ℕ) → (ℕ → ℕ) → Reaches → Scene → ℕ → ℕ → Type 0
ShowsScene pixel mark reaches scene first rows =
    Shows pixel mark (scene_test reaches scene) (length scene.strokes.now) first rows (width_of scene)

-- what a number of its rows show of strokes alone, from a row on
abbrev pub scene_rows : Reaches → Scene → ℕ → ℕ → List (List ℕ)
scene_rows reaches scene first count =
    rows_shown (λ s. reaches s scene.page scene.dots) scene.pens scene.strokes.now (width_of scene) first count

-- how many pixels of these rows lie in the boxes of the strokes that are drawn
abbrev pub scene_boxes : Scene → ℕ → ℕ → ℕ
scene_boxes scene first count =
    boxes (λ s. in_box s scene.page scene.dots) (selected scene.pens scene.strokes.now) first count (width_of scene)

-- before a band: the strokes that go on in it are chained, and for each band from it on those that begin there
abbrev pub AreChained : Scene → ℕ → List ℕ → List ℕ → Type 0
AreChained scene band heads links =
    Linked (length scene.strokes.now) (length heads)
    (band_of scene.pens scene.strokes.now (areas_in scene.areas) scene.page scene.dots scene.first_row scene.band_rows (length heads))
    (goes_on scene.strokes.now (areas_in scene.areas) scene.page scene.dots scene.first_row scene.band_rows)
    band heads links

-- band `band` of a scene is next: it has `rows` rows of the page from `first` on, and its strokes are chained
pub record IsNext (scene : Scene) (band first rows : ℕ) (heads links : List ℕ) : Type 0 where
  pub slots : length links ≡ length scene.strokes.now + 1
  pub in_range : band < length heads
  pub at : first ≡ scene.first_row + band * scene.band_rows
  pub rows_fit : rows ≤ scene.band_rows
  pub rows_in : first + rows ≤ rows_of scene.page scene.dots
  pub linked : AreChained scene band heads links
