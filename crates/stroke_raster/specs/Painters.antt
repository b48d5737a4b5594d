-- What holds of a painter between two calls.
use Rattle.std.specs.Prelude.{◌≡◌, ℕ, ◌+◌, ◌-◌, ◌*◌, ◌<◌, ◌≤◌, List, length, min}
use Rattle.stroke_raster.specs.declared.scene.Scene.{Scene}
use Rattle.plot_page.specs.Resolutions.{rows_of}
use Rattle.plot_page.specs.Segments.{Segment}
use Rattle.areas.specs.Sweeps.{HasRoomFor}
use Rattle.areas.specs.Views.{areas_in}
use Rattle.areas.specs.declared.area.Area.{Area}
use Rattle.areas.specs.declared.sweep.AreaSweep.{AreaSweep}
use Rattle.stroke_raster.specs.ShownShapes.{area_at}
use Rattle.stroke_raster.specs.Scenes.{AreChained, width_of}

-- how many rows the next band has
abbrev pub rows_ahead : Scene → ℕ → ℕ → ℕ
rows_ahead scene next end = min scene.band_rows (end - next)

-- there is room for the area that ends at any position
abbrev pub HasRoomForAll : List Segment → List Area → AreaSweep → Type 0
HasRoomForAll strokes areas sweep = (position : ℕ) → HasRoomFor (length (area_at strokes areas position).strokes) sweep

-- the next row and its band, the row after the last one that is painted, the number of rows that were painted last, the
-- chains, and the rows and columns of a canvas that is sound
pub record IsSound (scene : Scene) (next end band painted : ℕ) (heads links : List ℕ) (height width : ℕ)
    (sweep : AreaSweep) (IsSoundCanvas : Type 0) : Type 0 where
  -- the rows that are painted are on the page; the next one is among them or right after them, and begins its band
  pub end_in : end ≤ rows_of scene.page scene.dots
  pub next_in : next ≤ end
  pub next_at : next < end → next ≡ scene.first_row + band * scene.band_rows
  -- the rows that were painted last are before it
  pub painted_before : painted ≤ next
  -- the canvas has room for them, and for the next band
  pub painted_rows : painted ≤ height
  pub next_rows : rows_ahead scene next end ≤ height
  pub height_in : height ≤ scene.band_rows
  pub width_is : width ≡ width_of scene
  pub canvas : IsSoundCanvas
  -- there is room for each area
  pub roomy : HasRoomForAll scene.strokes.now (areas_in scene.areas) sweep
  -- there are chains for all strokes and all bands; a page has at most 619,238 rows, so 2^20 bands are enough
  pub slots : length links ≡ length scene.strokes.now + 1
  pub bands_few : length heads ≤ 1048576
  pub bands_enough : rows_of scene.page scene.dots ≤ scene.first_row + length heads * scene.band_rows
  pub linked : AreChained scene band heads links
