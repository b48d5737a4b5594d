-- How the rows of a picture are laid out in a PNG, as contracts of private functions say it.
use Rattle.std.specs.Prelude.{◌≡◌, ◌<◌, ℕ, All, List, length, get_or, Some, true, ⊤}
use Rattle.std.specs.List.{flat_map, list_any}
use Rattle.std.specs.Str.{bytes_eq}
use Rattle.plot_page.specs.Segments.{Segment}
use Rattle.areas.specs.Views.{shapes_in}
use Rattle.plot_page.specs.Pens.{has_pen}
use Rattle.plot_page.specs.Resolutions.{columns_of, rows_of}
use Rattle.plot_page.specs.declared.pens.PenSet.{PenSet}
use Rattle.plot_page.specs.declared.page.Page.{Page}
use Rattle.plot_page.specs.declared.dots.Dots.{Dots}
use Rattle.picture_out.specs.declared.form.Form.TheVariants.{Ppm}
use Rattle.png.specs.declared.header.Header.{Header}
use Rattle.png.specs.declared.header.Layout.{Layout}
use Rattle.png.specs.declared.header.Layout.TheVariants.{Indexed, Grey, Rgb}
use Rattle.png.specs.Headers.{IsSound}
use Rattle.png.specs.Samples.{Head, row_colours, stride}
use Rattle.rows.specs.Pictures.{Reach, row_of_list, smoothed_pixels}
use Rattle.rows.specs.Boxes.{boxes_from, finer_boxes}
use Rattle.rows.specs.Documents.{per_metre}
use Rattle.rows.specs.declared.scene.Scene.{Scene}

-- the header of a picture of a page
pub record IsHeaderOf (page : Page) (dots : Dots) (header : Header) : Type 0 where
  pub columns : header.columns ≡ columns_of page dots
  pub rows : header.rows ≡ rows_of page dots
  pub per_metre : header.per_metre ≡ per_metre dots.resolution
  pub sound : IsSound header

-- the bytes of a row show colours
pub record IsRowOf (head : Head) (bytes colours : List ℕ) : Type 0 where
  pub size : length bytes ≡ stride head
  pub shows : row_colours head bytes ≡ Some colours

-- the number of each selected stroke is 1, so a row of numbers is a row of bits
abbrev pub AreBits : PenSet → List Segment → List ℕ → Type 0
AreBits pens strokes numbers =
    (k : ℕ) (s : Segment) → k < length strokes → has_pen pens (get_or strokes k s).pen ≡ true → get_or numbers k 0 ≡ 1

-- the colours of each row of pixels, not smoothed, and the tests that they take at most
abbrev pub plain_row : Scene → Reach → ℕ → List ℕ
plain_row scene reaches row = row_of_list Ppm reaches scene.pens (shapes_in scene.shapes) scene.page scene.dots row

abbrev pub plain_boxes : Scene → ℕ
plain_boxes scene = boxes_from scene.pens scene.shapes.strokes.now scene.page scene.dots 0

-- a layout has the colours of pixels
abbrev pub HasPixels : Layout → List (List ℕ) → Type 0
HasPixels (Indexed depth palette) pixels = All (λ pixel. list_any (bytes_eq pixel) palette.now ≡ true) pixels
HasPixels Grey pixels = All (λ pixel. (get_or pixel 1 0 ≡ get_or pixel 0 0) × (get_or pixel 2 0 ≡ get_or pixel 0 0)) pixels
HasPixels Rgb pixels = ⊤

-- the pixels of each row of a scene, smoothed n times, their colours, and the tests that they take at most
abbrev pub scene_pixels : ℕ → Scene → Reach → ℕ → List (List ℕ)
scene_pixels n scene reaches row = smoothed_pixels n reaches scene.pens (shapes_in scene.shapes) scene.page scene.dots row

abbrev pub smooth_row : ℕ → Scene → Reach → ℕ → List ℕ
smooth_row n scene reaches row = flat_map (λ pixel. pixel) (scene_pixels n scene reaches row)

abbrev pub smooth_boxes : ℕ → Scene → ℕ
smooth_boxes n scene = finer_boxes n scene.pens scene.shapes.strokes.now scene.page scene.dots 0

-- each selected stroke is a shade of grey
abbrev pub AreGrey : PenSet → List Segment → Type 0
AreGrey pens strokes = (k : ℕ) (s : Segment) → k < length strokes → has_pen pens (get_or strokes k s).pen ≡ true →
    ((get_or strokes k s).colour.green ≡ (get_or strokes k s).colour.red) × ((get_or strokes k s).colour.blue ≡ (get_or strokes k s).colour.red)
