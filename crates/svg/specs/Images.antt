-- The images of an SVG document: a PNG for each tile. SVG 1.1, 5.1, 5.7, 7.6 and 7.9.
use Rattle.std.specs.Prelude.{ℕ, ◌+◌, ◌*◌, ◌/◌, List, [], ◌++◌, flat_map, get_or, if◌then◌else◌, codes, decimal}
use Rattle.std.specs.Fmt.{signed_decimal}
use Rattle.directions.specs.declared.turn.Turn.{Turn}
use Rattle.directions.specs.declared.turn.Turn.TheVariants as turn
use Rattle.image_data.specs.Base64.{base64}
use Rattle.image_data.specs.Pngs.{png}
use Rattle.image_data.specs.Tiles.{tiles}
use Rattle.image_data.specs.declared.tile.Tile.{Tile}
use Rattle.page_images.specs.PageImages.{ImageShape}
use Rattle.plot_page.specs.declared.page.Page.{Page}
use Rattle.raster_graphics.specs.declared.image.Image.{Image}
use Rattle.raster_graphics.specs.declared.place.TheConstants.{GRAINS}
use Rattle.stroke_runs.specs.Drawn.{has_place}
use Rattle.svg.specs.declared.places.Rectangle.{Rectangle}
use Rattle.svg.specs.Commands.{pair_text}
use Rattle.svg.specs.Places.{rectangle_of, start_of}

-- how many billionths of a grain a dot is wide, rounded to the nearest
abbrev pub dot_size : ℕ → ℕ
dot_size density = (2 * (GRAINS * 1000000000) + density) / (2 * density)

-- the same in grains
abbrev pub scale : ℕ → List ℕ
scale density = decimal (dot_size density) ++ codes "e-9"

-- the first four numbers of a matrix are zeros, and the size of a dot with a sign: what stands before it, between the two, and
-- after them. Without a turn the dots of a row go upward, and the rows to the right; a turn is counterclockwise
abbrev pub before_scale : Turn → List ℕ
before_scale turn.None = codes "0 -"
before_scale turn.Quarter = codes "-"
before_scale turn.Half = codes "0 "
before_scale turn.ThreeQuarters = codes ""

abbrev pub between_scales : Turn → List ℕ
between_scales turn.None = codes " "
between_scales turn.Quarter = codes " 0 0 -"
between_scales turn.Half = codes " -"
between_scales turn.ThreeQuarters = codes " 0 0 "

abbrev pub after_scale : Turn → List ℕ
after_scale turn.None = codes " 0 "
after_scale turn.Quarter = codes " "
after_scale turn.Half = codes " 0 "
after_scale turn.ThreeQuarters = codes " "

-- from dots, along a row and across rows, to the grains of the document
abbrev pub matrix_text : Page → ImageShape → List ℕ
matrix_text page i =
    let size = scale i.image.settings.resolution in
    before_scale i.turn ++ size ++ between_scales i.turn ++ size ++ after_scale i.turn ++ pair_text (start_of page i.frame)

-- what is seen of an image: what lies in its window
abbrev pub view_text : Rectangle → List ℕ
view_text r =
    codes "<svg x=\"" ++ signed_decimal r.x ++ codes "\" y=\"" ++ signed_decimal r.y ++ codes "\" width=\""
    ++ signed_decimal r.width ++ codes "\" height=\"" ++ signed_decimal r.height ++ codes "\" viewBox=\""
    ++ signed_decimal r.x ++ codes " " ++ signed_decimal r.y ++ codes " " ++ signed_decimal r.width ++ codes " "
    ++ signed_decimal r.height ++ codes "\">\n"

-- where a tile lies in its image, in dots
abbrev pub tile_start : Image → Tile → List ℕ
tile_start image tile =
    codes "<image x=\"" ++ decimal tile.column ++ codes "\" y=\"" ++ decimal (get_or image.numbers tile.position 0)
    ++ codes "\" width=\"" ++ decimal tile.columns ++ codes "\" height=\"" ++ decimal tile.rows
    ++ codes "\" preserveAspectRatio=\"none\" image-rendering=\"pixelated\" xmlns:xlink=\"http://www.w3.org/1999/xlink\" xlink:href=\"data:image/png;base64,"

-- a tile as an element
abbrev pub tile_text : Image → Tile → List ℕ
tile_text image tile = tile_start image tile ++ base64 (png image tile) ++ codes "\"/>\n"

-- an image as a group of its tiles
unfoldable pub group_text : Page → ImageShape → List ℕ
group_text page i =
    view_text (rectangle_of page i.frame.window) ++ codes "<g transform=\"matrix(" ++ matrix_text page i ++ codes ")\">\n"
    ++ flat_map (tile_text i.image) (tiles i.image) ++ codes "</g></svg>\n"

-- an image, unless its window holds no place
abbrev pub image_text : Page → ImageShape → List ℕ
image_text page i = if has_place i.frame.window then group_text page i else []
