-- Cells of pixels with images: the ink of each cell, and what forms without colours show of images.
use Rattle.std.specs.Prelude.{ℕ, ◌+◌, ◌-◌, ◌*◌, ◌/◌, ◌%◌, ◌^◌, Bool, ◌&&◌, nat_le, if◌then◌else◌, List, length, get_or, map}
use Rattle.std.specs.List.{range_with_len}
use Rattle.plot_page.specs.Segments.{Segment}
use Rattle.plot_page.specs.declared.dots.Dots.{Dots}
use Rattle.plot_page.specs.declared.page.Page.{Page}
use Rattle.page_images.specs.PageImages.{ImageShape}
use Rattle.image_raster.specs.Cells.{cell_with_all, is_mark}
use Rattle.picture_out.specs.declared.form.Form.{Form}
use Rattle.picture_out.specs.declared.form.Form.TheVariants.{Marks, Pbm, Ppm, Pcl}
use Rattle.picture_out.specs.declared.inks.Ink.{Ink}
use Rattle.picture_out.specs.Inks.{ink_at}
use Rattle.rows.specs.Pictures.{inks_of}

-- the cells of a row of pixels, from column 0 on, with images
abbrev pub with_images : List ImageShape → Page → Dots → ℕ → List ℕ → List ℕ
with_images images page dots row cells =
    map (λ column. cell_with_all images page dots row column (get_or cells column 0)) (range_with_len 0 (length cells))

-- the ink of a dot of an image: pen 0, and the colour whose mark the cell has
abbrev pub ink_of_mark : ℕ → Ink
ink_of_mark cell =
    let code = cell - 2 ^ 31 in
    record { pen = 0; red = code / 65536; green = code / 256 % 256; blue = code % 256 }

-- the ink of a cell that is not 0: that of a dot of an image, or of the stroke at the position
abbrev pub ink_with : List Segment → ℕ → Ink
ink_with strokes cell = if is_mark cell then ink_of_mark cell else ink_at (inks_of strokes) cell

-- the inks of cells from 1 on
unfoldable pub inks_up_to : ℕ → List Segment → List Ink
inks_up_to count strokes = map (ink_with strokes) (range_with_len 1 count)

-- the inks of all cells, up to the mark of white
abbrev pub inks_with : List Segment → List Ink
inks_with strokes = inks_up_to (2 ^ 31 + 2 ^ 24 - 1) strokes

-- a thousand times the luminance of a colour, from 0 for black to 255,000 for white
abbrev pub luminance : Ink → ℕ
luminance ink = 299 * ink.red + 587 * ink.green + 114 * ink.blue

-- the dots of images that are as paper where there are no colours
abbrev pub is_light : ℕ → Bool
is_light cell = is_mark cell && nat_le 128000 (luminance (ink_of_mark cell))

abbrev pub without_light : ℕ → ℕ
without_light cell = if is_light cell then 0 else cell

-- the cells of a row as a form shows them: PBM and PCL have no colours
abbrev pub inked : Form → List ℕ → List ℕ
inked Marks cells = cells
inked Pbm cells = map without_light cells
inked Ppm cells = cells
inked Pcl cells = map without_light cells
