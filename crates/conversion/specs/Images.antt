-- The images of a sheet.
use Rattle.std.specs.Prelude.{ℕ, nat_eq, List, if◌then◌else◌}
use Rattle.full_plot.specs.Drawings.{sheet_images, sheet_start}
use Rattle.page_images.specs.PageImages.{ImageShape, all_counted}

-- the images of a sheet, which counts from 1, by the strokes of the sheet; those of all sheets for 0
abbrev pub images_of_sheet : List ImageShape → List ℕ → List ℕ → ℕ → ℕ → List ImageShape
images_of_sheet images image_ends ends count sheet =
    if nat_eq sheet 0 then images else all_counted (sheet_start ends count sheet) (sheet_images images image_ends sheet)
