-- Images: open ones, for which rows come, and those that are done.
use Rattle.std.specs.Prelude.{ℕ, ◌+◌, ◌*◌, max, Bool, true, false, ◌||◌, ℤ, pos, ◌+ℤ◌, ◌*ℤ◌, int_lt, List, [], ◌∷◌, ◌++◌, Option, Some, None}
use Rattle.image_colours.specs.Counts.{dots_in}
use Rattle.raster_graphics.specs.declared.place.Place.{Place}
use Rattle.raster_graphics.specs.declared.place.TheConstants.{GRAINS, FARTHEST}
use Rattle.raster_graphics.specs.declared.settings.Settings.{Settings}
use Rattle.raster_graphics.specs.declared.image.Image.{Image}
use Rattle.raster_graphics.specs.declared.open_image.OpenImage.{OpenImage}
use Rattle.raster_graphics.specs.Places.{coordinate, row_offset}
use Rattle.raster_graphics.specs.Lengths.{longest}

-- an image that begins at a corner
abbrev pub opened : Place → OpenImage
opened corner = record { corner = corner; next = 0; settings = None; longest = 0; numbers = []; planes = []; seeds = [] }

-- what holds for an image: what was set when its first data came, or else what is set now
abbrev pub settings_of : OpenImage → Settings → Settings
settings_of image now = elim image.settings [ None ↦ now | Some settings ↦ settings ]

-- an image whose first data come
abbrev pub settled : Settings → OpenImage → OpenImage
settled now image = record image { settings = Some (settings_of image now) }

-- an image has had data
abbrev pub has_data : OpenImage → Bool
has_data image = elim image.settings [ None ↦ false | Some settings ↦ true ]

-- where the next row would begin, if that is in range
abbrev pub with_x : Place → Option ℤ → Option Place
with_x place None = None
with_x place (Some x) = Some (record place { x = x })

abbrev pub next_begin : Settings → OpenImage → Option Place
next_begin settings image = with_x image.corner (coordinate (image.corner.x +ℤ pos (row_offset settings.resolution image.next)))

-- the dots of a row: its width, or those of the longest plane
abbrev pub width_of : Settings → ℕ → ℕ
width_of settings bytes = elim settings.width [ None ↦ dots_in settings.coding bytes | Some width ↦ width ]

-- a coordinate and so many dots lie beyond the farthest place
abbrev pub is_beyond : ℕ → ℤ → ℕ → Bool
is_beyond resolution from dots = int_lt (FARTHEST *ℤ pos resolution) (from *ℤ pos resolution +ℤ pos (GRAINS * dots))

-- the corner of an image that is farthest from its first one is out of range
abbrev pub is_far : Settings → OpenImage → Bool
is_far settings image =
    is_beyond settings.resolution image.corner.x image.next
    || is_beyond settings.resolution image.corner.y (width_of settings image.longest)

-- an image with one row more
abbrev pub with_row : List (List ℕ) → OpenImage → OpenImage
with_row planes image = record image {
  next = image.next + 1;
  longest = max image.longest (longest planes);
  numbers = image.numbers ++ image.next ∷ [];
  planes = image.planes ++ planes;
  seeds = planes;
}

-- an image with rows that have no dots up to this one
abbrev pub moved_to : ℕ → OpenImage → OpenImage
moved_to next image = record image { next = next; seeds = [] }

-- the image that is done, if it has a row
abbrev pub image_of : Settings → OpenImage → Image
image_of settings image =
    record {
      corner = image.corner;
      settings = settings;
      width = width_of settings image.longest;
      numbers = image.numbers;
      planes = image.planes;
    }

abbrev pub done_images : Settings → OpenImage → List Image → List Image
done_images settings image images = elim image.numbers [ [] ↦ images | _ ∷ _ ↦ images ++ image_of settings image ∷ [] ]
