-- The machine: what is set, the image for which rows come, and the images that are done. HP RTL, "Raster Graphics".
use Rattle.std.specs.Prelude.{ℕ, ◌+◌, ◌-◌, ◌^◌, min, nat_le, Bool, false, ℤ, pos, negsuc, List, [], Option, Some, None, is_some, Result, Ok, Err, if◌then◌else◌}
use Rattle.image_rows.specs.declared.compression.Compression.{Compression}
use Rattle.image_rows.specs.declared.compression.Compression.TheVariants.{Unencoded}
use Rattle.image_rows.specs.declared.ending.Ending.{Ending}
use Rattle.image_rows.specs.declared.ending.Ending.TheVariants.{Whole, Broken}
use Rattle.image_rows.specs.Endings.{ending_of}
use Rattle.image_colours.specs.declared.palette.Parts.{Parts}
use Rattle.image_colours.specs.Palettes.{has_entry, with_entry}
use Rattle.raster_graphics.specs.declared.fault.Answer.{Answer}
use Rattle.raster_graphics.specs.declared.fault.Answer.TheVariants.{Done, Bad, Skipped}
use Rattle.raster_graphics.specs.declared.fault.Fault.{Fault}
use Rattle.raster_graphics.specs.declared.fault.Fault.TheVariants.{TooFar}
use Rattle.raster_graphics.specs.declared.place.Place.{Place}
use Rattle.raster_requests.specs.declared.image.ImageSetting.{ImageSetting}
use Rattle.raster_requests.specs.declared.image.Corner.{Corner}
use Rattle.raster_requests.specs.declared.image.Corner.TheVariants.{AtMargin, AtPlace}
use Rattle.raster_requests.specs.declared.image.Primary.{Primary}
use Rattle.raster_requests.specs.declared.image.Primary.TheVariants.{First, Second, Third}
use Rattle.raster_requests.specs.declared.place.PlaceChange.{PlaceChange}
use Rattle.raster_requests.specs.declared.request.Request.{Request}
use Rattle.raster_requests.specs.declared.request.Request.TheVariants as request
use Rattle.raster_requests.specs.declared.request.Request.TheVariants.{Set, Start, End, EndAndReset, Compress, MoveRows, Plane, LastPlane, PalettePart, PaletteEntry, Unit, Enter, Reset, EndPage, Nothing}
use Rattle.raster_graphics.specs.declared.settings.Settings.{Settings}
use Rattle.raster_graphics.specs.declared.line.Line.{Line}
use Rattle.raster_graphics.specs.declared.open_image.OpenImage.{OpenImage}
use Rattle.raster_graphics.specs.declared.machine.Machine.{Machine}
use Rattle.raster_graphics.specs.declared.machine.TheConstants.{MOST_BYTES}
use Rattle.raster_graphics.specs.Places.{density_from, after_change}
use Rattle.raster_graphics.specs.Settings.{start_settings, with_setting, is_past, advanced}
use Rattle.raster_graphics.specs.Rows.{Sending, next_plane, breaks, whole_line}
use Rattle.raster_graphics.specs.Images.{opened, settings_of, settled, has_data, next_begin, is_far, with_row, moved_to, done_images}

-- the page's lower left corner
abbrev pub origin : Place
origin = record { x = pos 0; y = pos 0 }

abbrev pub no_parts : Parts
no_parts = record { first = 0; second = 0; third = 0 }

-- the machine at the start
abbrev pub start : Machine
start = record {
  place = origin;
  unit = 300;
  settings = start_settings;
  compression = Some Unencoded;
  parts = no_parts;
  image = None;
  line = record { planes = []; room = MOST_BYTES };
  images = [];
}

-- what a request leads to: the machine after it, and what it did; or a fault
abbrev pub Step : Type 0
Step = Result (Machine × Answer) Fault

abbrev pub done : Machine → Step
done m = Ok (m, Done)

abbrev pub bad : Machine → Step
bad m = Ok (m, Bad)

-- no planes of a row have come
abbrev pub no_planes : Line → Line
no_planes line = record line { planes = [] }

-- the image ends: it is done, and the place is where its next row would begin
abbrev pub ending_at : Settings → OpenImage → Machine → Option Place → Result Machine Fault
ending_at settings image m None = Err TooFar
ending_at settings image m (Some place) =
    Ok (record m { place = place; image = None; line = no_planes m.line; images = done_images settings image m.images })

abbrev pub ended : OpenImage → Machine → Result Machine Fault
ended image m = ending_at (settings_of image m.settings) image m (next_begin (settings_of image m.settings) image)

abbrev pub closed : Machine → Result Machine Fault
closed m = elim m.image [ None ↦ Ok m | Some image ↦ ended image m ]

-- a setting of a whole image: once it has data it is passed over, whatever it asks for
abbrev pub is_settled : Option OpenImage → Bool
is_settled None = false
is_settled (Some image) = has_data image

abbrev pub set_or_bad : Machine → Option Settings → Step
set_or_bad m None = bad m
set_or_bad m (Some settings) = done (record m { settings = settings })

abbrev pub set : ImageSetting → List ℕ → Machine → Step
set setting input m = if is_settled m.image then done m else set_or_bad m (with_setting setting input m.settings)

-- an image begins, if none is open
abbrev pub corner_of : Corner → Place → Place
corner_of AtMargin place = record place { y = pos 0 }
corner_of AtPlace place = place

abbrev pub image_at : Corner → Machine → OpenImage
image_at corner m = elim m.image [ None ↦ opened (corner_of corner m.place) | Some image ↦ image ]

abbrev pub started : Corner → Machine → Machine
started corner m = record m { image = Some (image_at corner m) }

-- the begin of an image; one that has no corner is bad, unless an image is open
abbrev pub begun : Option Corner → Machine → Step
begun None m = if is_some m.image then done m else bad m
begun (Some corner) m = done (started corner m)

-- data come: without a start at the margin, and from then on what is set holds for the image
abbrev pub with_data : Machine → OpenImage
with_data m = settled m.settings (image_at AtMargin m)

-- rows without dots
abbrev pub moved_in : Machine → OpenImage → Option Place → Step
moved_in m image None = Err TooFar
moved_in m image (Some place) = done (record m { image = Some image; line = no_planes m.line })

abbrev pub moved_by : ℕ → Settings → OpenImage → Machine → Step
moved_by rows settings image m =
    let next = advanced settings image.next rows in
    if nat_le (2 ^ 32) next then Err TooFar else moved_in m (moved_to next image) (next_begin settings (moved_to next image))

abbrev pub rows_moved : ℕ → Machine → Step
rows_moved rows m = elim m.image [ None ↦ done m | Some image ↦ moved_by rows (settings_of image m.settings) image m ]

-- what data did, by how they end
abbrev pub answer_of : Ending → Answer
answer_of Whole = Done
answer_of Broken = Bad

abbrev pub sending_to : Settings → Compression → OpenImage → Sending
sending_to settings compression image = record { settings = settings; compression = compression; seeds = image.seeds }

-- a plane of a row
abbrev pub with_line : Machine → OpenImage → Ending → Result Line Fault → Step
with_line m image ending (Err fault) = Err fault
with_line m image ending (Ok line) = Ok (record m { image = Some image; line = line }, answer_of ending)

abbrev pub plane_in : Sending → List ℕ → OpenImage → Machine → Step
plane_in sending input image m = with_line m image (ending_of (breaks sending input m.line)) (next_plane sending input m.line)

-- planes without a known compression are passed over, as are those beyond the height
abbrev pub unmoved : OpenImage → Machine → Step
unmoved image m = done (record m { image = Some image })

abbrev pub plane_of : List ℕ → Settings → OpenImage → Machine → Step
plane_of input settings image m =
    elim m.compression [
      | None ↦ unmoved image m
      | Some compression ↦ if is_past settings image.next then unmoved image m
          else plane_in (sending_to settings compression image) input image m
    ]

abbrev pub plane : List ℕ → Machine → Step
plane input m = plane_of input (settings_of (with_data m) m.settings) (with_data m) m

-- a row with all of its planes is added to its image
abbrev pub in_reach : Machine → Settings → OpenImage → Ending → Step
in_reach m settings image ending =
    if is_far settings image then Err TooFar else Ok (record m { image = Some image; line = no_planes m.line }, answer_of ending)

abbrev pub row_added : Settings → OpenImage → Ending → Machine → Step
row_added settings image ending m =
    if nat_le (2 ^ 32) (image.next + 1) then Err TooFar else in_reach m settings (with_row m.line.planes image) ending

-- the last plane of a row
abbrev pub with_whole_line : Machine → Settings → OpenImage → Ending → Result Line Fault → Step
with_whole_line m settings image ending (Err fault) = Err fault
with_whole_line m settings image ending (Ok line) = row_added settings image ending (record m { line = line })

abbrev pub row_in : Sending → List ℕ → OpenImage → Machine → Step
row_in sending input image m =
    with_whole_line m sending.settings image (ending_of (breaks sending input m.line)) (whole_line sending input m.line)

abbrev pub row_of : List ℕ → Settings → OpenImage → Machine → Step
row_of input settings image m =
    elim m.compression [
      | None ↦ moved_by 1 settings image m
      | Some compression ↦ if is_past settings image.next then unmoved image m
          else row_in (sending_to settings compression image) input image m
    ]

abbrev pub last_plane : List ℕ → Machine → Step
last_plane input m = row_of input (settings_of (with_data m) m.settings) (with_data m) m

-- parts of the next entry of a palette
abbrev pub part_of : ℤ → ℕ
part_of (pos n) = min n (2 ^ 32 - 1)
part_of (negsuc n) = 0

abbrev pub with_part : Primary → ℕ → Parts → Parts
with_part First n parts = record parts { first = n }
with_part Second n parts = record parts { second = n }
with_part Third n parts = record parts { third = n }

abbrev pub part_set : Primary → ℤ → Machine → Machine
part_set primary n m = record m { parts = with_part primary (part_of n) m.parts }

-- an entry gets its parts, and they are 0 again
abbrev pub with_colour : ℕ → Parts → Settings → Settings
with_colour n parts settings = record settings { palette = with_entry settings.coding n parts settings.palette }

abbrev pub entry_set : ℤ → Machine → Step
entry_set (negsuc n) m = bad m
entry_set (pos n) m =
    if has_entry m.settings.coding n
    then done (record m { settings = with_colour n m.parts m.settings; parts = no_parts })
    else bad m

-- how rows are compressed
abbrev pub compress : Option Compression → Machine → Step
compress None m = Ok (record m { compression = None }, Skipped)
compress (Some compression) m = done (record m { compression = Some compression })

-- a change of the place
abbrev pub at_place : Machine → Option Place → Step
at_place m None = Err TooFar
at_place m (Some place) = done (record m { place = place })

abbrev pub place_changed : PlaceChange → Machine → Step
place_changed change m = at_place m (after_change change m.unit m.place)

abbrev pub with_unit : Machine → Option ℕ → Step
with_unit m None = bad m
with_unit m (Some unit) = done (record m { unit = unit })

-- all is as at the start, but for the images that are done, and the room that they leave
abbrev pub reset : Machine → Machine
reset m = record start { images = m.images; line = record { planes = []; room = m.line.room } }

-- the image ends, and then this follows
abbrev pub after_close : Result Machine Fault → (Machine → Step) → Step
after_close (Err fault) next = Err fault
after_close (Ok m) next = next m

-- a request with its data
abbrev pub obeyed : Request → List ℕ → Machine → Step
obeyed (Set setting) input m = set setting input m
obeyed (Start corner) input m = begun corner m
obeyed End input m = after_close (closed m) done
obeyed EndAndReset input m = after_close (closed m) (λ n. done (record n { compression = Some Unencoded }))
obeyed (Compress compression) input m = compress compression m
obeyed (MoveRows rows) input m = rows_moved rows m
obeyed Plane input m = plane input m
obeyed LastPlane input m = last_plane input m
obeyed (PalettePart primary n) input m = done (part_set primary n m)
obeyed (PaletteEntry n) input m = entry_set n m
obeyed (request.Place change) input m = after_close (closed m) (place_changed change)
obeyed (Unit n) input m = with_unit m (density_from n)
obeyed (Enter language places) input m = after_close (closed m) done
obeyed Reset input m = after_close (closed m) (λ n. done (reset n))
obeyed EndPage input m = after_close (closed m) (λ n. done (record n { place = origin }))
obeyed Nothing input m = done m
obeyed request.Bad input m = bad m
obeyed request.Skipped input m = Ok (m, Skipped)
