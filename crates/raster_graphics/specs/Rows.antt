-- Rows of an image that is open: planes come one after another, each on its seed.
use Rattle.std.specs.Prelude.{ℕ, zero, suc, ◌-◌, nat_lt, nat_le, Bool, ◌&&◌, not, List, [], ◌∷◌, ◌++◌, length, Result, Ok, Err, if◌then◌else◌}
use Rattle.std.specs.List.{slice_index_or}
use Rattle.image_rows.specs.declared.compression.Compression.{Compression}
use Rattle.image_rows.specs.declared.compression.RowLength.{RowLength}
use Rattle.image_rows.specs.declared.compression.RowLength.TheVariants.{Fixed, UpTo}
use Rattle.image_rows.specs.Rows.{whole_row, row_of, is_too_long, breaks_off}
use Rattle.image_colours.specs.Counts.{plane_count}
use Rattle.raster_graphics.specs.declared.fault.Fault.{Fault}
use Rattle.raster_graphics.specs.declared.fault.Fault.TheVariants.{TooMuch}
use Rattle.raster_graphics.specs.declared.settings.Settings.{Settings}
use Rattle.raster_graphics.specs.declared.line.Line.{Line}
use Rattle.raster_graphics.specs.Settings.{plane_size}

-- how data become planes: what is set for the image, their compression, and the seeds, which are the planes of the row before
pub record Sending : Type 0 where
  pub settings : Settings
  pub compression : Compression
  pub seeds : List (List ℕ)

-- a row has all of its planes
abbrev pub is_full : Settings → List (List ℕ) → Bool
is_full settings planes = nat_le (plane_count settings.coding) (length planes)

-- there is no room for a plane of this size that would be such a row
abbrev pub is_too_much : RowLength → ℕ → List ℕ → Bool
is_too_much (Fixed width) room row = nat_lt room width
is_too_much (UpTo most) room row = is_too_long (UpTo most) row

-- the plane that data make, as the next one of a row
abbrev pub plane_of : Sending → List ℕ → Line → List ℕ
plane_of sending input line =
    row_of (plane_size sending.settings line.room) sending.compression (slice_index_or sending.seeds (length line.planes) []) input

-- one plane more; in a full row it is dropped
abbrev pub next_plane : Sending → List ℕ → Line → Result Line Fault
next_plane sending input line =
    if is_full sending.settings line.planes then Ok line else
    if is_too_much (plane_size sending.settings line.room) line.room
    (whole_row sending.compression (slice_index_or sending.seeds (length line.planes) []) input) then Err TooMuch else
    Ok (record {
      planes = line.planes ++ plane_of sending input line ∷ [];
      room = line.room - length (plane_of sending input line);
    })

-- the data of a plane break off
abbrev pub breaks : Sending → List ℕ → Line → Bool
breaks sending input line =
    not (is_full sending.settings line.planes) && breaks_off (plane_size sending.settings line.room) sending.compression input

-- what follows, unless a fault does
abbrev pub and_then : {A B : Type 0} → Result A Fault → (A → Result B Fault) → Result B Fault
and_then (Ok value) next = next value
and_then (Err fault) next = Err fault

-- planes that are not sent are sent with no data; there are at most n
unfoldable pub filled : ℕ → Sending → Line → Result Line Fault
filled zero sending line = Ok line
filled (suc n) sending line = and_then (next_plane sending [] line) (filled n sending)

-- a row with its last plane
abbrev pub whole_line : Sending → List ℕ → Line → Result Line Fault
whole_line sending input line = and_then (next_plane sending input line) (filled (plane_count sending.settings.coding) sending)
