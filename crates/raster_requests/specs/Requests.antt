-- What a command asks: a table by its group, the small letter after that, and its letter.
use Rattle.std.specs.Prelude.{ℕ, ℤ, pos, negsuc, nat_abs, ◌==◌, ◌||◌, Option, Some, None, if◌then◌else◌}
use Rattle.std.specs.Ordering.{int_eq}
use Rattle.exact.specs.Ranges.{is_between}
use Rattle.hpgl_text.specs.Bytes.{byte}
use Rattle.escapes.specs.Commands.{Said, is_byte}
use Rattle.raster_requests.specs.declared.image.Primary.TheVariants.{First, Second, Third}
use Rattle.raster_requests.specs.declared.image.ImageSetting.TheVariants.{Configuration}
use Rattle.raster_requests.specs.declared.place.Axis.TheVariants.{AlongRow, AcrossRows}
use Rattle.raster_requests.specs.declared.place.PlaceUnit.TheVariants.{Unit, Decipoint}
use Rattle.raster_requests.specs.declared.place.Language.TheVariants.{Rtl, Hpgl2}
use Rattle.raster_requests.specs.declared.request.Request.{Request}
use Rattle.raster_requests.specs.declared.request.Request.TheVariants as request
use Rattle.raster_requests.specs.Values.{whole_value}
use Rattle.raster_requests.specs.Images.{resolution_of, width_of, height_of, coding_of, transparency_of, corner_of, row_compression, rows_moved}
use Rattle.raster_requests.specs.Places.{place_change, places_of}

-- ESC E (Reset); the other bytes alone have no effect
abbrev pub asked_alone : ℕ → Request
asked_alone letter = if letter == byte "E" then request.Reset else request.Nothing

-- ESC %: changes of the language, and -12345X (Universal Exit Language)
abbrev pub asked_of_language : ℕ → ℤ → Request
asked_of_language letter n =
    if letter == byte "A" then request.Enter Rtl (places_of n) else
    if letter == byte "B" then request.Enter Hpgl2 (places_of n) else
    if letter == byte "X" then (if int_eq n (negsuc 12344) then request.Reset else request.Nothing) else
    request.Nothing

-- &a (Cursor Position, in decipoints)
abbrev pub asked_of_decipoints : ℕ → Said → Request
asked_of_decipoints letter command =
    if letter == byte "H" then request.Place (place_change AlongRow Decipoint command) else
    if letter == byte "V" then request.Place (place_change AcrossRows Decipoint command) else
    request.Nothing

-- &l 0 H (Eject Page)
abbrev pub asked_of_page : ℕ → ℤ → Request
asked_of_page letter n =
    if letter == byte "H" then (if int_eq n (pos 0) then request.EndPage else request.Nothing) else request.Nothing

-- &u D (Unit of Measure): 10 to 9600 to an inch, our choice
abbrev pub unit_of : ℤ → Request
unit_of n = if is_between (pos 10) (pos 9600) n then request.Unit (nat_abs n) else request.Bad

abbrev pub asked_of_unit : ℕ → ℤ → Request
asked_of_unit letter n = if letter == byte "D" then unit_of n else request.Nothing

-- &: what else PCL has there is of no effect
abbrev pub asked_of_pcl : Option ℕ → Said → Request
asked_of_pcl parameter command =
    if is_byte parameter (byte "a") then asked_of_decipoints command.letter command else
    if is_byte parameter (byte "l") then asked_of_page command.letter (whole_value command) else
    if is_byte parameter (byte "u") then asked_of_unit command.letter (whole_value command) else
    request.Nothing

-- *b: rows
abbrev pub asked_of_rows : ℕ → ℤ → Request
asked_of_rows letter n =
    if letter == byte "M" then request.Compress (row_compression n) else
    if letter == byte "V" then request.Plane else
    if letter == byte "W" then request.LastPlane else
    if letter == byte "Y" then request.MoveRows (rows_moved n) else
    request.Skipped

-- *p (Cursor Position, in units)
abbrev pub asked_of_place : ℕ → Said → Request
asked_of_place letter command =
    if letter == byte "X" then request.Place (place_change AlongRow Unit command) else
    if letter == byte "Y" then request.Place (place_change AcrossRows Unit command) else
    request.Skipped

-- *r: images; F, L and Q have no effect
abbrev pub asked_of_image : ℕ → ℤ → Request
asked_of_image letter n =
    if letter == byte "A" then request.Start (corner_of n) else
    if letter == byte "B" then request.End else
    if letter == byte "C" then request.EndAndReset else
    if letter == byte "S" then request.Set (width_of n) else
    if letter == byte "T" then request.Set (height_of n) else
    if letter == byte "U" then request.Set (coding_of n) else
    if letter == byte "F" || letter == byte "L" || letter == byte "Q" then request.Nothing else
    request.Skipped

-- *t: what else there is has no effect
abbrev pub asked_of_resolution : ℕ → ℤ → Request
asked_of_resolution letter n = if letter == byte "R" then request.Set (resolution_of n) else request.Nothing

-- *v: colours
abbrev pub asked_of_colours : ℕ → ℤ → Request
asked_of_colours letter n =
    if letter == byte "A" then request.PalettePart First n else
    if letter == byte "B" then request.PalettePart Second n else
    if letter == byte "C" then request.PalettePart Third n else
    if letter == byte "I" then request.PaletteEntry n else
    if letter == byte "N" then request.Set (transparency_of n) else
    if letter == byte "W" then request.Set Configuration else
    request.Skipped

-- *: *l (Logical Operation) and *o (Driver Configuration) have no effect
abbrev pub asked_of_raster : Option ℕ → Said → Request
asked_of_raster parameter command =
    if is_byte parameter (byte "b") then asked_of_rows command.letter (whole_value command) else
    if is_byte parameter (byte "p") then asked_of_place command.letter command else
    if is_byte parameter (byte "r") then asked_of_image command.letter (whole_value command) else
    if is_byte parameter (byte "t") then asked_of_resolution command.letter (whole_value command) else
    if is_byte parameter (byte "v") then asked_of_colours command.letter (whole_value command) else
    if is_byte parameter (byte "l") || is_byte parameter (byte "o") then request.Nothing else
    request.Skipped

-- fonts, the groups ( and ), have no effect; what is in no other group is skipped
abbrev pub asked_of : Option ℕ → Said → Request
asked_of None command = asked_alone command.letter
asked_of (Some group) command =
    if group == byte "%" then asked_of_language command.letter (whole_value command) else
    if group == byte "&" then asked_of_pcl command.parameter command else
    if group == byte "(" || group == byte ")" then request.Nothing else
    if group == byte "*" then asked_of_raster command.parameter command else
    request.Skipped

-- what a command asks
abbrev pub request_of : Said → Request
request_of command = asked_of command.group command
