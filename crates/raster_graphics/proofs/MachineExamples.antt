-- Images that requests make, with their rows.
use Rattle.std.proofs.Common.{◌≡◌, ℕ, ℤ, pos, negsuc, true, false, List, [], ◌∷◌, map, Some, None, Result, Ok, Err, refl}
use Rattle.image_rows.specs.declared.compression.Compression.TheVariants.{PackBits, DeltaRow}
use Rattle.image_rows.specs.Changes.{changes_by}
use Rattle.image_rows.specs.Rows.{changed, breaks_off_from}
use Rattle.raster_requests.specs.declared.image.Coding.TheVariants.{CyanMagentaYellow}
use Rattle.raster_requests.specs.declared.image.Corner.TheVariants.{AtMargin, AtPlace}
use Rattle.raster_requests.specs.declared.image.ImageSetting.TheVariants.{Resolution, Width, Height, Coding, OutOfRange}
use Rattle.raster_requests.specs.declared.place.Axis.TheVariants.{AlongRow, AcrossRows}
use Rattle.raster_requests.specs.declared.place.PlaceUnit.TheVariants as unit
use Rattle.raster_requests.specs.declared.request.Request.{Request}
use Rattle.raster_requests.specs.declared.request.Request.TheVariants.{Set, Start, End, EndAndReset, Compress, MoveRows, Plane, LastPlane, Place}
use Rattle.raster_graphics.specs.declared.fault.Answer.{Answer}
use Rattle.raster_graphics.specs.declared.fault.Answer.TheVariants.{Done, Bad, Skipped}
use Rattle.raster_graphics.specs.declared.fault.Fault.{Fault}
use Rattle.raster_graphics.specs.declared.fault.Fault.TheVariants.{TooFar}
use Rattle.raster_graphics.specs.declared.image.Image.{Image}
use Rattle.raster_graphics.specs.declared.machine.Machine.{Machine}
use Rattle.raster_graphics.specs.Lengths.{longest}
use Rattle.raster_graphics.specs.Rows.{and_then, filled}
use Rattle.raster_graphics.specs.Machines.{start, obeyed}

-- a command, with its data
record Asked : Type 0 where
  request : Request
  input : List ℕ

asked : Request → List ℕ → Asked
asked request input = record { request = request; input = input }

-- the machine after all of them, and their answers
run : List Asked → Machine → Result (Machine × List Answer) Fault
run [] m = Ok (m, [])
run (first ∷ more) m = and_then (obeyed first.request first.input m) (λ r. and_then (run more r.0) (λ q. Ok (q.0, r.1 ∷ q.1)))

-- what is shown of an image: its corner, its width, the numbers of its rows, and their planes
record Shown : Type 0 where
  x : ℤ
  y : ℤ
  width : ℕ
  numbers : List ℕ
  planes : List (List ℕ)

shown : Image → Shown
shown image = record { x = image.corner.x; y = image.corner.y; width = image.width; numbers = image.numbers; planes = image.planes }

-- of the machine: where its place is, and its images
told : Result (Machine × List Answer) Fault → Result (ℤ × ℤ × List Shown × List Answer) Fault
told (Err fault) = Err fault
told (Ok r) = Ok (r.0.place.x, r.0.place.y, map shown r.0.images, r.1)

made : List Asked → Result (ℤ × ℤ × List Shown × List Answer) Fault
made requests = told (run requests start)

-- 127 dots to the inch: a dot is 8 plotter units, or 128 grains
dots : Asked
dots = asked (Set (Resolution 127)) []

-- one dot, in a row of a byte
one_dot : made (dots ∷ asked (Start (Some AtPlace)) [] ∷ asked LastPlane (128 ∷ []) ∷ asked End [] ∷ [])
    ≡ Ok (
      pos 128,
      pos 0,
      record { x = pos 0; y = pos 0; width = 8; numbers = 0 ∷ []; planes = (128 ∷ []) ∷ [] } ∷ [],
      Done ∷ Done
          ∷ Done ∷ Done ∷ [],
    )
unfolding made told run asked dots shown changes_by changed breaks_off_from filled longest
one_dot = refl

image : ℤ → ℤ → ℕ → List ℕ → List (List ℕ) → Shown
image x y width numbers planes = record { x = x; y = y; width = width; numbers = numbers; planes = planes }

-- 72 and 36 of 720ths of an inch: 1625.6 and 812.8 grains. Data without a start begin at the margin.
along : ℤ → Asked
along n = asked (Place (record { axis = AlongRow; unit = unit.Decipoint; is_relative = false; millionths = n })) []

across : ℤ → Asked
across n = asked (Place (record { axis = AcrossRows; unit = unit.Decipoint; is_relative = false; millionths = n })) []

at_a_place : made (dots ∷ along (pos 72000000) ∷ across (pos 36000000) ∷ asked (Start (Some AtPlace)) [] ∷ asked LastPlane (128 ∷ [])
    ∷ asked End []
    ∷ asked LastPlane (1 ∷ []) ∷ asked End [] ∷ [])
    ≡ Ok (
      pos 1069,
      pos 0,
      image (pos 813) (pos 1626) 8 (0 ∷ []) ((128 ∷ []) ∷ []) ∷ image (pos 941) (pos 0) 8 (0 ∷ []) ((1 ∷ [])
          ∷ []) ∷ [],
      Done ∷ Done ∷ Done ∷ Done ∷ Done ∷ Done ∷ Done ∷ Done ∷ [],
    )
unfolding made told run asked dots along across image shown changes_by changed breaks_off_from filled longest
at_a_place = refl

-- a move of the place closes the image, and goes on from its next row: -9 of 300ths of an inch are 487.68 grains
moved_on : made (dots ∷ asked LastPlane (128 ∷ [])
    ∷ asked (Place (record { axis = AcrossRows; unit = unit.Unit; is_relative = true; millionths = negsuc 8999999 })) [] ∷ [])
    ≡ Ok (negsuc 359, pos 0, image (pos 0) (pos 0) 8 (0 ∷ []) ((128 ∷ []) ∷ []) ∷ [], Done ∷ Done ∷ Done ∷ [])
unfolding made told run asked dots image shown changes_by changed breaks_off_from filled longest
moved_on = refl

-- no place so far away
too_far : made (across (pos 200000000000000) ∷ []) ≡ Err TooFar
unfolding made told run asked across
too_far = refl

-- three planes, of which the second row has one, and that changes nothing; the third has too many
planes_of_rows : made (asked (Set (Coding CyanMagentaYellow)) [] ∷ asked (Set (Width (Some 8))) [] ∷ asked Plane (128 ∷ [])
    ∷ asked LastPlane (64 ∷ 7 ∷ []) ∷ asked (Compress (Some DeltaRow)) []
    ∷ asked LastPlane [] ∷ asked Plane (0 ∷ 1 ∷ []) ∷ asked Plane (0 ∷ 2 ∷ []) ∷ asked Plane (0 ∷ 3 ∷ []) ∷ asked LastPlane (0 ∷ 4
    ∷ []) ∷ asked End [] ∷ [])
    ≡ Ok (
      pos 163,
      pos 0,
      image (pos 0) (pos 0) 8 (0 ∷ 1 ∷ 2 ∷ []) ((128 ∷ []) ∷ (64 ∷ []) ∷ (0 ∷ []) ∷ (128 ∷ []) ∷ (64 ∷ [])
          ∷ (0 ∷ []) ∷ (1 ∷ []) ∷ (2 ∷ []) ∷ (3 ∷ []) ∷ []) ∷ [],
      Done ∷ Done ∷ Done ∷ Done ∷ Done ∷ Done ∷ Done ∷ Done ∷ Done ∷ Done ∷ Done ∷ [],
    )
unfolding made told run asked image shown changes_by changed breaks_off_from filled longest
planes_of_rows = refl

-- after a move the seeds are empty; a row of another compression is moved over, and so is none beyond the height of five
rows_moved : made (dots ∷ asked (Set (Height (Some 5))) [] ∷ asked LastPlane (128 ∷ []) ∷ asked (MoveRows 1) []
    ∷ asked (Compress (Some DeltaRow)) [] ∷ asked LastPlane (1 ∷ 9 ∷ [])
    ∷ asked (Compress None) [] ∷ asked LastPlane (255 ∷ []) ∷ asked (Compress (Some PackBits)) [] ∷ asked LastPlane (3 ∷ 7 ∷ [])
    ∷ asked LastPlane (0 ∷ 1 ∷ []) ∷ asked (MoveRows 9) [] ∷ asked End [] ∷ [])
    ≡ Ok (
      pos 640,
      pos 0,
      image (pos 0) (pos 0) 16 (0 ∷ 2 ∷ 4 ∷ []) ((128 ∷ []) ∷ (0 ∷ 9 ∷ []) ∷ (7 ∷ []) ∷ []) ∷ [],
      Done ∷ Done ∷ Done ∷ Done ∷ Done ∷ Done ∷ Skipped ∷ Done ∷ Done ∷ Bad ∷ Done ∷ Done ∷ Done ∷ [],
    )
unfolding made told run asked dots image shown changes_by changed breaks_off_from filled longest
rows_moved = refl

-- settings after data are passed over, also bad ones; an image without a row is none
settings_after_data : made (dots ∷ asked (Start (Some AtPlace)) [] ∷ asked (Set OutOfRange) [] ∷ asked LastPlane (128 ∷ [])
    ∷ asked (Set OutOfRange) [] ∷ asked (Set (Resolution 10)) [] ∷ asked LastPlane (64 ∷ [])
    ∷ asked EndAndReset [] ∷ asked (Start (Some AtMargin)) [] ∷ asked Plane (1 ∷ []) ∷ asked End [] ∷ [])
    ≡ Ok (
      pos 256,
      pos 0,
      image (pos 0) (pos 0) 8 (0 ∷ 1 ∷ []) ((128 ∷ []) ∷ (64 ∷ []) ∷ []) ∷ [],
      Done ∷ Done ∷ Bad ∷ Done ∷ Done ∷ Done ∷ Done ∷ Done ∷ Done ∷ Done ∷ Done ∷ [],
    )
unfolding made told run asked dots image shown changes_by changed breaks_off_from filled longest
settings_after_data = refl
