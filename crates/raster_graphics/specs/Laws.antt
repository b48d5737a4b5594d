-- What holds of the machine.
use Rattle.std.specs.Prelude.{◌≡◌, ℕ, ◌+◌, ◌<◌, ◌≤◌, List, [], ◌∷◌, length, Option, Some, None, Ok, ⊤}
use Rattle.std.specs.List.{All}
use Rattle.raster_requests.specs.declared.request.Request.{Request}
use Rattle.raster_graphics.specs.declared.fault.Answer.{Answer}
use Rattle.raster_graphics.specs.declared.image.Image.{Image}
use Rattle.raster_graphics.specs.declared.open_image.OpenImage.{OpenImage}
use Rattle.raster_graphics.specs.declared.machine.Machine.{Machine}
use Rattle.raster_graphics.specs.declared.machine.TheConstants.{MOST_BYTES}
use Rattle.raster_graphics.specs.Positions.{Ascends}
use Rattle.raster_graphics.specs.Machines.{start, closed, obeyed}

-- how many bytes planes have
unfoldable pub bytes_of : List (List ℕ) → ℕ
bytes_of [] = 0
bytes_of (plane ∷ planes) = length plane + bytes_of planes

-- those of images
unfoldable pub image_bytes : List Image → ℕ
image_bytes [] = 0
image_bytes (image ∷ images) = bytes_of image.planes + image_bytes images

abbrev pub open_bytes : Option OpenImage → ℕ
open_bytes None = 0
open_bytes (Some image) = bytes_of image.planes

-- the bytes of all planes of a machine, with the room that is left
abbrev pub held : Machine → ℕ
held m = image_bytes m.images + open_bytes m.image + bytes_of m.line.planes + m.line.room

-- they are never more than those of all images may be
pub record PlanesHaveRoom : Type 0 where
  pub at_start : held start ≡ MOST_BYTES
  pub request : (request : Request) (input : List ℕ) (m n : Machine) (answer : Answer) → obeyed request input m ≡ Ok (n, answer)
      → held n ≤ held m
  pub close : (m n : Machine) → closed m ≡ Ok n → held n ≤ held m

-- the numbers of an image's rows ascend
abbrev pub RowsAscend : Image → Type 0
RowsAscend image = Ascends image.numbers

-- those of an open image also lie before the row that comes next
abbrev pub OpenAscends : Option OpenImage → Type 0
OpenAscends None = ⊤
OpenAscends (Some image) = Ascends image.numbers × All (λ k. k < image.next) image.numbers

-- so it is of all images of a machine
pub record IsInOrder (m : Machine) : Type 0 where
  pub images : All RowsAscend m.images
  pub image : OpenAscends m.image

-- requests keep rows in order
pub record RowsStayInOrder : Type 0 where
  pub at_start : IsInOrder start
  pub request : (request : Request) (input : List ℕ) (m n : Machine) (answer : Answer) → obeyed request input m ≡ Ok (n, answer)
      → IsInOrder m → IsInOrder n
  pub close : (m n : Machine) → closed m ≡ Ok n → IsInOrder m → IsInOrder n
