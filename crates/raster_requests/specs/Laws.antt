-- What holds of requests.
use Rattle.std.specs.Prelude.{◌≡◌, ℕ, ◌≤◌, ◌*◌, ◌^◌, ℤ, pos, ◌*ℤ◌, true, List, [], Some, ⊤}
use Rattle.hpgl_text.specs.Bytes.{byte}
use Rattle.escapes.specs.declared.command.Sign.TheVariants.{Unsigned}
use Rattle.escapes.specs.Commands.{Said, takes_data, count_of}
use Rattle.raster_requests.specs.declared.image.TheConstants.{GREATEST_WIDTH}
use Rattle.raster_requests.specs.declared.image.ImageSetting.TheVariants.{Resolution, Width, Height, Configuration}
use Rattle.raster_requests.specs.declared.request.Request.{Request}
use Rattle.raster_requests.specs.declared.request.Request.TheVariants.{Set, MoveRows, Plane, LastPlane, PaletteEntry, Place, Unit}
use Rattle.raster_requests.specs.Values.{signed_value, whole_value}
use Rattle.raster_requests.specs.Images.{rows_moved}
use Rattle.raster_requests.specs.Places.{is_relative}
use Rattle.raster_requests.specs.Requests.{request_of}

-- data do not change what a command asks
abbrev pub DataAreNotRead : Type 0
DataAreNotRead = (command : Said) (input : List ℕ) → request_of (record command { input = input }) ≡ request_of command

-- data follow a command
abbrev pub HasData : Said → Type 0
HasData command = takes_data command.group command.parameter command.letter ≡ true

-- a place has the value that is written; what is asked of data has data
abbrev pub IsAsWritten : Said → Request → Type 0
IsAsWritten command (Place change) =
    (change.millionths ≡ signed_value command) × (change.is_relative ≡ is_relative command.sign)
IsAsWritten command Plane = HasData command
IsAsWritten command LastPlane = HasData command
IsAsWritten command (Set Configuration) = HasData command
IsAsWritten command _ = ⊤

abbrev pub RequestsAreAsWritten : Type 0
RequestsAreAsWritten = (command : Said) → IsAsWritten command (request_of command)

-- a command with a whole value and no sign
abbrev pub whole_command : ℕ → ℕ → ℕ → ℕ → Said
whole_command group parameter letter n = record {
  group = Some group;
  parameter = Some parameter;
  sign = Unsigned;
  millionths = n * 10 ^ 6;
  letter = letter;
  input = [];
}

-- whole values in range are kept
pub record WholeValuesAreKept : Type 0 where
  pub whole : (command : Said) (n : ℤ) → signed_value command ≡ pos 1000000 *ℤ n → whole_value command ≡ n
  pub resolution : (n : ℕ) → 10 ≤ n → n ≤ 2400
      → request_of (whole_command (byte "*") (byte "t") (byte "R") n) ≡ Set (Resolution n)
  pub width : (n : ℕ) → 1 ≤ n → n ≤ GREATEST_WIDTH
      → request_of (whole_command (byte "*") (byte "r") (byte "S") n) ≡ Set (Width (Some n))
  pub height : (n : ℕ) → 1 ≤ n → request_of (whole_command (byte "*") (byte "r") (byte "T") n) ≡ Set (Height (Some n))
  pub rows : (n : ℕ) → request_of (whole_command (byte "*") (byte "b") (byte "Y") n) ≡ MoveRows n
  pub entry : (n : ℕ) → request_of (whole_command (byte "*") (byte "v") (byte "I") n) ≡ PaletteEntry (pos n)
  pub unit : (n : ℕ) → 10 ≤ n → n ≤ 9600
      → request_of (whole_command (byte "&") (byte "u") (byte "D") n) ≡ Unit n

-- the bytes of data of a command are its value rounded as every other one, and none below 0
abbrev pub DataAreRoundedAlike : Type 0
DataAreRoundedAlike = (command : Said) → count_of command.sign command.millionths ≡ rows_moved (whole_value command)
