-- What commands ask of the place of HP RTL, and of the language that is read.
use Rattle.std.specs.Prelude.{ℤ, pos, Bool, true, false, if◌then◌else◌}
use Rattle.std.specs.Ordering.{int_eq}
use Rattle.escapes.specs.declared.command.Sign.{Sign}
use Rattle.escapes.specs.declared.command.Sign.TheVariants.{Unsigned, Plus, Minus}
use Rattle.escapes.specs.Commands.{Said}
use Rattle.raster_requests.specs.declared.place.Axis.{Axis}
use Rattle.raster_requests.specs.declared.place.PlaceUnit.{PlaceUnit}
use Rattle.raster_requests.specs.declared.place.PlaceChange.{PlaceChange}
use Rattle.raster_requests.specs.declared.place.Places.{Places}
use Rattle.raster_requests.specs.declared.place.Places.TheVariants.{Kept, Carried}
use Rattle.raster_requests.specs.Values.{signed_value}

-- a value with a sign is added
abbrev pub is_relative : Sign → Bool
is_relative Unsigned = false
is_relative Plus = true
is_relative Minus = true

-- places are not rounded
abbrev pub place_change : Axis → PlaceUnit → Said → PlaceChange
place_change axis unit command = record {
  axis = axis;
  unit = unit;
  is_relative = is_relative command.sign;
  millionths = signed_value command;
}

-- ESC % A and B (Enter HP RTL Mode, Enter HP-GL/2 Mode): 1 carries places over
abbrev pub places_of : ℤ → Places
places_of n = if int_eq n (pos 1) then Carried else Kept
