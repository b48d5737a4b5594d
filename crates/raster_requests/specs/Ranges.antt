-- Which numbers a request may have.
use Rattle.std.specs.Prelude.{◌≤◌, ◌<◌, nat_abs, Some, ⊤}
use Rattle.escapes.specs.Commands.{value_limit}
use Rattle.raster_requests.specs.declared.image.TheConstants.{GREATEST_WIDTH}
use Rattle.raster_requests.specs.declared.image.ImageSetting.{ImageSetting}
use Rattle.raster_requests.specs.declared.image.ImageSetting.TheVariants.{Resolution, Width, Height}
use Rattle.raster_requests.specs.declared.request.Request.{Request}
use Rattle.raster_requests.specs.declared.request.Request.TheVariants.{Set, MoveRows, PalettePart, PaletteEntry, Place, Unit}

-- a setting's number is in its range
abbrev pub IsSettingInRange : ImageSetting → Type 0
IsSettingInRange (Resolution dots) = (10 ≤ dots) × (dots ≤ 2400)
IsSettingInRange (Width (Some dots)) = (1 ≤ dots) × (dots ≤ GREATEST_WIDTH)
IsSettingInRange (Height (Some rows)) = (1 ≤ rows) × (rows ≤ 2147483648)
IsSettingInRange _ = ⊤

-- a request's number is in its range
abbrev pub IsInRange : Request → Type 0
IsInRange (Set setting) = IsSettingInRange setting
IsInRange (MoveRows rows) = rows ≤ 2147483648
IsInRange (PalettePart _ part) = nat_abs part ≤ 2147483648
IsInRange (PaletteEntry entry) = nat_abs entry ≤ 2147483648
IsInRange (Place change) = nat_abs change.millionths < value_limit
IsInRange (Unit units) = (10 ≤ units) × (units ≤ 9600)
IsInRange _ = ⊤
