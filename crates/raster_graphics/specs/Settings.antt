-- What is set for an image. HP RTL, "Raster Graphics".
use Rattle.std.specs.Prelude.{ℕ, ◌+◌, nat_le, min, max, Bool, true, false, List, Option, Some, None, option_map}
use Rattle.image_rows.specs.declared.compression.RowLength.{RowLength}
use Rattle.image_rows.specs.declared.compression.RowLength.TheVariants.{Fixed, UpTo}
use Rattle.image_colours.specs.declared.coding.Coding as colours
use Rattle.image_colours.specs.declared.coding.Coding.TheVariants.{Black, BlackAndCmy, DirectPlanes}
use Rattle.image_colours.specs.declared.coding.Space.TheVariants.{Rgb, Cmy}
use Rattle.raster_requests.specs.declared.image.Coding as requests
use Rattle.raster_requests.specs.declared.image.Coding.TheVariants as simple
use Rattle.raster_requests.specs.declared.image.Transparency as modes
use Rattle.raster_requests.specs.declared.image.Transparency.TheVariants.{Transparent, Opaque}
use Rattle.image_colours.specs.Counts.{plane_bytes}
use Rattle.image_colours.specs.Codings.{configured}
use Rattle.image_colours.specs.Palettes.{start}
use Rattle.raster_graphics.specs.Places.{density_from}
use Rattle.raster_graphics.specs.declared.settings.Settings.{Settings}
use Rattle.raster_requests.specs.declared.image.ImageSetting.{ImageSetting}
use Rattle.raster_requests.specs.declared.image.ImageSetting.TheVariants.{Resolution, Width, Height, Coding, Configuration, Transparency, OutOfRange}

-- at the start: 300 dots to the inch, black, transparent
abbrev pub start_settings : Settings
start_settings = record { resolution = 300; width = None; height = None; coding = Black; palette = start Black; is_opaque = false }

-- a coding begins with its palette
abbrev pub coded : Settings → colours.Coding → Settings
coded settings coding = record settings { coding = coding; palette = start coding }

-- the coding of a number of Simple Color
abbrev pub coding_of : requests.Coding → colours.Coding
coding_of simple.Black = Black
coding_of simple.RedGreenBlue = DirectPlanes Rgb
coding_of simple.CyanMagentaYellow = DirectPlanes Cmy
coding_of simple.BlackCyanMagentaYellow = BlackAndCmy

-- white dots hide what is below them
abbrev pub is_opaque : modes.Transparency → Bool
is_opaque Transparent = false
is_opaque Opaque = true

-- the settings with another, which may have data; none if it asks for what is not allowed
abbrev pub with_setting : ImageSetting → List ℕ → Settings → Option Settings
with_setting (Resolution n) input settings = option_map (λ r. record settings { resolution = r }) (density_from n)
with_setting (Width width) input settings = Some (record settings { width = width })
with_setting (Height height) input settings = Some (record settings { height = height })
with_setting (Coding colour) input settings = Some (coded settings (coding_of colour))
with_setting Configuration input settings = option_map (coded settings) (configured input)
with_setting (Transparency transparency) input settings = Some (record settings { is_opaque = is_opaque transparency })
with_setting OutOfRange input settings = None

-- how many bytes a plane of a row has: without a width at most those that there is room for
abbrev pub plane_size : Settings → ℕ → RowLength
plane_size settings room = elim settings.width [ None ↦ UpTo room | Some width ↦ Fixed (plane_bytes settings.coding width) ]

-- a row of this number lies beyond the height
abbrev pub is_past : Settings → ℕ → Bool
is_past settings row = elim settings.height [ None ↦ false | Some height ↦ nat_le height row ]

-- the row that comes after so many others: rows beyond the height do not count
abbrev pub advanced : Settings → ℕ → ℕ → ℕ
advanced settings row rows = elim settings.height [ None ↦ row + rows | Some height ↦ max row (min (row + rows) height) ]
