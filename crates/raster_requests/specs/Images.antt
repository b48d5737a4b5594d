-- What commands ask of an image, by their rounded values. HP RTL, "Raster Graphics"; the commands are named as there.
use Rattle.std.specs.Prelude.{ℕ, ℤ, pos, negsuc, nat_abs, min, int_lt, ◌||◌, Option, Some, None, option_map, if◌then◌else◌}
use Rattle.std.specs.Ordering.{int_eq}
use Rattle.exact.specs.Ranges.{is_between}
use Rattle.image_rows.specs.declared.compression.Compression.{Compression}
use Rattle.image_rows.specs.Compressions.{compression_of}
use Rattle.raster_requests.specs.declared.image.TheConstants.{GREATEST_WIDTH}
use Rattle.raster_requests.specs.declared.image.ImageSetting.{ImageSetting}
use Rattle.raster_requests.specs.declared.image.ImageSetting.TheVariants as setting
use Rattle.raster_requests.specs.declared.image.Coding.TheVariants as planes
use Rattle.raster_requests.specs.declared.image.Transparency.TheVariants as white
use Rattle.raster_requests.specs.declared.image.Corner.{Corner}
use Rattle.raster_requests.specs.declared.image.Corner.TheVariants.{AtMargin, AtPlace}

-- *t R (Set Graphics Resolution): 10 to 2400 dots per inch, our choice
abbrev pub resolution_of : ℤ → ImageSetting
resolution_of n = if is_between (pos 10) (pos 2400) n then setting.Resolution (nat_abs n) else setting.OutOfRange

-- 0 and less are none
abbrev pub above_0 : ℤ → Option ℕ
above_0 n = if int_lt (pos 0) n then Some (nat_abs n) else None

-- *r S (Source Raster Width)
abbrev pub width_of : ℤ → ImageSetting
width_of n = setting.Width (option_map (λ dots. min dots GREATEST_WIDTH) (above_0 n))

-- *r T (Source Raster Height)
abbrev pub height_of : ℤ → ImageSetting
height_of n = setting.Height (above_0 n)

-- *r U (Simple Color)
abbrev pub coding_of : ℤ → ImageSetting
coding_of n =
    if int_eq n (pos 1) || int_eq n (negsuc 0) then setting.Coding planes.Black else
    if int_eq n (pos 3) then setting.Coding planes.RedGreenBlue else
    if int_eq n (negsuc 2) then setting.Coding planes.CyanMagentaYellow else
    if int_eq n (negsuc 3) then setting.Coding planes.BlackCyanMagentaYellow else
    setting.OutOfRange

-- *v N (Source Transparency Mode)
abbrev pub transparency_of : ℤ → ImageSetting
transparency_of n =
    if int_eq n (pos 0) then setting.Transparency white.Transparent else
    if int_eq n (pos 1) then setting.Transparency white.Opaque else
    setting.OutOfRange

-- *r A (Start Raster Graphics)
abbrev pub corner_of : ℤ → Option Corner
corner_of n =
    if int_eq n (pos 0) || int_eq n (pos 2) then Some AtMargin else
    if int_eq n (pos 1) || int_eq n (pos 3) then Some AtPlace else
    None

-- *b M (Set Compression Method)
abbrev pub row_compression : ℤ → Option Compression
row_compression n = if int_lt n (pos 0) then None else compression_of (nat_abs n)

-- *b Y (Y Offset): below 0 by none
abbrev pub rows_moved : ℤ → ℕ
rows_moved n = if int_lt n (pos 0) then 0 else nat_abs n
