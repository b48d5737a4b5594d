-- What escapes ask.
use Rattle.std.proofs.Common.{◌≡◌, ℕ, List, [], ◌∷◌, ◌++◌, map, Option, Some, None, true, false, refl}
use Rattle.std.specs.Prelude.{codes, pos, negsuc}
use Rattle.image_rows.specs.declared.compression.Compression.TheVariants.{DeltaRow}
use Rattle.escapes.specs.Commands.{Said}
use Rattle.escapes.specs.Escapes.{chain, escape}
use Rattle.raster_requests.specs.declared.image.ImageSetting.TheVariants.{Resolution, Width, Height, Coding, Configuration, Transparency, OutOfRange}
use Rattle.raster_requests.specs.declared.image.Coding.TheVariants.{CyanMagentaYellow}
use Rattle.raster_requests.specs.declared.image.Transparency.TheVariants.{Opaque}
use Rattle.raster_requests.specs.declared.image.Corner.TheVariants.{AtMargin, AtPlace}
use Rattle.raster_requests.specs.declared.image.Primary.TheVariants.{First, Second, Third}
use Rattle.raster_requests.specs.declared.place.Axis.TheVariants.{AlongRow, AcrossRows}
use Rattle.raster_requests.specs.declared.place.PlaceUnit.TheVariants.{Unit, Decipoint}
use Rattle.raster_requests.specs.declared.place.Language.TheVariants.{Rtl, Hpgl2}
use Rattle.raster_requests.specs.declared.place.Places.TheVariants.{Kept, Carried}
use Rattle.raster_requests.specs.declared.request.Request.{Request}
use Rattle.raster_requests.specs.declared.request.Request.TheVariants.{Set, Start, End, EndAndReset, Compress, MoveRows, Plane, LastPlane, PalettePart, PaletteEntry, Place, Enter, Reset, EndPage, Nothing, Bad, Skipped}
use Rattle.raster_requests.specs.declared.request.Request.TheVariants as request
use Rattle.raster_requests.specs.Requests.{request_of}

-- the requests of an escape, from the byte after the ESC on
asked_by : Option (List Said × List ℕ) → List Request
asked_by None = []
asked_by (Some found) = map request_of found.0

asked : List ℕ → List Request
asked text = asked_by (escape text)

-- an image of three planes, as drivers begin it
begin : asked (codes "*t300R") ++ asked (codes "*r-3u8s2t1A") ≡ Set (Resolution 300) ∷ Set (Coding CyanMagentaYellow) ∷ Set
    (Width (Some 8)) ∷ Set (Height (Some 2)) ∷ Start (Some AtPlace) ∷ []
unfolding chain asked_by asked
begin = refl

-- its rows: a compression, planes, and a move
rows : asked (codes "*b3m2y2v..2V..") ++ asked (codes "*b1W.") ++ asked (codes "*b5M") ≡ Compress
    (Some DeltaRow) ∷ MoveRows 2 ∷ Plane ∷ Plane ∷ LastPlane ∷ Compress None ∷ []
unfolding chain asked_by asked
rows = refl

-- its end
ends : map asked (codes "*rB" ∷ codes "*rC" ∷ codes "E" ∷ codes "%-12345X" ∷ codes "&l0H" ∷ []) ≡ (End ∷ []) ∷
    (EndAndReset ∷ []) ∷ (Reset ∷ []) ∷ (Reset ∷ []) ∷ (EndPage ∷ []) ∷ []
unfolding chain asked_by asked
ends = refl

-- places are not rounded; a sign moves
moved : asked (codes "*p12x-6.5Y") ++ asked (codes "&a+72h.5V") ≡
    Place (record { axis = AlongRow; unit = Unit; is_relative = false; millionths = pos 12000000 })
    ∷ Place (record { axis = AcrossRows; unit = Unit; is_relative = true; millionths = negsuc 6499999 })
    ∷ Place (record { axis = AlongRow; unit = Decipoint; is_relative = true; millionths = pos 72000000 })
    ∷ Place (record { axis = AcrossRows; unit = Decipoint; is_relative = false; millionths = pos 500000 }) ∷ []
unfolding chain asked_by asked
moved = refl

-- changes of the language
languages : map asked (codes "%0A" ∷ codes "%1A" ∷ codes "%1B" ∷ codes "%-1B" ∷ codes "%0@" ∷ []) ≡ (Enter Rtl Kept ∷ []) ∷
    (Enter Rtl Carried ∷ []) ∷ (Enter Hpgl2 Carried ∷ []) ∷ (Enter Hpgl2 Kept ∷ []) ∷ (Nothing ∷ []) ∷ []
unfolding chain asked_by asked
languages = refl

-- colours
colours : asked (codes "*v6W......") ++ asked (codes "*v255a-1b9.5c2i1N") ≡ Set Configuration ∷ PalettePart First
    (pos 255) ∷ PalettePart Second (negsuc 0) ∷ PalettePart Third (pos 10) ∷ PaletteEntry (pos 2) ∷ Set (Transparency Opaque) ∷ []
unfolding chain asked_by asked
colours = refl

-- values are rounded, the upper one of two, and may be out of range
ranges : asked (codes "*t9.5r9.4R") ++ asked (codes "*r2u9999999s-3s0T") ++ asked (codes "*r-.5a3.5A") ++ asked
    (codes "&u600d9D") ≡
    Set (Resolution 10) ∷ Set OutOfRange ∷ Set OutOfRange ∷ Set (Width (Some 1048576)) ∷ Set (Width None) ∷ Set (Height None)
    ∷ Start (Some AtMargin) ∷ Start None ∷ request.Unit 600 ∷ Bad ∷ []
unfolding chain asked_by asked
ranges = refl

-- what has no effect, and what is skipped
others : map asked (codes "9" ∷ codes "(s3B" ∷ codes "&l1O" ∷ codes "*l252O" ∷ codes "*rF" ∷ codes "*c5P" ∷ codes "*b1X" ∷ codes
    "!1A" ∷ []) ≡
    (Nothing ∷ []) ∷ (Nothing ∷ []) ∷ (Nothing ∷ []) ∷ (Nothing ∷ []) ∷ (Nothing ∷ []) ∷ (Skipped ∷ []) ∷ (Skipped ∷ []) ∷
    (Skipped ∷ []) ∷ []
unfolding chain asked_by asked
others = refl
