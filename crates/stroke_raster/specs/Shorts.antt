-- Which pixels a short stroke is near.
use Rattle.std.specs.Prelude.{◌≡◌, ℕ, ◌-◌, ◌<◌, Bool, cond, pos}
use Rattle.std.specs.Int.{bit_at}
use Rattle.stroke_raster.specs.declared.short.Short.{Short}
use Rattle.stroke_raster.specs.declared.vector.Vector.{Vector}
use Rattle.stroke_raster.specs.Gap.{scaled, gap_met}
use Rattle.stroke_raster.specs.Traces.{rightward}

-- the place to which a way leads from the first end is within half of the drawn width of the stroke
abbrev pub is_short_met : Short → Vector → Bool
is_short_met short w = gap_met (scaled (pos short.resolution) short.course) w short.width

-- a mask's bits say which of n pixels are met; the lowest bit is that of the last pixel
abbrev pub AreMasked : Short → Vector → ℕ → ℕ → Type 0
AreMasked short start n mask =
    (i : ℕ) → i < n → bit_at mask (n - 1 - i) ≡ cond (is_short_met short (rightward start i)) 1 0
