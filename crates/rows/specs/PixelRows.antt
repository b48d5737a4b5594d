-- How a row of pixels of any colours is laid out in bytes, as contracts of private functions say it.
use Rattle.std.specs.Prelude.{◌≡◌, ◌<◌, ◌≤◌, ℕ, suc, ◌*◌, List, [], ◌∷◌, length, get_or, map, nat_lt, if◌then◌else◌}
use Rattle.std.specs.List.{flat_map}
use Rattle.std.specs.Str.{bytes_eq}
use Rattle.png.specs.declared.header.Depth.{Depth}
use Rattle.png.specs.declared.header.Depth.TheVariants.{Eight}
use Rattle.png.specs.declared.header.Layout.{Layout}
use Rattle.png.specs.declared.header.Layout.TheVariants.{Indexed, Grey, Rgb}
use Rattle.png.specs.Headers.{three}
use Rattle.png.specs.Packing.{packed_samples}
use Rattle.rows.specs.Palettes.{numbers_bytes}

-- the first place of a colour in a list, or the list's length
unfoldable pub place_of : List (List ℕ) → List ℕ → ℕ
place_of [] colour = 0
place_of (c ∷ colours) colour = if bytes_eq colour c then 0 else suc (place_of colours colour)

-- the number of a colour in a palette; 0 if it is not there
abbrev pub number_in : List (List ℕ) → List ℕ → ℕ
number_in palette colour = if nat_lt (place_of palette colour) (length palette) then place_of palette colour else 0

-- the samples of pixels in a layout, and how many bits each takes
abbrev pub samples_of : Layout → List (List ℕ) → List ℕ
samples_of (Indexed depth palette) pixels = map (number_in palette.now) pixels
samples_of Grey pixels = map (λ pixel. get_or pixel 0 0) pixels
samples_of Rgb pixels = flat_map three pixels

abbrev pub sample_depth : Layout → Depth
sample_depth (Indexed depth palette) = depth
sample_depth Grey = Eight
sample_depth Rgb = Eight

-- how many samples a number of pixels has
abbrev pub sample_count : Layout → ℕ → ℕ
sample_count (Indexed depth palette) columns = columns
sample_count Grey columns = columns
sample_count Rgb columns = 3 * columns

-- the bytes of a row of pixels
abbrev pub layout_bytes : Layout → List (List ℕ) → List ℕ
layout_bytes layout pixels =
    let samples = samples_of layout pixels in
    packed_samples (sample_depth layout) (numbers_bytes (sample_depth layout) (length samples)) samples

-- samples were written from the left, and those after them are as they were
pub record HasSamples (samples old new : List ℕ) : Type 0 where
  pub size : length new ≡ length old
  pub written : (k : ℕ) → k < length samples → get_or new k 0 ≡ get_or samples k 0
  pub others : (k : ℕ) → length samples ≤ k → get_or new k 0 ≡ get_or old k 0
