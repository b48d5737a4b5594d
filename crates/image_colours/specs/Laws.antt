-- What holds of the colours of images.
use Rattle.std.specs.Prelude.{◌≡◌, ◌≢◌, ◌↔◌, ℕ, ◌+◌, ◌-◌, ◌*◌, ◌<◌, ◌≤◌, Bool, true, false, List, [], slice_index, length}
use Rattle.std.specs.List.{All, slice_index_or}
use Rattle.plot_page.specs.declared.colour.Colour.{Colour}
use Rattle.image_colours.specs.declared.coding.Space.TheVariants.{Rgb, Cmy}
use Rattle.image_colours.specs.declared.coding.Coding.{Coding}
use Rattle.image_colours.specs.declared.coding.Coding.TheVariants.{DirectPlanes, IndexPlanes, IndexPixels, DirectPixels}
use Rattle.image_colours.specs.declared.palette.Parts.{Parts}
use Rattle.image_colours.specs.Counts.{plane_count, dot_bits, plane_bytes, dots_in, entry_count}
use Rattle.image_colours.specs.Palettes.{black, mixed, starting, start, with_entry}
use Rattle.image_colours.specs.Dots.{bits_at, index_of, colour_of}

-- so many bytes of a plane have the dots of a width if and only if they are as many as it takes
abbrev pub PlanesHoldTheirWidth : Type 0
PlanesHoldTheirWidth = (coding : Coding) (width bytes : ℕ) → (width ≤ dots_in coding bytes) ↔ (plane_bytes coding width ≤ bytes)

-- each channel is 255 at most
pub record IsInRange (colour : Colour) : Type 0 where
  pub red : colour.red ≤ 255
  pub green : colour.green ≤ 255
  pub blue : colour.blue ≤ 255

-- each dot has a colour, of any bytes, and by any palette that was set
pub record DotsHaveColours : Type 0 where
  pub start : (coding : Coding) → All IsInRange (start coding)
  pub set : (coding : Coding) (n : ℕ) (parts : Parts) (palette : List Colour) → All IsInRange palette
      → All IsInRange (with_entry coding n parts palette)
  pub dot : (coding : Coding) (palette : List Colour) (planes : List (List ℕ)) (column : ℕ) → All IsInRange palette
      → All (λ plane. All (λ b. b ≤ 255) plane) planes
      → IsInRange (colour_of coding palette planes column)

-- each index has its entry
abbrev pub IndexesHaveEntries : Type 0
IndexesHaveEntries = (coding : Coding) (planes : List (List ℕ)) (column : ℕ) → 0 < entry_count coding
    → index_of coding planes column < entry_count coding

-- in a row of zeros each dot has index 0
abbrev pub ZerosAreIndexZero : Type 0
ZerosAreIndexZero = (coding : Coding) (planes : List (List ℕ)) (column : ℕ) → All (λ plane. All (λ b. b ≡ 0) plane) planes
    → index_of coding planes column ≡ 0

-- white less a colour
abbrev pub white_less : Colour → Colour
white_less colour = record { red = 255 - colour.red; green = 255 - colour.green; blue = 255 - colour.blue }

-- with inks a colour is white less that of the same parts of light
pub record InksAreWhiteLess : Type 0 where
  pub parts : (first second third : ℕ) → mixed Cmy first second third ≡ white_less (mixed Rgb first second third)
  pub corners : (n : ℕ) → n < 8 → starting (DirectPlanes Cmy) n ≡ white_less (starting (DirectPlanes Rgb) n)
  pub pixels : (palette : List Colour) (planes : List (List ℕ)) (column : ℕ)
      → colour_of (DirectPixels Cmy) palette planes column ≡ white_less (colour_of (DirectPixels Rgb) palette planes column)

-- a palette that no index of a Configure Image Data has stays as it is
abbrev pub is_fixed : Coding → Bool
is_fixed (IndexPlanes _ _) = false
is_fixed (IndexPixels _ _) = false
is_fixed _ = true

-- setting an entry changes no other, and none of a fixed palette
pub record SettingChangesOneEntry : Type 0 where
  pub others : (coding : Coding) (n other : ℕ) (parts : Parts) (palette : List Colour) → other ≢ n
      → slice_index_or (with_entry coding n parts palette) other black ≡ slice_index_or palette other black
  pub size : (coding : Coding) (n : ℕ) (parts : Parts) (palette : List Colour)
      → length (with_entry coding n parts palette) ≡ length palette
  pub fixed : (coding : Coding) (n : ℕ) (parts : Parts) (palette : List Colour) → is_fixed coding ≡ true
      → with_entry coding n parts palette ≡ palette

-- two planes have the same at a column: the same bits, or the same three bytes
abbrev pub HaveSame : Coding → List ℕ → List ℕ → ℕ → Type 0
HaveSame (DirectPixels _) plane other column = (k : ℕ) → k < 3
    → slice_index plane (3 * column + k) ≡ slice_index other (3 * column + k)
HaveSame coding plane other column = bits_at (dot_bits coding) plane column ≡ bits_at (dot_bits coding) other column

-- the colour of a dot depends on nothing but what the planes have at its column; a plane that is not there is as one of zeros
abbrev pub DotsDependOnTheirBits : Type 0
DotsDependOnTheirBits = (coding : Coding) (palette : List Colour) (planes other : List (List ℕ)) (column : ℕ)
    → ((p : ℕ) → p < plane_count coding → HaveSame coding (slice_index_or planes p []) (slice_index_or other p []) column)
    → colour_of coding palette planes column ≡ colour_of coding palette other column
