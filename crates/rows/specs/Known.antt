-- Numbers of colours that are known, as contracts of private functions say it.
use Rattle.std.specs.Prelude.{◌≡◌, ◌<◌, ℕ, List, [], get_or, true}
use Rattle.std.specs.List.{list_any}
use Rattle.std.specs.Str.{bytes_eq}
use Rattle.rows.specs.PixelRows.{place_of}
use Rattle.rows.specs.declared.known.Known.{Known}

-- a palette has a colour, first at the place of this number
pub record HasNumber (palette : List (List ℕ)) (colour : List ℕ) (number : ℕ) : Type 0 where
  pub found : list_any (bytes_eq colour) palette ≡ true
  pub place : place_of palette colour ≡ number

-- so it has each colour that is known
pub record AreKnown (palette : List (List ℕ)) (known : Known) : Type 0 where
  pub last : HasNumber palette known.last known.number
  pub others : (k : ℕ) → k < 256 → HasNumber palette (get_or known.colours k []) (get_or known.numbers k 0)
