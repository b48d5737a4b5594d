-- How many rows a band may have.
use Rattle.std.specs.Prelude.{ℕ, Bool, nat_le, ◌&&◌}

-- a band has 1 to 4,096 rows
abbrev pub is_band_height : ℕ → Bool
is_band_height rows = nat_le 1 rows && nat_le rows 4096
