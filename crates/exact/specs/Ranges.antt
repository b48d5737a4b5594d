-- Ranges of whole numbers.
use Rattle.std.specs.Prelude.{ℤ, Bool, ◌&&◌, int_le}

-- a number is from the least to the greatest, both included
abbrev pub is_between : ℤ → ℤ → ℤ → Bool
is_between least greatest n = int_le least n && int_le n greatest
