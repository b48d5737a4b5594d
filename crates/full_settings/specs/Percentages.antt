-- Percentages of the further instructions, in millionths.
use Rattle.std.specs.Prelude.{ℤ, pos, negsuc, Bool}
use Rattle.exact.specs.Ranges.{is_between}

-- up to 1000 percent on either side of 0, as written
abbrev pub is_percentage : ℤ → Bool
is_percentage n = is_between (negsuc 999999999) (pos 1000000000) n
