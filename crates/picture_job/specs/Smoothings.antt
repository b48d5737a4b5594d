-- How much finer a picture may be painted.
use Rattle.std.specs.Prelude.{ℕ, Bool, nat_le, ◌&&◌}

-- 1 to 8 times
abbrev pub is_smoothing : ℕ → Bool
is_smoothing n = nat_le 1 n && nat_le n 8
