-- Square roots, rounded down.
use Rattle.std.specs.Prelude.{ℕ, zero, suc, ◌+◌, ◌*◌, ◌/◌, ◌<◌, ◌≤◌, nat_le, if◌then◌else◌}

-- r is the greatest whole number whose square is at most n
pub record IsRoot (n r : ℕ) : Type 0 where
  pub square_in : r * r ≤ n
  pub next_above : n < (r + 1) * (r + 1)

-- r, or one more if its square is still at most n
abbrev pub raised : ℕ → ℕ → ℕ
raised n r = if nat_le ((r + 1) * (r + 1)) n then r + 1 else r

-- the root of n with k binary digits: that of a quarter of n, doubled, or one more
unfoldable pub root_by : ℕ → ℕ → ℕ
root_by zero n = 0
root_by (suc k) n = raised n (2 * root_by k (n / 4))

-- the root of a number below 2^128
abbrev pub root : ℕ → ℕ
root n = root_by 64 n
