-- Pixels as the bits of bytes, the leftmost of eight in the highest bit.
use Rattle.std.specs.Prelude.{◌≡◌, ℕ, ◌+◌, ◌-◌, ◌*◌, ◌/◌, ◌%◌, ◌<◌, ◌≤◌, Bool, cond, max, List, length}
use Rattle.std.specs.Prelude.{get_or}
use Rattle.std.specs.Int.{bit_at}

-- 1 for a black pixel, 0 for a white one
abbrev pub ink : List ℕ → ℕ → ℕ
ink line i = bit_at (get_or line (i / 8) 0) (7 - i % 8)

-- the pixels from `low` up to `end` are black, and the others are as they were
pub record IsInked (low end : ℕ) (old new : List ℕ) : Type 0 where
  pub length : length new ≡ length old
  pub before : (i : ℕ) → i < low → ink new i ≡ ink old i
  pub inside : (i : ℕ) → low ≤ i → i < end → ink new i ≡ 1
  pub after : (i : ℕ) → end ≤ i → ink new i ≡ ink old i

-- the bits of byte `place` that lie from `low` up to `end`
pub record IsMask (low end place mask : ℕ) : Type 0 where
  pub before : (k : ℕ) → k < 8 → 8 * place + k < low → bit_at mask (7 - k) ≡ 0
  pub inside : (k : ℕ) → k < 8 → low ≤ 8 * place + k → 8 * place + k < end → bit_at mask (7 - k) ≡ 1
  pub after : (k : ℕ) → k < 8 → end ≤ 8 * place + k → bit_at mask (7 - k) ≡ 0

-- the pixels of a word, the highest bit first, from byte `at` on are black, and the others are as they were
pub record IsWordInked (at word : ℕ) (old new : List ℕ) : Type 0 where
  pub length : length new ≡ length old
  pub within : (i : ℕ) → at ≤ i / 8 → i / 8 < at + 8 → ink new i ≡ max (ink old i) (bit_at word (63 - (i - 8 * at)))
  pub before : (i : ℕ) → i / 8 < at → ink new i ≡ ink old i
  pub after : (i : ℕ) → at + 8 ≤ i / 8 → ink new i ≡ ink old i

-- so are the pixels of a mask, of which the lowest bit is that of the last of n pixels from column `low` on
pub record AreMaskInked (low n mask : ℕ) (old new : List ℕ) : Type 0 where
  pub length : length new ≡ length old
  pub within : (i : ℕ) → i < n → ink new (low + i) ≡ max (ink old (low + i)) (bit_at mask (n - 1 - i))
  pub before : (i : ℕ) → i < low → ink new i ≡ ink old i
  pub after : (i : ℕ) → low + n ≤ i → ink new i ≡ ink old i

-- of n pixels from column `from` on those that are reached are black, and all others are as they were
pub record IsReached (reached : ℕ → Bool) (from n : ℕ) (old new : List ℕ) : Type 0 where
  pub length : length new ≡ length old
  pub within : (i : ℕ) → i < n → ink new (from + i) ≡ cond (reached (from + i)) 1 (ink old (from + i))
  pub before : (i : ℕ) → i < from → ink new i ≡ ink old i
  pub after : (i : ℕ) → from + n ≤ i → ink new i ≡ ink old i

-- pixel k of row r, of rows of `stride` bytes
abbrev pub ink_at : ℕ → List ℕ → ℕ → ℕ → ℕ
ink_at stride bits r k = ink bits (8 * (r * stride) + k)
