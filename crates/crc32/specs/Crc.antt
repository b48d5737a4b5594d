-- CRC-32 as in PNG and in gzip (RFC 1952, section 8): the remainder of a polynomial division, a bit at a time. The bits of
-- each byte come from the lowest on, so a number holds the coefficient of the highest power in its lowest bit.
use Rattle.std.specs.Prelude.{ℕ, zero, suc, ◌-◌, ◌/◌, ◌%◌, ◌^◌, ◌==◌, List, [], ◌∷◌, bit_xor, if◌then◌else◌}

-- x^32 + x^26 + x^23 + x^22 + x^16 + x^12 + x^11 + x^10 + x^8 + x^7 + x^5 + x^4 + x^2 + x + 1, without x^32
abbrev pub polynomial : ℕ
polynomial = 0xedb88320

-- a remainder, times x
abbrev pub times_x : ℕ → ℕ
times_x r = if r % 2 == 1 then bit_xor (r / 2) polynomial else r / 2

-- times x^k
unfoldable pub times_power : ℕ → ℕ → ℕ
times_power zero r = r
times_power (suc k) r = times_power k (times_x r)

-- the remainder after these bytes
unfoldable pub remainder : ℕ → List ℕ → ℕ
remainder r [] = r
remainder r (b ∷ bytes) = remainder (times_power 8 (bit_xor r b)) bytes

-- 32 bits that are 1
abbrev pub ones : ℕ
ones = 2 ^ 32 - 1

-- the remainder begins with all bits 1, and all its bits are turned at the end
abbrev pub crc32 : List ℕ → ℕ
crc32 bytes = bit_xor (remainder ones bytes) ones
