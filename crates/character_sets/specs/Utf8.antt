-- The sequences of two to four bytes of UTF-8 (RFC 3629, section 4; the Unicode Standard, table 3-7).
use Rattle.std.specs.Prelude.{ℕ, ◌+◌, ◌-◌, ◌*◌, Bool, true, false, ◌&&◌, List, [], ◌∷◌, length, take, Option, find, option_map}
use Rattle.std.specs.Int.{is_in_range}

-- the least and the greatest value of a byte after the first, mostly
abbrev pub tail : ℕ × ℕ
tail = (0x80, 0xBF)

-- the values of the bytes of a sequence, by its first byte
abbrev pub rows : List (List (ℕ × ℕ))
rows =
    ((0xC2, 0xDF) ∷ tail ∷ [])
    ∷ ((0xE0, 0xE0) ∷ (0xA0, 0xBF) ∷ tail ∷ [])
    ∷ ((0xE1, 0xEC) ∷ tail ∷ tail ∷ [])
    ∷ ((0xED, 0xED) ∷ (0x80, 0x9F) ∷ tail ∷ [])
    ∷ ((0xEE, 0xEF) ∷ tail ∷ tail ∷ [])
    ∷ ((0xF0, 0xF0) ∷ (0x90, 0xBF) ∷ tail ∷ tail ∷ [])
    ∷ ((0xF1, 0xF3) ∷ tail ∷ tail ∷ tail ∷ [])
    ∷ ((0xF4, 0xF4) ∷ (0x80, 0x8F) ∷ tail ∷ tail ∷ [])
    ∷ []

-- a text begins with bytes of these values
abbrev pub begins_in : List ℕ → List (ℕ × ℕ) → Bool
begins_in text [] = true
begins_in [] (values ∷ others) = false
begins_in (byte ∷ text) (values ∷ others) = is_in_range values.0 values.1 byte && begins_in text others

-- the code point of a sequence: six bits of each byte after the first, and what the first has beside its mark
abbrev pub decoded_sequence : List ℕ → ℕ
decoded_sequence (a ∷ b ∷ []) = 64 * (a - 0xC0) + (b - 0x80)
decoded_sequence (a ∷ b ∷ c ∷ []) = 64 * (64 * (a - 0xE0) + (b - 0x80)) + (c - 0x80)
decoded_sequence (a ∷ b ∷ c ∷ d ∷ []) = 64 * (64 * (64 * (a - 0xF0) + (b - 0x80)) + (c - 0x80)) + (d - 0x80)
decoded_sequence _ = 0

-- the code point of the sequence that a text begins with
unfoldable pub sequence : List ℕ → Option ℕ
sequence text = option_map (λ row. decoded_sequence (take (length row) text)) (find (λ row. begins_in text row) rows)
