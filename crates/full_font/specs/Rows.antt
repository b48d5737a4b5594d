-- What contracts of look-ups need: the rows of each table and of a slice, and their order.
use Rattle.std.specs.Prelude.{ℕ, List, [], ◌∷◌, Bool, true, map, nat_lt, ◌&&◌, slice_index_or}
use Rattle.std.specs.Borrow.{Bor}
use Rattle.full_font.specs.Glyphs.{Row}
use Rattle.full_font.specs.declared.font.TheConstants.{FROM_SPACE, FROM_GRAVE_ACCENT, FROM_NO_BREAK_SPACE, FROM_ETH, FURTHER}

-- the rows of each table
unfoldable pub from_space : List Row
from_space = map (λ row. (row.0, map (λ line. line.now) row.1.now)) FROM_SPACE

unfoldable pub from_grave_accent : List Row
from_grave_accent = map (λ row. (row.0, map (λ line. line.now) row.1.now)) FROM_GRAVE_ACCENT

unfoldable pub from_no_break_space : List Row
from_no_break_space = map (λ row. (row.0, map (λ line. line.now) row.1.now)) FROM_NO_BREAK_SPACE

unfoldable pub from_eth : List Row
from_eth = map (λ row. (row.0, map (λ line. line.now) row.1.now)) FROM_ETH

unfoldable pub further : List Row
further = map (λ row. (row.0, map (λ line. line.now) row.1.now)) FURTHER

-- a row of a slice, and all of them
abbrev pub row_of : ℕ × Bor (List (Bor (List ℕ))) → Row
row_of row = (row.0, map (λ line. line.now) row.1.now)

abbrev pub rows_of : List (ℕ × Bor (List (Bor (List ℕ)))) → List Row
rows_of rows = map row_of rows

-- the polylines of a row
abbrev pub lines_at : List Row → ℕ → List (List ℕ)
lines_at rows i = slice_index_or (map (λ row. row.1) rows) i []

abbrev pub code_points : List Row → List ℕ
code_points rows = map (λ row. row.0) rows

-- each number is below the next
abbrev pub is_rising : List ℕ → Bool
is_rising [] = true
is_rising (a ∷ []) = true
is_rising (a ∷ b ∷ rest) = nat_lt a b && is_rising (b ∷ rest)
