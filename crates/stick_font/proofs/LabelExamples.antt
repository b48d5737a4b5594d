-- Where the characters of some labels lie: theorems that compute.
use Rattle.std.proofs.Common.{refl, ℤ, pos, negsuc, [], ◌∷◌, ◌++◌}
use Rattle.std.specs.List.{range_with_len}
use Rattle.std.specs.Prelude.{codes}
use Rattle.stick_font.specs.Glyphs.{first_rows, last_rows}
use Rattle.stick_font.specs.declared.size.CharacterSize.{CharacterSize}
use Rattle.stick_font.specs.declared.label.LabelStroke.{LabelStroke}
use Rattle.exact.proofs.Tables.{Agree, Table, at}
use Rattle.stick_font.specs.Labels.{label_strokes, label_end, offset}

abbrev from_to : ℤ → ℤ → ℤ → ℤ → LabelStroke
from_to ax ay bx by = record { from = at ax ay; to = at bx by }

-- the strokes of a label
strokes : Table label_strokes (
    (codes "L", from_to (pos 0) (pos 18) (pos 0) (pos 0) ∷ from_to (pos 0) (pos 0) (pos 12) (pos 0) ∷ [])  -- L, which is 12 twelfths wide and 18 eighteenths high
    ∷ (codes "l", from_to (pos 0) (pos 12) (pos 0) (pos 0) ∷ from_to (pos 0) (pos 0) (pos 8) (pos 0) ∷ [])  -- a small letter is two thirds of it
    -- a space is one column, and a small letter too
    ∷ (codes " l-", from_to (pos 18) (pos 12) (pos 18) (pos 0) ∷ from_to (pos 18) (pos 0) (pos 26) (pos 0) ∷ from_to (pos 36) (pos 9) (pos 48) (pos 9) ∷ [])
    -- LF keeps the column, and CR the line
    ∷ (codes "-" ++ 10 ∷ codes "-" ++ 13 ∷ codes "-", from_to (pos 0) (pos 9) (pos 12) (pos 9) ∷ from_to (pos 18) (negsuc 26) (pos 30) (negsuc 26) ∷ from_to (pos 0) (negsuc 26) (pos 12) (negsuc 26) ∷ [])
    -- all bytes that are not printed take no room, but CR and LF move
    ∷ (range_with_len 0 10 ++ 11 ∷ 12 ∷ range_with_len 14 18 ++ range_with_len 127 129 ++ codes "-", from_to (pos 0) (pos 9) (pos 12) (pos 9) ∷ [])
    ∷ [])
unfolding first_rows last_rows
strokes = refl

-- a label ends where the next character would begin
ends : Table label_end (
    (codes "Ll", at (pos 36) (pos 0))
    ∷ ([], at (pos 0) (pos 0))
    ∷ (codes "AB" ++ 13 ∷ 10 ∷ codes "C" ++ 10 ∷ [], at (pos 18) (negsuc 71))
    ∷ [])
ends = refl

-- 0.19 by 0.27 centimetres
abbrev usual : CharacterSize
usual = record { width = pos 1216; height = pos 1728 }

-- the corners of letters
offsets : Agree (
    (offset usual (at (pos 12) (pos 18)), at (pos 1216) (pos 1728))  -- a capital
    ∷ (offset usual (at (pos 8) (pos 12)), at (pos 811) (pos 1152))  -- a small letter
    ∷ (offset (record { width = pos 6; height = negsuc 8 }) (at (pos 1) (pos 1)), at (pos 1) (pos 0))  -- halves are rounded up, on both sides of 0
    ∷ (offset (record { width = negsuc 1215; height = pos 1728 }) (at (pos 36) (negsuc 35)), at (negsuc 3647) (negsuc 3455))  -- a width below 0 leads to the left
    ∷ (offset (record { width = pos 0; height = pos 1 }) (at (pos 100) (pos 18)), at (pos 0) (pos 1))  -- no width
    ∷ [])
offsets = refl
