-- What the bytes of a row say of the cell in a column.
use Rattle.std.proofs.Common.{◌≡◌, ℕ, ◌+◌, ◌-◌, ◌*◌, ◌/◌, ◌%◌, ◌^◌, ◌<◌, ◌≤◌, List, ◌++◌, ◌∷◌, [], Bool, true, false, cond, not, nat_eq, length, get_or, take, drop, filter, flat_map, ap, ◌∙◌, sym, arith, refl, zero, suc, inl, inr, ◌⊎◌}
use Rattle.std.specs.List.{range_with_len}
use Rattle.std.proofs.lemmas.Bool.{cases_lt, not-true, not-false}
use Rattle.std.proofs.lemmas.List.{get_or-drop, get_or_past, take_at, drop_at, drop-drop}
use Rattle.std.proofs.lemmas.List.FromFn.{get_or-map-range_with_len}
use Rattle.picture_out.specs.declared.inks.Ink.{Ink}
use Rattle.picture_out.specs.Inks.{paper, ink_at, colour_bytes, cell_colour}
use Rattle.picture_out.specs.Marks.{line, mark, marks_from}
use Rattle.bit_rows.specs.Bits.{bit_of, byte_of, bytes_for, packed}
use Rattle.picture_out.specs.Laws.{is_inked, bit_at, bytes_at, BitsShow, ColoursShow}
use Rattle.picture_out.proofs.Coloured.{colour_size}
use Rattle.picture_out.proofs.Sizes.{packed_size, coloured_size}

-- the lines of cells from column c on, where `at` gives the cell of a column
abbrev lines_by : (r : List ℕ) (inks : List Ink) (at : ℕ → ℕ) → List ℕ → List ℕ
lines_by r inks at columns = flat_map (λ column. line r column (ink_at inks (at column))) (filter (λ column. not (nat_eq (at column) 0)) columns)

one_line : (r : List ℕ) (inks : List Ink) (at : ℕ → ℕ) (c : ℕ) (columns : List ℕ) (cell : ℕ) → at c ≡ cell → mark r c inks cell ++ lines_by r inks at columns ≡ lines_by r inks at (c ∷ columns)
one_line r inks at c columns cell e =
    ap (λ (n : ℕ). mark r c inks n ++ lines_by r inks at columns) (sym e)
    ∙ elim (nat_eq (at c) 0) as (λ b. cond b [] (line r c (ink_at inks (at c))) ++ lines_by r inks at columns ≡ flat_map (λ column. line r column (ink_at inks (at column))) (cond (not b) (c ∷ filter (λ column. not (nat_eq (at column) 0)) columns) (filter (λ column. not (nat_eq (at column) 0)) columns))) [ true ↦ refl | false ↦ refl ]

pub lines_of : (r : List ℕ) (inks : List Ink) (at : ℕ → ℕ) (c : ℕ) (cells : List ℕ) → ((k : ℕ) → k < length cells → at (c + k) ≡ get_or cells k 0) → marks_from r c inks cells ≡ lines_by r inks at (range_with_len c (length cells))
lines_of r inks at c [] h = refl
lines_of r inks at c (x ∷ xs) h =
    let here : at c ≡ x = ap at (omega arith) ∙ h 0 (omega arith) in
    ap (λ (z : List ℕ). mark r c inks x ++ z) (lines_of r inks at (c + 1) xs (λ k lt. ap at (omega arith) ∙ h (suc k) (omega (arith, lt))))
    ∙ one_line r inks at c (range_with_len (c + 1) (length xs)) x here

one_bit : (cells : List ℕ) (i : ℕ) → bit_of cells i ≤ 1
one_bit cells i = elim (nat_eq (get_or cells i 0) 0) as (λ b. cond {A = ℕ} b 0 1 ≤ 1) [ true ↦ omega arith | false ↦ omega arith ]

-- the bits of a byte
bit_in_byte : (cells : List ℕ) (i : ℕ) → i < 8 → byte_of cells / 2 ^ (7 - i) % 2 ≡ bit_of cells i
bit_in_byte cells zero lt = omega (arith, one_bit cells 0, one_bit cells 1, one_bit cells 2, one_bit cells 3, one_bit cells 4, one_bit cells 5, one_bit cells 6, one_bit cells 7)
bit_in_byte cells (suc zero) lt = omega (arith, one_bit cells 0, one_bit cells 1, one_bit cells 2, one_bit cells 3, one_bit cells 4, one_bit cells 5, one_bit cells 6, one_bit cells 7)
bit_in_byte cells (suc (suc zero)) lt = omega (arith, one_bit cells 0, one_bit cells 1, one_bit cells 2, one_bit cells 3, one_bit cells 4, one_bit cells 5, one_bit cells 6, one_bit cells 7)
bit_in_byte cells (suc (suc (suc zero))) lt = omega (arith, one_bit cells 0, one_bit cells 1, one_bit cells 2, one_bit cells 3, one_bit cells 4, one_bit cells 5, one_bit cells 6, one_bit cells 7)
bit_in_byte cells (suc (suc (suc (suc zero)))) lt = omega (arith, one_bit cells 0, one_bit cells 1, one_bit cells 2, one_bit cells 3, one_bit cells 4, one_bit cells 5, one_bit cells 6, one_bit cells 7)
bit_in_byte cells (suc (suc (suc (suc (suc zero))))) lt = omega (arith, one_bit cells 0, one_bit cells 1, one_bit cells 2, one_bit cells 3, one_bit cells 4, one_bit cells 5, one_bit cells 6, one_bit cells 7)
bit_in_byte cells (suc (suc (suc (suc (suc (suc zero)))))) lt = omega (arith, one_bit cells 0, one_bit cells 1, one_bit cells 2, one_bit cells 3, one_bit cells 4, one_bit cells 5, one_bit cells 6, one_bit cells 7)
bit_in_byte cells (suc (suc (suc (suc (suc (suc (suc zero))))))) lt = omega (arith, one_bit cells 0, one_bit cells 1, one_bit cells 2, one_bit cells 3, one_bit cells 4, one_bit cells 5, one_bit cells 6, one_bit cells 7)
bit_in_byte cells (suc (suc (suc (suc (suc (suc (suc (suc i)))))))) lt = absurd (omega (arith, lt))

-- the bit of a column: of a byte of the row, or after the last one
bit_by : (cells : List ℕ) (column : ℕ) → (column / 8 < bytes_for (length cells)) ⊎ (bytes_for (length cells) ≤ column / 8) → bit_at (packed cells) column ≡ bit_of cells column
bit_by cells column (inl lt) =
    let place : ℕ = column / 8 in
    let bit : ℕ → ℕ = λ cell. cond (nat_eq cell 0) 0 1 in
    let here : 8 * place + column % 8 ≡ column = omega arith in
    let byte : get_or (packed cells) place 0 ≡ byte_of (drop (8 * place) cells) = get_or-map-range_with_len (λ (k : ℕ). byte_of (drop (8 * k) cells)) 0 (bytes_for (length cells)) place place 0 lt (omega arith) in
    ap (λ (b : ℕ). b / 2 ^ (7 - column % 8) % 2) byte
    ∙ bit_in_byte (drop (8 * place) cells) (column % 8) (omega arith)
    ∙ ap bit (get_or-drop (8 * place) cells (column % 8) 0 ∙ ap (λ (k : ℕ). get_or cells k 0) here)
bit_by cells column (inr le) =
    let bit : ℕ → ℕ = λ cell. cond (nat_eq cell 0) 0 1 in
    let none : get_or (packed cells) (column / 8) 0 ≡ 0 = get_or_past (packed cells) (column / 8) 0 (omega (arith, le, packed_size cells)) in
    ap (λ (b : ℕ). b / 2 ^ (7 - column % 8) % 2) none
    ∙ (omega arith)
    ∙ ap bit (sym (get_or_past cells column 0 (omega (arith, le))))

bit_is : (cells : List ℕ) (column : ℕ) → bit_at (packed cells) column ≡ bit_of cells column
bit_is cells column = bit_by cells column (cases_lt (column / 8) (bytes_for (length cells)))

pub bits_show : (cells : List ℕ) → BitsShow cells (packed cells)
bits_show cells = record {
  size = packed_size cells;
  black = λ column h. bit_is cells column ∙ ap (λ (b : Bool). cond {A = ℕ} b 0 1) (not-true _ h);
  white = λ column h. bit_is cells column ∙ ap (λ (b : Bool). cond {A = ℕ} b 0 1) (not-false _ h);
}

-- the three bytes of a column are the colour of its cell
three_bytes : (inks : List Ink) (cells : List ℕ) (column : ℕ) → column < length cells → bytes_at (flat_map (cell_colour inks) cells) column ≡ cell_colour inks (get_or cells column 0)
three_bytes inks [] column lt = absurd (omega (arith, lt))
three_bytes inks (x ∷ xs) zero lt = take_at (cell_colour inks x) (flat_map (cell_colour inks) xs) 3 (colour_size inks x)
three_bytes inks (x ∷ xs) (suc k) lt =
    let all : List ℕ = flat_map (cell_colour inks) (x ∷ xs) in
    let split : 3 + 3 * k ≡ 3 * suc k = omega arith in
    ap (λ (n : ℕ). take 3 (drop n all)) (sym split)
    ∙ ap (take 3) (sym (drop-drop (3 * k) 3 all))
    ∙ ap (λ (z : List ℕ). take 3 (drop (3 * k) z)) (drop_at (cell_colour inks x) (flat_map (cell_colour inks) xs) 3 (colour_size inks x))
    ∙ three_bytes inks xs k (omega (arith, lt))

-- no cell after the last one has ink
inked_in : (cells : List ℕ) (column : ℕ) → is_inked cells column ≡ true → (column < length cells) ⊎ (length cells ≤ column) → column < length cells
inked_in cells column h (inl lt) = lt
inked_in cells column h (inr le) =
    let none : false ≡ true = ap (λ (cell : ℕ). not (nat_eq cell 0)) (sym (get_or_past cells column 0 le)) ∙ h in
    cc none

pub colours_show : (inks : List Ink) (cells : List ℕ) → ColoursShow inks cells (flat_map (cell_colour inks) cells)
colours_show inks cells = record {
  size = coloured_size inks cells;
  inked = λ column h.
      three_bytes inks cells column (inked_in cells column h (cases_lt column (length cells)))
      ∙ ap (λ (b : Bool). cond b (colour_bytes paper) (colour_bytes (ink_at inks (get_or cells column 0)))) (not-true _ h);
  white = λ column lt h. three_bytes inks cells column lt ∙ ap (λ (b : Bool). cond b (colour_bytes paper) (colour_bytes (ink_at inks (get_or cells column 0)))) (not-false _ h);
}
