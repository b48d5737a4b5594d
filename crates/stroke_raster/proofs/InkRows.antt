-- The bytes of inked rows are the packed rows.
use Rattle.std.proofs.Common.{◌≡◌, ℕ, ◌+◌, ◌-◌, ◌*◌, ◌/◌, ◌%◌, ◌<◌, ◌≤◌, Bool, false, nat_eq, if◌then◌else◌, min, List, [], length, get_or, map, take, drop, refl, sym, ap, ◌∙◌, arith, inl, inr}
use Rattle.std.specs.Int.{bit_at}
use Rattle.std.proofs.lemmas.Bool.{cases_eq, cases_lt}
use Rattle.std.proofs.lemmas.Bool.Decides.{nat_tests}
use Rattle.std.proofs.lemmas.Nat.{mul-le}
use Rattle.std.proofs.lemmas.List.{ext_get_or, get_or-drop, get_or-map, get_or-take, get_or_past, length-drop, length-map, length-take-le}
use Rattle.std.proofs.lemmas.List.FromFn.{get_or-map-range_with_len, length-map-range_with_len}
use Rattle.stroke_raster.specs.Canvases.{Shows}
use Rattle.stroke_raster.specs.Inks.{ink_at}
use Rattle.bit_rows.specs.Bits.{bit_of, byte_of, bytes_for, packed}
use Rattle.stroke_raster.specs.ShownShapes.{row_at, rows_at, shown_at}
use Rattle.stroke_raster.specs.Rows.{split_rows}
use Rattle.stroke_raster.proofs.Rows.{get_or-split_rows, length-split_rows}

-- a byte is the sum of its bits
byte_value : (b : ℕ) → b < 256 → b ≡ 128 * bit_at b 7 + 64 * bit_at b 6 + 32 * bit_at b 5 + 16 * bit_at b 4 + 8 * bit_at b 3 + 4 * bit_at b 2 + 2 * bit_at b 1 + bit_at b 0
byte_value b h = omega (arith, h)

min_bit : (n : ℕ) → min 1 n ≡ (if nat_eq n 0 then 0 else 1)
min_bit n = elim (cases_eq n 0) [
  | inl e ↦ rw e refl
  | inr ne ↦ (let t : nat_eq n 0 ≡ false = grind (arith, nat_tests) in let m : min 1 n ≡ 1 = omega (arith, ne) in rw (t, m) refl)
]

-- a pixel's bit, and a bit after the last column
pixel : (test : ℕ → ℕ → ℕ → Bool) (m : ℕ) (columns row k x : ℕ) → (k < columns → x ≡ min 1 (shown_at test m row k)) → (columns ≤ k → x ≡ 0) → x ≡ bit_of (row_at test m columns row) k
pixel test m columns row k x inside after = elim (cases_lt k columns) [
  | inl l ↦ (let z : 0 + k ≡ k = omega arith in
      let g : get_or (row_at test m columns row) k 0 ≡ shown_at test m row k = get_or-map-range_with_len (λ column. shown_at test m row column) 0 columns k k 0 l z in
      inside l ∙ min_bit (shown_at test m row k) ∙ ap (λ (n : ℕ). if nat_eq n 0 then 0 else 1) (sym g))
  | inr l ↦ (let g : get_or (row_at test m columns row) k 0 ≡ 0 = get_or_past (row_at test m columns row) k 0 (omega (arith, l, length-map-range_with_len (λ column. shown_at test m row column) 0 columns)) in
      after l ∙ ap (λ (n : ℕ). if nat_eq n 0 then 0 else 1) (sym g))
]

bit_drop : (n i : ℕ) (cells : List ℕ) → bit_of (drop n cells) i ≡ bit_of cells (n + i)
bit_drop n i cells = ap (λ (k : ℕ). if nat_eq k 0 then 0 else 1) (get_or-drop n cells i 0)

-- the bit of a byte of a row
bit_here : (s r j i : ℕ) (bits : List ℕ) → i < 8 → ink_at s bits r (8 * j + i) ≡ bit_at (get_or bits (r * s + j) 0) (7 - i)
bit_here s r j i bits h =
    let p : (8 * (r * s) + (8 * j + i)) / 8 ≡ r * s + j = omega (arith, h) in
    let q : (8 * (r * s) + (8 * j + i)) % 8 ≡ i = omega (arith, h) in
    ap (λ (n : ℕ). bit_at (get_or bits n 0) (7 - (8 * (r * s) + (8 * j + i)) % 8)) p
    ∙ ap (λ (n : ℕ). bit_at (get_or bits (r * s + j) 0) (7 - n)) q

-- a byte of a row
byte_here : (test : ℕ → ℕ → ℕ → Bool) (m : ℕ) (first rows columns s : ℕ) (bits : List ℕ) (r j : ℕ)
    → Shows (ink_at s bits) (λ n. min 1 n) test m first rows columns → ((r k : ℕ) → r < rows → columns ≤ k → k < 8 * s → ink_at s bits r k ≡ 0) → get_or bits (r * s + j) 0 < 256 → r < rows → j < s
    → get_or bits (r * s + j) 0 ≡ byte_of (drop (8 * j) (row_at test m columns (first + r)))
byte_here test m first rows columns s bits r j h past small u v =
    let cells : List ℕ = row_at test m columns (first + r) in
    let b : ℕ = get_or bits (r * s + j) 0 in
    let one : (i : ℕ) → i < 8 → bit_at (get_or bits (r * s + j) 0) (7 - i) ≡ bit_of (drop (8 * j) (row_at test m columns (first + r))) i = λ i w.
    sym (bit_here s r j i bits w) ∙ pixel test m columns (first + r) (8 * j + i) _ (h r (8 * j + i) u) (λ l. past r (8 * j + i) u l (omega (arith, v, w))) ∙ sym (bit_drop (8 * j) i (row_at test m columns (first + r))) in
    let v0 = one 0 (omega arith) in
    let v1 = one 1 (omega arith) in
    let v2 = one 2 (omega arith) in
    let v3 = one 3 (omega arith) in
    let v4 = one 4 (omega arith) in
    let v5 = one 5 (omega arith) in
    let v6 = one 6 (omega arith) in
    let v7 = one 7 (omega arith) in
    byte_value (get_or bits (r * s + j) 0) small ∙ sums _ _ _ _ _ _ _ _ _ _ _ _ _ _ _ _ v0 v1 v2 v3 v4 v5 v6 v7
  where
    sums : (a0 a1 a2 a3 a4 a5 a6 a7 b0 b1 b2 b3 b4 b5 b6 b7 : ℕ) → a0 ≡ b0 → a1 ≡ b1 → a2 ≡ b2 → a3 ≡ b3 → a4 ≡ b4 → a5 ≡ b5 → a6 ≡ b6 → a7 ≡ b7
        → 128 * a0 + 64 * a1 + 32 * a2 + 16 * a3 + 8 * a4 + 4 * a5 + 2 * a6 + a7 ≡ 128 * b0 + 64 * b1 + 32 * b2 + 16 * b3 + 8 * b4 + 4 * b5 + 2 * b6 + b7
    sums a0 a1 a2 a3 a4 a5 a6 a7 b0 b1 b2 b3 b4 b5 b6 b7 e0 e1 e2 e3 e4 e5 e6 e7 = omega (arith, e0, e1, e2, e3, e4, e5, e6, e7)

-- a row
row_here : (test : ℕ → ℕ → ℕ → Bool) (m : ℕ) (first rows columns s : ℕ) (bits : List ℕ) (r : ℕ)
    → Shows (ink_at s bits) (λ n. min 1 n) test m first rows columns → ((r k : ℕ) → r < rows → columns ≤ k → k < 8 * s → ink_at s bits r k ≡ 0) → ((i : ℕ) → i < length bits → get_or bits i 0 < 256) → length bits ≡ rows * s → s ≡ bytes_for columns → r < rows
    → take s (drop (r * s) bits) ≡ packed (row_at test m columns (first + r))
row_here test m first rows columns s bits r h past small len wide u =
    let whole : (r + 1) * s ≤ rows * s = mul-le (r + 1) s rows s (omega (arith, u)) (omega arith) in
    let ld : s ≤ length (drop (r * s) bits) = omega (arith, length-drop (r * s) bits, whole, len) in
    let lt : length (take s (drop (r * s) bits)) ≡ s = length-take-le s (drop (r * s) bits) ld in
    let lc : length (row_at test m columns (first + r)) ≡ columns = length-map-range_with_len (λ column. shown_at test m (first + r) column) 0 columns in
    let f : ℕ → ℕ = λ k. byte_of (drop (8 * k) (row_at test m columns (first + r))) in
    let n : bytes_for (length (row_at test m columns (first + r))) ≡ s = ap bytes_for lc ∙ sym wide in
    let lp : length (packed (row_at test m columns (first + r))) ≡ bytes_for (length (row_at test m columns (first + r))) = length-map-range_with_len (λ k. byte_of (drop (8 * k) (row_at test m columns (first + r)))) 0 _ in
    ext_get_or 0 (take s (drop (r * s) bits)) (packed (row_at test m columns (first + r))) (omega (arith, lt, n, lp)) (λ j w.
    let v : j < s = omega (arith, w, lt) in
    let z : 0 + j ≡ j = omega arith in
    get_or-take s (drop (r * s) bits) j 0 v ∙ get_or-drop (r * s) bits j 0
    ∙ byte_here test m first rows columns s bits r j h past (small (r * s + j) (omega (arith, whole, v, len))) u v
    ∙ sym (get_or-map-range_with_len (λ k. byte_of (drop (8 * k) (row_at test m columns (first + r)))) 0 (bytes_for (length (row_at test m columns (first + r)))) j j 0 (omega (arith, v, n)) z))

-- all rows of a band
pub inked_rows : (test : ℕ → ℕ → ℕ → Bool) (m : ℕ) (first rows columns s : ℕ) (bits : List ℕ)
    → Shows (ink_at s bits) (λ n. min 1 n) test m first rows columns → ((r k : ℕ) → r < rows → columns ≤ k → k < 8 * s → ink_at s bits r k ≡ 0) → ((i : ℕ) → i < length bits → get_or bits i 0 < 256) → length bits ≡ rows * s → s ≡ bytes_for columns
    → split_rows s rows bits ≡ map packed (rows_at test m columns first rows)
inked_rows test m first rows columns s bits h past small len wide =
    let f : ℕ → List ℕ = λ row. row_at test m columns row in
    let ls : length (split_rows s rows bits) ≡ rows = length-split_rows s rows bits in
    let lr : length (rows_at test m columns first rows) ≡ rows = length-map-range_with_len (λ row. row_at test m columns row) first rows in
    let lm : length (map packed (rows_at test m columns first rows)) ≡ length (rows_at test m columns first rows) = length-map (rows_at test m columns first rows) packed in
    ext_get_or [] (split_rows s rows bits) (map packed (rows_at test m columns first rows)) (omega (arith, ls, lr, lm)) (λ r w.
    let u : r < rows = omega (arith, w, ls) in
    get_or-split_rows s rows r bits u
    ∙ row_here test m first rows columns s bits r h past small len wide u
    ∙ sym (get_or-map packed (rows_at test m columns first rows) r [] [] (omega (arith, u, lr))
    ∙ ap packed (get_or-map-range_with_len (λ row. row_at test m columns row) first rows r (first + r) [] u refl)))
