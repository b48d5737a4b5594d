-- Packed rows that are blank outside a span.
use Rattle.std.proofs.Common.{◌≡◌, ℕ, ◌+◌, ◌-◌, ◌*◌, ◌<◌, ◌≤◌, List, [], length, get_or, ◌/◌, ◌++◌, take, drop, map, replicate, ap, ◌∙◌, sym, arith, inl, inr, ◌⊎◌}
use borrow.Rule.Slice.PartMut.{put_mid}
use Rattle.std.specs.List.{range_with_len}
use Rattle.std.proofs.lemmas.Bool.{cases_lt}
use Rattle.std.proofs.lemmas.List.{get_or-take, get_or-drop, get_or_past, length-take}
use Rattle.bit_rows.specs.Bits.{byte_of, bytes_for, packed}
use Rattle.picture_out.specs.Spans.{IsBlankOutside}
use Rattle.picture_out.proofs.Spans.{before_span, after_span}
use Rattle.picture_out.proofs.Bytes.{byte_same}
use Rattle.picture_out.proofs.Tables.{same_table, zero_table, table_more}

-- a byte of blank cells
blank_byte : (cells : List ℕ) (place : ℕ) → ((i : ℕ) → i < 8 → get_or cells (place + i) 0 ≡ 0) → byte_of (drop place cells) ≡ 0
blank_byte cells place h = byte_same (drop place cells) [] (λ i lt. get_or-drop place cells i 0 ∙ h i lt)

pub byte_before : (cells : List ℕ) (low end k : ℕ) → IsBlankOutside cells low end → 8 * k + 8 ≤ low → byte_of (drop (8 * k) cells) ≡ 0
byte_before cells low end k span le = blank_byte cells (8 * k) (λ i lt. before_span cells low end (8 * k + i) span (omega arith))

pub byte_after : (cells : List ℕ) (low end k : ℕ) → IsBlankOutside cells low end → end ≤ 8 * k → byte_of (drop (8 * k) cells) ≡ 0
byte_after cells low end k span le = blank_byte cells (8 * k) (λ i lt. after_span cells low end (8 * k + i) span (omega arith))

-- a cell of a piece of a row, or past the piece and the row
piece_by : (cells : List ℕ) (from size j : ℕ) → (size ≤ j → length cells ≤ from + j) → (j < size) ⊎ (size ≤ j) → get_or (take size (drop from cells)) j 0 ≡ get_or cells (from + j) 0
piece_by cells from size j whole (inl lt) = get_or-take size (drop from cells) j 0 lt ∙ get_or-drop from cells j 0
piece_by cells from size j whole (inr le) =
    get_or_past (take size (drop from cells)) j 0 (omega (arith, length-take size (drop from cells)))
    ∙ sym (get_or_past cells (from + j) 0 (whole le))

-- a piece of a row, from byte `first` on, packed by itself
pub packed_piece : (cells : List ℕ) (first size n : ℕ) → bytes_for size ≡ n → (size < 8 * n → length cells ≤ 8 * first + size) → length (take size (drop (8 * first) cells)) ≡ size → packed (take size (drop (8 * first) cells)) ≡ map (λ (k : ℕ). byte_of (drop (8 * k) cells)) (range_with_len first n)
packed_piece cells first size n bytes whole long =
    let piece : List ℕ = take size (drop (8 * first) cells) in
    let g : ℕ → ℕ = λ k. byte_of (drop (8 * k) piece) in
    let f : ℕ → ℕ = λ k. byte_of (drop (8 * k) cells) in
    ap (λ (m : ℕ). map g (range_with_len 0 m)) (ap bytes_for long ∙ bytes)
    ∙ same_table g f first n (λ k lt. byte_same (drop (8 * k) piece) (drop (8 * (first + k)) cells) (λ i small.
    let here : 8 * first + (8 * k + i) ≡ 8 * (first + k) + i = omega arith in
    get_or-drop (8 * k) piece i 0
    ∙ piece_by cells (8 * first) size (8 * k + i) (λ le. let past = whole (omega arith) in omega arith) (cases_lt (8 * k + i) size)
    ∙ ap (λ (m : ℕ). get_or cells m 0) here
    ∙ sym (get_or-drop (8 * (first + k)) cells i 0)))

-- the bytes before the span's, the span's and those after them are the row
pub row_filled : (cells : List ℕ) (low end first last all : ℕ) (old before part after : List ℕ) → IsBlankOutside cells low end → first ≡ low / 8 → last ≡ bytes_for end → all ≡ bytes_for (length cells)
    → before ≡ replicate first 0 → part ≡ map (λ (k : ℕ). byte_of (drop (8 * k) cells)) (range_with_len first (last - first)) → after ≡ replicate (all - last) 0
    → put_mid last (all - last) (put_mid first (last - first) (before ++ drop first old) part) after ≡ packed cells ++ drop (bytes_for (length cells)) old
row_filled cells low end first last all old before part after span is_first is_last is_all cleared filled cleared_after =
    let f : ℕ → ℕ = λ k. byte_of (drop (8 * k) cells) in
    let order : first ≤ last = omega (arith, span.order) in
    let within : last ≤ all = omega (arith, span.high) in
    let front : before ≡ map f (range_with_len 0 first) = cleared ∙ zero_table f 0 first (λ k lt. byte_before cells low end (0 + k) span (omega arith)) in
    let middle = table_more f (before ++ drop first old) old part first (last - first) last (omega arith) (ap (λ (z : List ℕ). z ++ drop first old) front) filled in
    let back : after ≡ map f (range_with_len last (all - last)) = cleared_after ∙ zero_table f last (all - last) (λ k lt. byte_after cells low end (last + k) span (omega arith)) in
    table_more f (put_mid first (last - first) (before ++ drop first old) part) old after last (all - last) all (omega arith) middle back
    ∙ ap (λ (n : ℕ). map f (range_with_len 0 n) ++ drop n old) is_all
