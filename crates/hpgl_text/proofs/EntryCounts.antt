-- A polyline has at most as many entries as bytes: a piece has one of its own, and one for each stray in its gap.
use Rattle.std.proofs.Common.{◌≡◌, ℕ, zero, suc, ◌+◌, ◌-◌, ◌<◌, ◌≤◌, Bool, true, false, nat_lt, if◌then◌else◌, List, [], ◌∷◌, length, drop, slice_index, Option, option_map, Some, None, refl, arith, nat_abs}
use Rattle.std.specs.Bool.{⊤}
use Rattle.std.specs.List.{cons_option}
use Rattle.std.proofs.Common.{length-drop, length-append}
use Rattle.std.proofs.lemmas.Bool.Decides.{nat_tests}
use Rattle.std.proofs.lemmas.List.{length-take}
use Rattle.hpgl_text.specs.Bytes.{is_blank, begins_with}
use Rattle.hpgl_text.specs.Coded.{Digits, Code, with_digit, read_code, CodedNumber, decoded, coded_number, digits_of, is_inner, is_last}
use Rattle.hpgl_text.specs.EntryShapes.{PartShape, EntryShape}
use Rattle.hpgl_text.specs.Polylines.{Piece, plain, gap_length, gap_of, past_gap, completed, is_within, flag_piece, without_number, pair_piece, is_cut, number_piece, piece_at, starts_number, is_final, base_after, pieces_from}
use Rattle.hpgl_text.specs.Polylines.{entry, strays, entries_of, entries_from, part_of, coding_after}
use Rattle.hpgl_text.specs.Laws.{EntriesAreFew}
use Rattle.hpgl_text.specs.declared.polyline.base.Base.{Base}
use Rattle.hpgl_text.specs.declared.polyline.coding.Coding.{Coding}
use Rattle.hpgl_text.specs.declared.polyline.kind.PieceKind.{PieceKind}
use Rattle.hpgl_text.specs.declared.polyline.kind.PieceKind.TheVariants.{Blank, Narrow, Up, Absolute, FractionBits, Pen, Pair, Stray, Bad, Cut}

-- a code takes a byte at least
abbrev Takes : Option Code → Type 0
Takes None = ⊤
Takes (Some n) = 0 < n.bytes

takes_if : (b : Bool) (x y : Option Code) → Takes x → Takes y → Takes (if b then x else y)
takes_if true x y h k = h
takes_if false x y h k = k

takes_more : (digits : Digits) (d : ℕ) (x : Option Code) → Takes (with_digit digits d x)
takes_more digits d None = tt
takes_more digits d (Some n) = omega arith

takes : (digits : Digits) (k : ℕ) (bs : List ℕ) → Takes (read_code digits k bs)
takes digits zero bs = tt
takes digits (suc k) [] = tt
takes digits (suc k) (b ∷ bs) = takes_if (is_last digits b) _ _ (omega arith) (takes_if (is_inner digits b) _ _ (takes_more digits _ (read_code digits k bs)) tt)

abbrev NumberTakes : Option CodedNumber → Type 0
NumberTakes None = ⊤
NumberTakes (Some n) = 0 < n.bytes

number_takes : (x : Option Code) → Takes x → NumberTakes (option_map decoded x)
number_takes None h = tt
number_takes (Some n) h = h

coded_takes : (base : Base) (text : List ℕ) → NumberTakes (coded_number base text)
coded_takes base text =
    number_takes (read_code (digits_of base) (digits_of base).most text) (takes (digits_of base) (digits_of base).most text)

-- the gap of a piece leaves a byte of the text and of the piece
record Fits (text : List ℕ) (piece : Piece) : Type 0 where
  in_text : 1 + length piece.gap ≤ length text
  in_piece : 1 + length piece.gap ≤ piece.bytes

fits_if : (text : List ℕ) (b : Bool) (p q : Piece) → (b ≡ true → Fits text p) → Fits text q → Fits text (if b then p else q)
fits_if text true p q h k = h refl
fits_if text false p q h k = k

plain_fits : (text : List ℕ) (kind : PieceKind) (bytes : ℕ) → 0 < length text → 0 < bytes → Fits text (plain kind bytes)
plain_fits text kind bytes h k = record { in_text = omega arith; in_piece = omega arith }

gap_short : (base : Base) (text : List ℕ) → length (gap_of base text) ≤ gap_length base text
gap_short base text = omega (arith, length-take (gap_length base text) text)

gap_inside : (base : Base) (text : List ℕ) → length (gap_of base text) ≤ length text
gap_inside base text = omega (arith, length-take (gap_length base text) text)

completed_fits : (kind : PieceKind) (bytes : ℕ) (base : Base) (text : List ℕ) (n : CodedNumber) → 0 < length text → 0 < bytes
    → Fits text (completed kind bytes base (drop bytes text) n)
completed_fits kind bytes base text n h k = record {
  in_text = omega (arith, gap_inside base (drop bytes text), length-drop bytes text);
  in_piece = omega (arith, gap_short base (drop bytes text));
}

flag_by : (kind : ℕ → PieceKind) (most : ℕ) (base : Base) (closed : Bool) (text : List ℕ) (o : Option CodedNumber) → 0 < length text
    → Fits text (elim o [
      | None ↦ plain (without_number base closed (past_gap base (drop 1 text))) 1
      | Some n ↦ if is_within most n.value then completed (kind (nat_abs n.value)) 1 base (drop 1 text) n else plain Bad 1
    ])
flag_by kind most base closed text None h = plain_fits text (without_number base closed (past_gap base (drop 1 text))) 1 h (omega arith)
flag_by kind most base closed text (Some n) h = fits_if text (is_within most n.value) _ _
    (λ _. completed_fits (kind (nat_abs n.value)) 1 base text n h (omega arith)) (plain_fits text Bad 1 h (omega arith))

flag_fits : (kind : ℕ → PieceKind) (most : ℕ) (base : Base) (closed : Bool) (text : List ℕ) → 0 < length text → Fits text (flag_piece kind most base closed (drop 1 text))
flag_fits kind most base closed text h = flag_by kind most base closed text (coded_number base (past_gap base (drop 1 text))) h

pair_by : (x : CodedNumber) (base : Base) (closed : Bool) (text : List ℕ) (o : Option CodedNumber) → 0 < length text → 0 < x.bytes
    → Fits text (elim o [
      | None ↦ plain (without_number base closed (past_gap base (drop x.bytes text))) x.bytes
      | Some y ↦ completed (Pair x.value y.value) x.bytes base (drop x.bytes text) y
    ])
pair_by x base closed text None h k = plain_fits text (without_number base closed (past_gap base (drop x.bytes text))) x.bytes h k
pair_by x base closed text (Some y) h k = completed_fits (Pair x.value y.value) x.bytes base text y h k

number_by : (base : Base) (closed : Bool) (text : List ℕ) (o : Option CodedNumber) → NumberTakes o → 0 < length text
    → Fits text (elim o [
      | None ↦ plain (if is_cut base closed text then Cut else Bad) 1
      | Some x ↦ pair_piece x base closed (drop x.bytes text)
    ])
number_by base closed text None t h = plain_fits text (if is_cut base closed text then Cut else Bad) 1 h (omega arith)
number_by base closed text (Some x) t h = pair_by x base closed text (coded_number base (past_gap base (drop x.bytes text))) h t

number_fits : (base : Base) (closed : Bool) (text : List ℕ) → 0 < length text → Fits text (number_piece base closed text)
number_fits base closed text h = number_by base closed text (coded_number base text) (coded_takes base text) h

piece_fits : (base : Base) (closed : Bool) (text : List ℕ) → 0 < length text → Fits text (piece_at base closed text)
piece_fits base closed text h =
    let first = slice_index text 0 in
    fits_if text (begins_with "7" text) _ _ (λ _. plain_fits text Narrow 1 h (omega arith))
    (fits_if text (begins_with ":" text) _ _ (λ _. flag_fits Pen 255 base closed text h)
    (fits_if text (begins_with "<" text) _ _ (λ _. plain_fits text Up 1 h (omega arith))
    (fits_if text (begins_with "=" text) _ _ (λ _. plain_fits text Absolute 1 h (omega arith))
    (fits_if text (begins_with ">" text) _ _ (λ _. flag_fits FractionBits 26 base closed text h)
    (fits_if text (starts_number base first) _ _ (λ _. number_fits base closed text h)
    (plain_fits text (if is_blank first then Blank else Stray first) 1 h (omega arith)))))))

pub piece_takes : (base : Base) (closed : Bool) (text : List ℕ) → 0 < length text → 0 < (piece_at base closed text).bytes
piece_takes base closed text h = omega (arith, (piece_fits base closed text h).in_piece)

-- strays are bytes of the gap
stray_more : (blank : Bool) (e : EntryShape) (es : List EntryShape) (n : ℕ) → length es ≤ n → length (if blank then es else e ∷ es) ≤ suc n
stray_more true e es n h = omega arith
stray_more false e es n h = omega arith

strays_few : (at : ℕ) (gap : List ℕ) → length (strays at gap) ≤ length gap
strays_few at [] = omega arith
strays_few at (b ∷ bs) = stray_more (is_blank b) _ (strays (at + 1) bs) (length bs) (strays_few (at + 1) bs)

one_more : (at : ℕ) (what : Option PartShape) (es : List EntryShape) → length (cons_option (option_map (entry at) what) es) ≤ 1 + length es
one_more at None es = omega arith
one_more at (Some p) es = omega arith

piece_few : (coding : Coding) (at : ℕ) (piece : Piece) → length (entries_of coding at piece) ≤ 1 + length piece.gap
piece_few coding at piece = omega (arith, one_more at (part_of coding piece.kind) (strays (at + piece.gap_at) piece.gap), strays_few (at + piece.gap_at) piece.gap)

-- the pieces after a final one are none
rest_few : (final : Bool) (before : List Piece) (at n : ℕ) (pieces : List Piece) → length (entries_from before at pieces) ≤ n
    → length (entries_from before at (elim final [ true ↦ [] | false ↦ pieces ])) ≤ n
rest_few true before at n pieces h = omega arith
rest_few false before at n pieces h = h

-- the next n pieces have at most as many entries as bytes
abbrev FewNext : ℕ → Type 0
FewNext n = (closed : Bool) (earlier : List Piece) (text : List ℕ) (before : List Piece) (at : ℕ) → length (entries_from before at (pieces_from n closed earlier text)) ≤ length text

few_step : (more : Bool) (n : ℕ) → FewNext n → (closed : Bool) (earlier : List Piece) (text : List ℕ) (before : List Piece) (at : ℕ) → nat_lt 0 (length text) ≡ more
    → length (entries_from before at (elim more [
      | false ↦ []
      | true ↦ piece_at (base_after earlier) closed text ∷ (elim (is_final (piece_at (base_after earlier) closed text).kind) [
        | true ↦ []
        | false ↦ pieces_from n closed (piece_at (base_after earlier) closed text ∷ earlier) (drop (piece_at (base_after earlier) closed text).bytes text)
      ])
    ])) ≤ length text
few_step false n next closed earlier text before at e = omega arith
few_step true n next closed earlier text before at e =
    let piece = piece_at (base_after earlier) closed text in
    let left = pieces_from n closed (piece ∷ earlier) (drop piece.bytes text) in
    let some : 0 < length text = grind (arith, nat_tests, e) in
    let fits = piece_fits (base_after earlier) closed text some in
    let rest = rest_few (is_final piece.kind) (piece ∷ before) (at + piece.bytes) (length text - piece.bytes) left
    (omega (arith, next closed (piece ∷ earlier) (drop piece.bytes text) (piece ∷ before) (at + piece.bytes), length-drop piece.bytes text)) in
    omega (arith, length-append (entries_of (coding_after before) at piece) (entries_from (piece ∷ before) (at + piece.bytes) (elim (is_final piece.kind) [ true ↦ [] | false ↦ left ])), piece_few (coding_after before) at piece, fits.in_text, fits.in_piece, rest)

few_from : (n : ℕ) → FewNext n
few_from zero closed earlier text before at = omega arith
few_from (suc n) closed earlier text before at = few_step (nat_lt 0 (length text)) n (few_from n) closed earlier text before at refl

pub entries_few : EntriesAreFew
entries_few closed at text = few_from (length text) closed [] text [] at
