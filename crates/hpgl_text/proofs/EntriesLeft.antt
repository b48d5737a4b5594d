-- What is left of the entries of a polyline, a piece at a time.
use Rattle.std.proofs.Common.{◌≡◌, ℕ, ℤ, zero, suc, ◌+◌, ◌<◌, ◌≤◌, Bool, true, false, not, nat_lt, List, [], ◌∷◌, ◌++◌, length, drop, Option, option_map, Some, None, inl, inr, refl, ap, ap₂, sym, ◌∙◌, arith, append-nil, length-drop}
use Rattle.std.proofs.lemmas.Bool.{cases_lt}
use Rattle.std.proofs.lemmas.Bool.Decides.{nat_tests}
use Rattle.std.proofs.lemmas.List.Sums.{take_while-cons}
use Rattle.std.specs.List.{list_any, cons_option}
use Rattle.hpgl_text.specs.declared.polyline.coding.Coding.{Coding}
use Rattle.hpgl_text.specs.declared.polyline.kind.PieceKind.{PieceKind}
use Rattle.hpgl_text.specs.declared.polyline.kind.PieceKind.TheVariants.{Blank, Narrow, Up, Absolute, FractionBits, Pen, Pair, Stray, Dropped, Bad, Cut}
use Rattle.hpgl_text.specs.EntryShapes.{PartShape, EntryShape}
use Rattle.hpgl_text.specs.Polylines.{Piece, piece_at, is_final, base_after, pieces_from}
use Rattle.hpgl_text.specs.Polylines.{bits_after, is_pair, is_up, is_absolute, since_pair, coding_after, part_of, entry, strays, entries_of, entries_from, entries}
use Rattle.hpgl_text.specs.Carried.{next_coding, entries_by, entries_left, IsClosePair}
use Rattle.hpgl_text.proofs.EntryCounts.{piece_takes}

abbrev piece_by : PieceKind → ℕ → List ℕ → ℕ → Piece
piece_by kind gap_at gap bytes = record { kind = kind; gap_at = gap_at; gap = gap; bytes = bytes }

-- the pieces since the last pair, with one more
kept : (before : List Piece) (piece : Piece) → is_pair piece.kind ≡ false → since_pair (piece ∷ before) ≡ piece ∷ since_pair before
kept before piece h = take_while-cons (λ (p : Piece). not (is_pair p.kind)) piece before ∙ rw h refl

begun : (before : List Piece) (piece : Piece) → is_pair piece.kind ≡ true → since_pair (piece ∷ before) ≡ []
begun before piece h = take_while-cons (λ (p : Piece). not (is_pair p.kind)) piece before ∙ rw h refl

-- the flags are those of these pieces
abbrev coding_with : List Piece → List Piece → Coding
coding_with before since = record {
  base = base_after before;
  bits = bits_after before;
  up = list_any (λ (p : Piece). is_up p.kind) since;
  absolute = list_any (λ (p : Piece). is_absolute p.kind) since;
}

unpaired : (before : List Piece) (piece : Piece) → is_pair piece.kind ≡ false → coding_with (piece ∷ before) (piece ∷ since_pair before) ≡ coding_after (piece ∷ before)
unpaired before piece h = ap (coding_with (piece ∷ before)) (sym (kept before piece h))

one_more_kind : (before : List Piece) (kind : PieceKind) (gap_at : ℕ) (gap : List ℕ) (bytes : ℕ) → next_coding (coding_after before) kind ≡ coding_after (piece_by kind gap_at gap bytes ∷ before)
one_more_kind before Blank gap_at gap bytes = unpaired before (piece_by Blank gap_at gap bytes) refl
one_more_kind before Narrow gap_at gap bytes = unpaired before (piece_by Narrow gap_at gap bytes) refl
one_more_kind before Up gap_at gap bytes = unpaired before (piece_by Up gap_at gap bytes) refl
one_more_kind before Absolute gap_at gap bytes = unpaired before (piece_by Absolute gap_at gap bytes) refl
one_more_kind before (FractionBits n) gap_at gap bytes = unpaired before (piece_by (FractionBits n) gap_at gap bytes) refl
one_more_kind before (Pen n) gap_at gap bytes = unpaired before (piece_by (Pen n) gap_at gap bytes) refl
one_more_kind before (Pair x y) gap_at gap bytes = ap (coding_with (piece_by (Pair x y) gap_at gap bytes ∷ before)) (sym (begun before (piece_by (Pair x y) gap_at gap bytes) refl))
one_more_kind before (Stray b) gap_at gap bytes = unpaired before (piece_by (Stray b) gap_at gap bytes) refl
one_more_kind before Dropped gap_at gap bytes = unpaired before (piece_by Dropped gap_at gap bytes) refl
one_more_kind before Bad gap_at gap bytes = unpaired before (piece_by Bad gap_at gap bytes) refl
one_more_kind before Cut gap_at gap bytes = unpaired before (piece_by Cut gap_at gap bytes) refl

one_more : (before : List Piece) (piece : Piece) → next_coding (coding_after before) piece.kind ≡ coding_after (piece ∷ before)
one_more before piece = one_more_kind before piece.kind piece.gap_at piece.gap piece.bytes

-- a piece, and the entries after it
abbrev then_left : ℕ → Bool → Coding → ℕ → List ℕ → Piece → List EntryShape
then_left n closed coding at text piece = entries_of coding at piece ++ (elim (is_final piece.kind) [
  | true ↦ []
  | false ↦ entries_by n closed (next_coding coding piece.kind) (at + piece.bytes) (drop piece.bytes text)
])

is_more : (n : ℕ) → 0 < n → nat_lt 0 n ≡ true
is_more n h = grind (arith, nat_tests)

is_none : (n : ℕ) → n ≤ 0 → nat_lt 0 n ≡ false
is_none n h = grind (arith, nat_tests)

by_none : (n : ℕ) (closed : Bool) (coding : Coding) (at : ℕ) (text : List ℕ) → length text ≤ 0 → entries_by n closed coding at text ≡ []
by_none zero closed coding at text h = refl
by_none (suc n) closed coding at text h = let e = is_none (length text) h in rw (e, entries_by) refl

by_piece : (n : ℕ) (closed : Bool) (coding : Coding) (at : ℕ) (text : List ℕ) → 0 < length text
    → entries_by (suc n) closed coding at text ≡ then_left n closed coding at text (piece_at coding.base closed text)
by_piece n closed coding at text h = let e = is_more (length text) h in rw (e, entries_by) refl

-- enough pieces are as good as any more
same_left : (n m : ℕ) (closed : Bool) (coding : Coding) (at : ℕ) (text : List ℕ) → length text ≤ n → length text ≤ m → entries_by n closed coding at text ≡ entries_by m closed coding at text
same_left zero m closed coding at text h k = sym (by_none m closed coding at text h)
same_left (suc n) zero closed coding at text h k = by_none (suc n) closed coding at text k
same_left (suc n) (suc m) closed coding at text h k = elim (cases_lt 0 (length text)) [
  | inr none ↦ by_none (suc n) closed coding at text none ∙ sym (by_none (suc m) closed coding at text none)
  | inl some ↦ (let piece = piece_at coding.base closed text in
      let takes = piece_takes coding.base closed text some in
      let l = length-drop piece.bytes text in
      by_piece n closed coding at text some
      ∙ ap (λ (es : List EntryShape). entries_of coding at piece ++ (elim (is_final piece.kind) [ true ↦ [] | false ↦ es ]))
      (same_left n m closed (next_coding coding piece.kind) (at + piece.bytes) (drop piece.bytes text) (omega (arith, takes, l)) (omega (arith, takes, l)))
      ∙ sym (by_piece m closed coding at text some))
]

-- past the end nothing is left
pub none_left : (closed : Bool) (coding : Coding) (at : ℕ) (text : List ℕ) → length text ≤ 0 → entries_left closed coding at text ≡ []
none_left closed coding at text h = by_none (length text) closed coding at text h

first_left : (closed : Bool) (coding : Coding) (at : ℕ) (text : List ℕ) → 0 < length text
    → entries_left closed coding at text ≡ then_left (length text) closed coding at text (piece_at coding.base closed text)
first_left closed coding at text h = same_left (length text) (suc (length text)) closed coding at text (omega arith) (omega arith) ∙ by_piece (length text) closed coding at text h

-- the last piece
last_left : (closed : Bool) (coding : Coding) (at : ℕ) (text : List ℕ) (piece : Piece) → 0 < length text → piece ≡ piece_at coding.base closed text → is_final piece.kind ≡ true
    → entries_left closed coding at text ≡ entries_of coding at piece
last_left closed coding at text piece h p f =
    first_left closed coding at text h ∙ ap (then_left (length text) closed coding at text) (sym p) ∙ rw f (append-nil (entries_of coding at piece))

-- a piece that is not the last
next_left : (closed : Bool) (coding coding' : Coding) (at : ℕ) (text : List ℕ) (piece : Piece) → 0 < length text → piece ≡ piece_at coding.base closed text → is_final piece.kind ≡ false
    → coding' ≡ next_coding coding piece.kind → entries_left closed coding at text ≡ entries_of coding at piece ++ entries_left closed coding' (at + piece.bytes) (drop piece.bytes text)
next_left closed coding coding' at text piece h p f c =
    let takes = ap (λ (x : Piece). x.bytes) p in
    first_left closed coding at text h ∙ ap (then_left (length text) closed coding at text) (sym p)
    ∙ rw f (ap (λ (es : List EntryShape). entries_of coding at piece ++ es)
    (same_left (length text) (length (drop piece.bytes text)) closed (next_coding coding piece.kind) (at + piece.bytes) (drop piece.bytes text) (omega (arith, length-drop piece.bytes text)) (omega arith)
    ∙ ap (λ (x : Coding). entries_left closed x (at + piece.bytes) (drop piece.bytes text)) (sym c)))

-- the entry of a piece, if it has one of its own, its strays, and what follows them
with_rest : (part : Option PartShape) (at : ℕ) (within rest : List EntryShape) → cons_option (option_map (entry at) part) within ++ rest ≡ cons_option (option_map (entry at) part) (within ++ rest)
with_rest None at within rest = refl
with_rest (Some what) at within rest = refl

pub last_read : (closed : Bool) (coding : Coding) (at : ℕ) (text : List ℕ) (piece : Piece) (part : Option PartShape) (within : List EntryShape) (at' : ℕ) → 0 < length text
    → piece ≡ piece_at coding.base closed text → is_final piece.kind ≡ true → part_of coding piece.kind ≡ part → within ≡ strays (at + piece.gap_at) piece.gap
    → entries_left closed coding at text ≡ cons_option (option_map (entry at) part) (within ++ entries_left closed coding at' [])
last_read closed coding at text piece part within at' h p f e w =
    last_left closed coding at text piece h p f
    ∙ ap₂ (λ (x : Option PartShape) (es : List EntryShape). cons_option (option_map (entry at) x) es) e (sym w ∙ sym (append-nil within))

pub next_read : (closed : Bool) (coding coding' : Coding) (at at' : ℕ) (text text' : List ℕ) (piece : Piece) (part : Option PartShape) (within : List EntryShape) → 0 < length text
    → piece ≡ piece_at coding.base closed text → is_final piece.kind ≡ false → part_of coding piece.kind ≡ part → within ≡ strays (at + piece.gap_at) piece.gap
    → coding' ≡ next_coding coding piece.kind → at' ≡ at + piece.bytes → text' ≡ drop piece.bytes text
    → entries_left closed coding at text ≡ cons_option (option_map (entry at) part) (within ++ entries_left closed coding' at' text')
next_read closed coding coding' at at' text text' piece part within h p f e w c a t =
    next_left closed coding coding' at text piece h p f c
    ∙ ap₂ (λ (x : Option PartShape) (es : List EntryShape). cons_option (option_map (entry at) x) es ++ entries_left closed coding' (at + piece.bytes) (drop piece.bytes text)) e (sym w)
    ∙ ap₂ (λ (n : ℕ) (t : List ℕ). cons_option (option_map (entry at) part) within ++ entries_left closed coding' n t) (sym a) (sym t)
    ∙ with_rest part at within (entries_left closed coding' at' text')

-- a pair whose numbers nothing separates
pub pair_read : (closed : Bool) (coding coding' : Coding) (at at' : ℕ) (text text' : List ℕ) (x y : ℤ) (bytes : ℕ) (what : PartShape) → 0 < length text
    → IsClosePair (piece_at coding.base closed text) x y bytes → part_of coding (Pair x y) ≡ Some what → coding' ≡ next_coding coding (Pair x y) → at' ≡ at + bytes → text' ≡ drop bytes text
    → entries_left closed coding at text ≡ entry at what ∷ entries_left closed coding' at' text'
pair_read closed coding coding' at at' text text' x y bytes what h p e c a t =
    let piece = piece_at coding.base closed text in
    next_read closed coding coding' at at' text text' piece (Some what) [] h refl
    (ap (λ (k : PieceKind). is_final k) p.kind_is)
    (ap (λ (k : PieceKind). part_of coding k) p.kind_is ∙ e)
    (sym (ap (λ (g : List ℕ). strays (at + piece.gap_at) g) p.gap_is))
    (c ∙ sym (ap (λ (k : PieceKind). next_coding coding k) p.kind_is))
    (a ∙ sym (ap (λ (n : ℕ). at + n) p.bytes_is))
    (t ∙ sym (ap (λ (n : ℕ). drop n text) p.bytes_is))

-- looking back comes to the same
after_piece : (final : Bool) (before : List Piece) (at : ℕ) (pieces : List Piece) (es : List EntryShape) → entries_from before at pieces ≡ es
    → entries_from before at (elim final [ true ↦ [] | false ↦ pieces ]) ≡ elim final [ true ↦ [] | false ↦ es ]
after_piece true before at pieces es h = refl
after_piece false before at pieces es h = h

looks_back : (n : ℕ) (closed : Bool) (before : List Piece) (at : ℕ) (text : List ℕ) → entries_from before at (pieces_from n closed before text) ≡ entries_by n closed (coding_after before) at text
looks_back zero closed before at text = refl
looks_back (suc n) closed before at text = elim (cases_lt 0 (length text)) [
  | inr none ↦ (let e = is_none (length text) none in rw (e, pieces_from, entries_by) refl)
  | inl some ↦ (let e = is_more (length text) some in
      let piece = piece_at (base_after before) closed text in
      let rest = drop piece.bytes text in
      let next : entries_from (piece ∷ before) (at + piece.bytes) (pieces_from n closed (piece ∷ before) rest) ≡ entries_by n closed (next_coding (coding_after before) piece.kind) (at + piece.bytes) rest =
      looks_back n closed (piece ∷ before) (at + piece.bytes) rest ∙ ap (λ (x : Coding). entries_by n closed x (at + piece.bytes) rest) (sym (one_more before piece)) in
      rw (e, pieces_from, entries_by) (ap (λ (es : List EntryShape). entries_of (coding_after before) at piece ++ es) (after_piece (is_final piece.kind) (piece ∷ before) (at + piece.bytes) _ _ next)))
]

-- all the entries are left at the beginning
pub all_left : (closed : Bool) (at : ℕ) (text : List ℕ) → entries_left closed (coding_after []) at text ≡ entries closed at text
all_left closed at text = sym (looks_back (length text) closed [] at text)
