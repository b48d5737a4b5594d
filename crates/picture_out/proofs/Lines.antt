-- How long a line is, and that blank cells have none.
use Rattle.std.proofs.Common.{◌≡◌, ◌*◌, ◌^◌, length-append, ℕ, ◌+◌, ◌<◌, ◌≤◌, List, ◌++◌, ◌∷◌, [], get_or, length, drop, arith, ap, ◌∙◌, nat_eq, true, false, refl, cond, decimal, All, zero, suc}
use Rattle.std.proofs.lemmas.Fmt.{length-decimal-le}
use Rattle.std.proofs.lemmas.List.{get_or-drop}
use Rattle.picture_out.specs.declared.inks.Ink.{Ink}
use Rattle.picture_out.specs.Inks.{ink_at, paper}
use Rattle.picture_out.specs.Marks.{line, mark, marks_from}
use Rattle.picture_out.specs.Spans.{IsBlankOutside}
use Rattle.picture_out.proofs.Spans.{before_span, after_span}

mark_none : (r : List ℕ) (c : ℕ) (inks : List Ink) (cell : ℕ) → cell ≡ 0 → mark r c inks cell ≡ []
mark_none r c inks cell h = rw h refl

-- the cells before the span have no lines
skip : (r : List ℕ) (c n column : ℕ) (inks : List Ink) (cells : List ℕ) → c + n ≡ column → n ≤ length cells → ((k : ℕ) → k < n → get_or cells k 0 ≡ 0) → marks_from r c inks cells ≡ marks_from r column inks (drop n cells)
skip r c zero column inks cells e le h =
    let same : c ≡ column = omega (arith, e) in
    ap (λ (n : ℕ). marks_from r n inks cells) same
skip r c (suc n) column inks [] e le h = absurd (omega (arith, le))
skip r c (suc n) column inks (x ∷ xs) e le h =
    ap (λ (z : List ℕ). z ++ marks_from r (c + 1) inks xs) (mark_none r c inks x (h 0 (omega arith)))
    ∙ skip r (c + 1) n column inks xs (omega (arith, e)) (omega (arith, le)) (λ k lt. h (suc k) (omega (arith, lt)))

pub marks_before : (r : List ℕ) (inks : List Ink) (cells : List ℕ) (low end : ℕ) → IsBlankOutside cells low end → marks_from r 0 inks cells ≡ marks_from r low inks (drop low cells)
marks_before r inks cells low end span = skip r 0 low low inks cells (omega arith) (omega (arith, span.order, span.high)) (λ k lt. before_span cells low end k span lt)

-- the cells after the span have no lines
blank : (r : List ℕ) (c : ℕ) (inks : List Ink) (cells : List ℕ) → ((k : ℕ) → get_or cells k 0 ≡ 0) → marks_from r c inks cells ≡ []
blank r c inks [] h = refl
blank r c inks (x ∷ xs) h = rw (mark_none r c inks x (h 0)) (blank r (c + 1) inks xs (λ k. h (suc k)))

pub marks_after : (r : List ℕ) (inks : List Ink) (cells : List ℕ) (low end column : ℕ) → IsBlankOutside cells low end → end ≤ column → marks_from r column inks (drop column cells) ≡ []
marks_after r inks cells low end column span le = blank r column inks (drop column cells) (λ k. get_or-drop column cells k 0 ∙ after_span cells low end (column + k) span (omega (arith, le)))

-- a line takes at most 33 bytes
line_size : (r : List ℕ) (c : ℕ) (ink : Ink) → length r ≤ 10 → c < 2 ^ 32 → ink.pen < 256 → length (line r c ink) ≤ 33
line_size r c ink hr hc hp =
    let dc : length (decimal c) ≤ 10 = length-decimal-le 10 c (omega arith) (omega arith) (omega arith) in
    let dp : length (decimal ink.pen) ≤ 3 = length-decimal-le 3 ink.pen (omega arith) (omega arith) (omega arith) in
    simp length-append (omega arith)

mark_size : (r : List ℕ) (c : ℕ) (inks : List Ink) (cell : ℕ) → length r ≤ 10 → c < 2 ^ 32 → (ink_at inks cell).pen < 256 → length (mark r c inks cell) ≤ 33
mark_size r c inks cell hr hc hp = elim (nat_eq cell 0) as (λ b. length (cond b [] (line r c (ink_at inks cell))) ≤ 33) [ true ↦ omega arith | false ↦ line_size r c (ink_at inks cell) hr hc hp ]

pub marks_size : (r : List ℕ) (c : ℕ) (inks : List Ink) (cells : List ℕ) → length r ≤ 10 → c + length cells ≤ 2 ^ 32 → ((cell : ℕ) → (ink_at inks cell).pen < 256) → length (marks_from r c inks cells) ≤ 33 * length cells
marks_size r c inks [] hr hc h = omega arith
marks_size r c inks (x ∷ xs) hr hc h =
    let one : length (mark r c inks x) ≤ 33 = mark_size r c inks x hr (omega arith) (h x) in
    let more : length (marks_from r (c + 1) inks xs) ≤ 33 * length xs = marks_size r (c + 1) inks xs hr (omega arith) h in
    omega (arith, length-append (mark r c inks x) (marks_from r (c + 1) inks xs))

pub marks_row_size : (index : ℕ) (inks : List Ink) (cells : List ℕ) → index < 2 ^ 32 → length cells ≤ 2 ^ 32 → ((cell : ℕ) → (ink_at inks cell).pen < 256) → length (marks_from (decimal index) 0 inks cells) ≤ 33 * length cells
marks_row_size index inks cells hi hl h = marks_size (decimal index) 0 inks cells (length-decimal-le 10 index (omega arith) (omega arith) (omega arith)) (omega arith) h

-- the pen at each position, read past the end too
pub pens_are_bytes : (inks : List Ink) → All (λ ink. ink.pen < 256) inks → (n : ℕ) → (get_or inks n paper).pen < 256
pens_are_bytes [] h n = omega arith
pens_are_bytes (x ∷ xs) h zero = h 0 paper (omega arith)
pens_are_bytes (x ∷ xs) h (suc n) = pens_are_bytes xs (λ k d lt. h (suc k) d (omega (arith, lt))) n
