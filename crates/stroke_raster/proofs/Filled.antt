-- Pixels that several ranges of columns fill.
use Rattle.std.proofs.Common.{◌≡◌, ℕ, ◌+◌, ◌≤◌, ◌<◌, Bool, true, false, ◌&&◌, ◌||◌, cond, nat_eq, nat_lt, refl, sym, ap, ◌∙◌, arith, inl, inr}
use Rattle.std.proofs.lemmas.Bool.{cases_Bool, cases_lt}
use Rattle.std.proofs.lemmas.Bool.Decides.{nat_tests}
use Rattle.areas.specs.Crossings.{is_in}
use Rattle.areas.specs.declared.range.ColumnRange.{ColumnRange}
use Rattle.stroke_raster.specs.declared.strip.Span.{Span}
use Rattle.stroke_raster.specs.Spans.{holds}

-- no range yet
pub filled_none : (a b : Bool) (m x : ℕ) → x ≡ cond (a && (b && false)) m x
filled_none true true m x = refl
filled_none true false m x = refl
filled_none false b m x = refl

-- one range more
pub filled_more : (a b c d h : Bool) (m x : ℕ) → h ≡ (b && c) → cond (a && h) m (cond (a && (b && d)) m x) ≡ cond (a && (b && (d || c))) m x
filled_more a b c d h m x e = ap (λ (h' : Bool). cond (a && h') m (cond (a && (b && d)) m x)) e ∙ cases a b c d
  where
    cases : (a b c d : Bool) → cond (a && (b && c)) m (cond (a && (b && d)) m x) ≡ cond (a && (b && (d || c))) m x
    cases true true true true = refl
    cases true true true false = refl
    cases true true false true = refl
    cases true true false false = refl
    cases true false c d = refl
    cases false b c d = refl

-- a row that the window does not have, and one that it has
pub unseen : (a b c i : Bool) (m x : ℕ) → b ≡ false → x ≡ cond (a && ((c && b) && i)) m x
unseen a b c i m x e = sym (ap (λ (b' : Bool). cond (a && ((c && b') && i)) m x) e ∙ cases a c i)
  where
    cases : (a c i : Bool) → cond (a && ((c && false) && i)) m x ≡ x
    cases true true i = refl
    cases true false i = refl
    cases false c i = refl

pub seen : (a b c i h j : Bool) (m x : ℕ) → b ≡ true → h ≡ c → j ≡ i → cond (a && (h && j)) m x ≡ cond (a && ((c && b) && i)) m x
seen a b c i h j m x eb eh ej = rw (eb, eh, ej) (ap (λ (t : Bool). cond (a && (t && i)) m x) (sym (and_true c)))
  where
    and_true : (c : Bool) → (c && true) ≡ c
    and_true true = refl
    and_true false = refl

-- what a stroke paints, and then an area
pub painted_both : (a b : Bool) (m x : ℕ) → cond b m (cond a m x) ≡ cond (a || b) m x
painted_both true true m x = refl
painted_both true false m x = refl
painted_both false b m x = refl

-- the columns that a range and a span share
pub shared : (range : ColumnRange) (columns : Span) (low end k : ℕ)
    → ((range.first ≤ k) → (columns.low ≤ k) → (k < range.end) → (k < columns.end) → (low ≤ k) × (k < end))
    → ((low ≤ k) → (k < end) → (range.first ≤ k) × (columns.low ≤ k) × (k < range.end) × (k < columns.end))
    → holds (record { low = low; end = end }) k ≡ (holds columns k && is_in range k)
shared range columns low end k to from = grind (arith, nat_tests, to, from)

-- rows so far, and one more
pub row_before : (a b : ℕ) (t : Bool) (m x : ℕ) → (a < b → t ≡ false) → x ≡ cond (nat_lt a b && t) m x
row_before a b t m x h = elim (cases_lt a b) [
  | inl l ↦ (let e : nat_lt a b ≡ true = grind (arith, nat_tests) in let f = h l in rw (e, f) refl)
  | inr l ↦ (let e : nat_lt a b ≡ false = grind (arith, nat_tests) in rw e refl)
]

pub row_next : (first r row at : ℕ) (t u : Bool) (m x : ℕ) → row ≡ first + at → (first + r ≡ row → u ≡ t)
    → cond (nat_eq r at && u) m (cond (nat_lt (first + r) row && t) m x) ≡ cond (nat_lt (first + r) (row + 1) && t) m x
row_next first r row at t u m x e same = elim (cases_lt (first + r) row) [
  | inl l ↦ (let p : nat_lt (first + r) row ≡ true = grind (arith, nat_tests) in
      let q : nat_lt (first + r) (row + 1) ≡ true = grind (arith, nat_tests) in
      let n : nat_eq r at ≡ false = grind (arith, nat_tests) in
      rw (p, q, n) refl)
  | inr l ↦ (let p : nat_lt (first + r) row ≡ false = grind (arith, nat_tests) in
      elim (cases_Bool (nat_eq r at)) [
        | inl y ↦ (let z : first + r ≡ row = grind (arith, nat_tests, y, e) in
            let q : nat_lt (first + r) (row + 1) ≡ true = grind (arith, nat_tests, z) in
            let s = same z in
            rw (p, q, y, s) refl)
        | inr y ↦ (let z : (first + r ≡ row) → ⊥ = (λ w. let k : nat_eq r at ≡ true = grind (arith, nat_tests, w, e) in let bad : true ≡ false = sym k ∙ y in cc bad) in
            let q : nat_lt (first + r) (row + 1) ≡ false = grind (arith, nat_tests, z) in
            rw (p, q, y) refl)
      ])
]

pub rows_all : (a b : ℕ) (t : Bool) (m x : ℕ) → (b ≤ a → t ≡ false) → cond (nat_lt a b && t) m x ≡ cond t m x
rows_all a b t m x h = elim (cases_lt a b) [
  | inl l ↦ (let e : nat_lt a b ≡ true = grind (arith, nat_tests) in rw e refl)
  | inr l ↦ (let e : nat_lt a b ≡ false = grind (arith, nat_tests) in let f = h l in rw (e, f) refl)
]

-- a row of a span that has only this one
pub one_row : (row r : ℕ) → holds (record { low = row; end = row + 1 }) (0 + r) ≡ nat_eq r row
one_row row r = grind (arith, nat_tests)

pub not_true : (b : Bool) → (b ≡ true → ⊥) → b ≡ false
not_true true h = absurd (h refl)
not_true false h = refl
