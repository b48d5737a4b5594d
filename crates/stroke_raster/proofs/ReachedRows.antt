-- How many pixels of several rows are reached.
use Rattle.std.proofs.Common.{◌≡◌, ℕ, zero, suc, ◌+◌, ◌-◌, ◌*◌, ◌<◌, ◌≤◌, Bool, true, false, min, cond, refl, sym, ap, ◌∙◌, arith, inl, inr}
use Rattle.std.proofs.lemmas.Bool.{cases_lt, cases_Bool}
use Rattle.std.proofs.lemmas.List.Sums.{sum-map}
use Rattle.std.proofs.lemmas.List.FromFn.{sum_by-map-range_with_len_more}
use Rattle.std.specs.List.{range_with_len}
use Rattle.plot_page.specs.Segments.{Segment}
use Rattle.plot_page.specs.declared.page.Page.{Page}
use Rattle.plot_page.specs.declared.dots.Dots.{Dots}
use Rattle.stroke_raster.specs.Tests.{reached, reached_pixels, MOST_TESTS}
use Rattle.stroke_raster.proofs.Reached.{reached_more}

-- one more column
column_more : (p : ℕ → Bool) (from n : ℕ) → reached p from (suc n) ≡ reached p from n + cond (p (from + n)) 1 0
column_more p from n = let z : n + 1 ≡ suc n = omega arith in ap (λ (k : ℕ). reached p from k) (sym z) ∙ reached_more p from n

-- fewer columns, fewer pixels
columns_up : (p : ℕ → Bool) (from n k : ℕ) → reached p from n ≤ reached p from (n + k)
columns_up p from n zero = let z : n ≡ n + 0 = omega arith in rw (← z) (omega arith)
columns_up p from n (suc k) =
    let i = columns_up p from n k in
    let z : n + suc k ≡ suc (n + k) = omega arith in
    let m = column_more p from (n + k) in
    rw z (omega (arith, i, m))

columns_fewer : (p : ℕ → Bool) (from n m : ℕ) → n ≤ m → reached p from n ≤ reached p from m
columns_fewer p from n m h =
    let z : n + (m - n) ≡ m = omega arith in
    let c = columns_up p from n (m - n) in
    rw z at c

-- the pixels that are reached lie in a span of columns
span_has : (p : ℕ → Bool) (from upto n : ℕ) → ((c : ℕ) → c < n → p c ≡ true → (from ≤ c) × (c < upto)) → reached p 0 n ≤ reached p from (min n upto - from)
span_has p from upto zero h = omega arith
span_has p from upto (suc n) h =
    let i = span_has p from upto n (λ c u. h c (omega (arith, u))) in
    let m = column_more p 0 n in
    let y : 0 + n ≡ n = omega arith in
    let m' : reached p 0 (suc n) ≡ reached p 0 n + cond (p n) 1 0 = rw y at m in
    elim (cases_Bool (p n)) [
      | inl t ↦ (let b = h n (omega arith) t in
          let x : reached p 0 (suc n) ≡ reached p 0 n + 1 = rw t at m' in
          let z : from + (n - from) ≡ n = omega (arith, b.0) in
          let w = column_more p from (n - from) in
          let k : reached p from (suc (n - from)) ≡ reached p from (n - from) + 1 = rw (z, t) at w in
          let e : min n upto - from ≡ n - from = omega (arith, b.1) in
          let e' : min (suc n) upto - from ≡ suc (n - from) = omega (arith, b.0, b.1) in
          let i' : reached p 0 n ≤ reached p from (n - from) = rw e at i in
          rw e' (omega (arith, i', x, k)))
      | inr f ↦ (let x : reached p 0 (suc n) ≡ reached p 0 n + 0 = rw f at m' in
          let k = columns_fewer p from (min n upto - from) (min (suc n) upto - from) (omega arith) in
          omega (arith, i, x, k))
    ]

pub span_has_all : (p : ℕ → Bool) (from upto n : ℕ) → ((c : ℕ) → c < n → p c ≡ true → (from ≤ c) × (c < upto)) → reached p 0 n ≤ reached p from (upto - from)
span_has_all p from upto n h =
    let i = span_has p from upto n h in
    let k = columns_fewer p from (min n upto - from) (upto - from) (omega arith) in
    omega (arith, i, k)

-- one more row
pub row_reached : (p : ℕ → ℕ → Bool) (first n from m : ℕ) → reached_pixels p first (n + 1) from m ≡ reached_pixels p first n from m + reached (p (first + n)) from m
row_reached p first n from m =
    let e = sum_by-map-range_with_len_more (λ k. k) (λ row. reached (p row) from m) first n (first + n) refl in
    sym (sum-map (λ row. reached (p row) from m) (range_with_len first (n + 1))) ∙ e
    ∙ ap (λ (k : ℕ). k + reached (p (first + n)) from m) (sum-map (λ row. reached (p row) from m) (range_with_len first n))

next_row : (p : ℕ → ℕ → Bool) (first n from m : ℕ) → reached_pixels p first (suc n) from m ≡ reached_pixels p first n from m + reached (p (first + n)) from m
next_row p first n from m = let z : n + 1 ≡ suc n = omega arith in ap (λ (k : ℕ). reached_pixels p first k from m) (sym z) ∙ row_reached p first n from m

-- rows in two runs
pub runs_reached : (p : ℕ → ℕ → Bool) (first n k from m : ℕ) → reached_pixels p first (n + k) from m ≡ reached_pixels p first n from m + reached_pixels p (first + n) k from m
runs_reached p first n zero from m = let z : n ≡ n + 0 = omega arith in rw (← z) (omega arith)
runs_reached p first n (suc k) from m =
    let i = runs_reached p first n k from m in
    let y : n + suc k ≡ suc (n + k) = omega arith in
    let r : first + (n + k) ≡ first + n + k = omega arith in
    let a = next_row p first (n + k) from m in
    let b = next_row p (first + n) k from m in
    let a' : reached_pixels p first (suc (n + k)) from m ≡ reached_pixels p first (n + k) from m + reached (p (first + n + k)) from m = rw r at a in
    rw y (omega (arith, i, a', b))

-- no row, one row more, and two parts of which the second begins where the first one ends
pub none_counted : (p : ℕ → ℕ → Bool) (row from m : ℕ) → reached_pixels p row (row - row) from m ≡ 0
none_counted p row from m = let z : row - row ≡ 0 = omega arith in rw z refl

pub row_counted : (p : ℕ → ℕ → Bool) (low row from m : ℕ) → low ≤ row → reached_pixels p low (row + 1 - low) from m ≡ reached_pixels p low (row - low) from m + reached (p row) from m
row_counted p low row from m h =
    let y : row + 1 - low ≡ (row - low) + 1 = omega (arith, h) in
    let z : low + (row - low) ≡ row = omega (arith, h) in
    ap (λ (j : ℕ). reached_pixels p low j from m) y ∙ row_reached p low (row - low) from m ∙ ap (λ (j : ℕ). reached_pixels p low (row - low) from m + reached (p j) from m) z

pub parts_counted : (p : ℕ → ℕ → Bool) (low mid end from m : ℕ) → low ≤ mid → mid ≤ end → reached_pixels p low (end - low) from m ≡ reached_pixels p low (mid - low) from m + reached_pixels p mid (end - mid) from m
parts_counted p low mid end from m h k =
    let y : end - low ≡ (mid - low) + (end - mid) = omega (arith, h, k) in
    let z : low + (mid - low) ≡ mid = omega (arith, h) in
    ap (λ (j : ℕ). reached_pixels p low j from m) y ∙ runs_reached p low (mid - low) (end - mid) from m ∙ ap (λ (j : ℕ). reached_pixels p low (mid - low) from m + reached_pixels p j (end - mid) from m) z

-- the pixels that are reached lie in these rows and columns
part_has : (p : ℕ → ℕ → Bool) (first low end from upto columns n : ℕ) → first ≤ low → low ≤ end
    → ((r c : ℕ) → r < n → c < columns → p (first + r) c ≡ true → (low ≤ first + r) × ((first + r < end) × ((from ≤ c) × (c < upto))))
    → reached_pixels p first n 0 columns ≤ reached_pixels p low (min (first + n) end - low) from (upto - from)
part_has p first low end from upto columns zero above order h = omega arith
part_has p first low end from upto columns (suc n) above order h =
    let i = part_has p first low end from upto columns n above order (λ r c u. h r c (omega (arith, u))) in
    let m = next_row p first n 0 columns in
    elim (cases_lt (first + n) low) [
      | inl l ↦ (let s = span_has_all (p (first + n)) 0 0 columns (λ c u t. let b = h n c (omega arith) u t in absurd (omega (arith, b.0, l))) in
          let none : reached (p (first + n)) 0 columns ≡ 0 = omega (arith, s) in
          let e : min (first + suc n) end - low ≡ min (first + n) end - low = omega (arith, l) in
          rw e (omega (arith, i, m, none)))
      | inr l ↦ elim (cases_lt (first + n) end) [
        | inl k ↦ (let s = span_has_all (p (first + n)) from upto columns (λ c u t. (h n c (omega arith) u t).1.1) in
            let e : min (first + n) end - low ≡ first + n - low = omega (arith, k) in
            let e' : min (first + suc n) end - low ≡ first + n + 1 - low = omega (arith, k) in
            let i' : reached_pixels p first n 0 columns ≤ reached_pixels p low (first + n - low) from (upto - from) = rw e at i in
            let x = row_counted p low (first + n) from (upto - from) l in
            rw e' (omega (arith, i', m, s, x)))
        | inr k ↦ (let s = span_has_all (p (first + n)) 0 0 columns (λ c u t. let b = h n c (omega arith) u t in absurd (omega (arith, b.1.0, k))) in
            let none : reached (p (first + n)) 0 columns ≡ 0 = omega (arith, s) in
            let e : min (first + suc n) end - low ≡ min (first + n) end - low = omega (arith, k) in
            rw e (omega (arith, i, m, none)))
      ]
    ]

pub part_has_all : (p : ℕ → ℕ → Bool) (first low end from upto columns n : ℕ) → first ≤ low → low ≤ end → end ≤ first + n
    → ((r c : ℕ) → r < n → c < columns → p (first + r) c ≡ true → (low ≤ first + r) × ((first + r < end) × ((from ≤ c) × (c < upto))))
    → reached_pixels p first n 0 columns ≤ reached_pixels p low (end - low) from (upto - from)
part_has_all p first low end from upto columns n above order within h =
    let i = part_has p first low end from upto columns n above order h in
    let e : min (first + n) end ≡ end = omega (arith, within) in
    rw e at i

-- no pixel is reached
pub none_has : (p : ℕ → ℕ → Bool) (first n columns : ℕ) → ((r c : ℕ) → r < n → c < columns → p (first + r) c ≡ false) → reached_pixels p first n 0 columns ≡ 0
none_has p first n columns h =
    let i = part_has p first first first 0 0 columns n (omega arith) (omega arith) (λ r c u v t. let f = h r c u v in cc (f, t)) in
    let e : min (first + n) first - first ≡ 0 = omega arith in
    let i' : reached_pixels p first n 0 columns ≤ 0 = rw e at i in
    omega (arith, i')

-- no more than all of the pixels
columns_most : (p : ℕ → Bool) (from n : ℕ) → reached p from n ≤ n
columns_most p from zero = omega arith
columns_most p from (suc n) =
    let i = columns_most p from n in
    let m = column_more p from n in
    elim (cases_Bool (p (from + n))) [
      | inl t ↦ (let x = rw t at m in omega (arith, i, x))
      | inr f ↦ (let x = rw f at m in omega (arith, i, x))
    ]

pub reached_most : (p : ℕ → ℕ → Bool) (first n from m : ℕ) → reached_pixels p first n from m ≤ n * m
reached_most p first zero from m = omega arith
reached_most p first (suc n) from m =
    let i = reached_most p first n from m in
    let r = next_row p first n from m in
    let c = columns_most (p (first + n)) from m in
    let e : suc n * m ≡ n * m + m = omega arith in
    omega (arith, i, r, c, e)

-- the count of two parts
pub least_joined : (a r s x y : ℕ) → min (a + r) MOST_TESTS ≤ x → min (x + s) MOST_TESTS ≤ y → min (a + (r + s)) MOST_TESTS ≤ y
least_joined a r s x y h k = omega (arith, h, k)

-- the count of a stroke, said of an equal stroke and an equal test
pub least_as : (f f' : Segment → Page → Dots → ℕ → ℕ → Bool) → f ≡ f' → (t t' : Segment) → t ≡ t' → (page : Page) (dots : Dots) (first rows columns x y : ℕ)
    → min (x + reached_pixels (f t page dots) first rows 0 columns) MOST_TESTS ≤ y → min (x + reached_pixels (f' t' page dots) first rows 0 columns) MOST_TESTS ≤ y
least_as f f' e t t' z page dots first rows columns x y h = rw (e, z) at h

-- what is said of a stroke and a resolution, said of equal ones
pub of_equals : {s s' : Segment} {d d' : Dots} (P : Segment → Dots → Type 0) → s ≡ s' → d ≡ d' → P s d → P s' d'
of_equals P e z h = rw (← e, ← z) h
