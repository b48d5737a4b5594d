-- Parts of a band's rows, inked one after the other.
use Rattle.std.proofs.Common.{◌≡◌, ℕ, ◌+◌, ◌-◌, ◌*◌, ◌/◌, ◌<◌, ◌≤◌, ◌≢◌, Bool, true, false, nat_le, nat_lt, ◌&&◌, cond, List, length, get_or, refl, sym, ap, ◌∙◌, arith, inl, inr}
use Rattle.std.proofs.lemmas.Bool.{cases_eq, cases_lt}
use Rattle.std.proofs.lemmas.Bool.Decides.{nat_tests}
use Rattle.std.proofs.lemmas.Nat.{mul-le}
use borrow.Rule.Slice.PartMut.{put_mid, mid_of}
use Rattle.plot_page.specs.declared.page.Page.{Page}
use Rattle.plot_page.specs.declared.dots.Dots.{Dots}
use Rattle.stroke_raster.specs.declared.strip.Span.{Span}
use Rattle.stroke_raster.specs.declared.layout.Layout.{Layout}
use Rattle.stroke_raster.specs.Inks.{ink, ink_at, IsInked, IsReached}
use Rattle.stroke_raster.specs.Parts.{ArePartInked, IsPart}
use Rattle.stroke_raster.proofs.Inks.{ink_as, ink_here, ink_same}
use Rattle.stroke_raster.proofs.Middle.{mid_below, mid_at, mid_length, mid_old}

le_is : (a b : ℕ) → a ≤ b → nat_le a b ≡ true
le_is a b h = grind (arith, nat_tests)

le_not : (a b : ℕ) → b < a → nat_le a b ≡ false
le_not a b h = grind (arith, nat_tests)

lt_is : (a b : ℕ) → a < b → nat_lt a b ≡ true
lt_is a b h = grind (arith, nat_tests)

lt_not : (a b : ℕ) → b ≤ a → nat_lt a b ≡ false
lt_not a b h = grind (arith, nat_tests)

-- a row is not in a span that is only another row
row_beside : (row n : ℕ) → n ≢ row → (nat_le row n && nat_lt n (row + 1)) ≡ false
row_beside row n ne = elim (cases_lt n row) [
  | inl l ↦ rw (le_not row n l) refl
  | inr l ↦ rw (le_is row n l, lt_not n (row + 1) (omega (arith, l, ne))) refl
]

-- one row inked
pub row_inked : (reached : ℕ → ℕ → Bool) (layout : Layout) (row from many A K : ℕ) (bits line : List ℕ)
    → layout.first ≤ row → row < layout.first + layout.rows → from + many ≤ 8 * layout.stride → length bits ≡ layout.rows * layout.stride → A ≡ (row - layout.first) * layout.stride → K ≡ length bits - A → length line ≡ K
    → IsReached (reached row) from many (mid_of A K bits) line
    → ArePartInked reached layout (record { low = row; end = row + 1 }) (record { low = from; end = from + many }) bits (put_mid A K bits line)
row_inked reached layout row from many A K bits line low high fit len eA eK long new r k u v =
    let place : k / 8 < layout.stride = omega (arith, v) in
    let whole : (r + 1) * layout.stride ≤ layout.rows * layout.stride = mul-le (r + 1) layout.stride layout.rows layout.stride (omega (arith, u)) (omega arith) in
    let here : (row - layout.first + 1) * layout.stride ≤ layout.rows * layout.stride = mul-le (row - layout.first + 1) layout.stride layout.rows layout.stride (omega (arith, low, high)) (omega arith) in
    let inside : A + layout.stride ≤ length bits = omega (arith, here, eA, len) in
    let AK : A + K ≤ length bits = omega (arith, inside, eK) in
    elim (cases_eq r (row - layout.first)) [
      | inl e ↦ (let w : layout.first + r ≡ row = omega (arith, e, low) in
          let a = le_is row (layout.first + r) (omega (arith, w)) in
          let b = lt_is (layout.first + r) (row + 1) (omega (arith, w)) in
          let rs : r * layout.stride ≡ A = ap (λ (n : ℕ). n * layout.stride) e ∙ sym eA in
          let n1 : get_or (put_mid A K bits line) (r * layout.stride + k / 8) 0 ≡ get_or line (k / 8) 0 = ap (λ (n : ℕ). get_or (put_mid A K bits line) (n + k / 8) 0) rs ∙ mid_at A K bits line (k / 8) (omega (arith, place, inside, eK)) AK long in
          let o1 : get_or bits (r * layout.stride + k / 8) 0 ≡ get_or (mid_of A K bits) (k / 8) 0 = ap (λ (n : ℕ). get_or bits (n + k / 8) 0) rs ∙ sym (mid_old A K bits (k / 8) (omega (arith, place, inside, eK)) AK) in
          let n2 : ink_at layout.stride (put_mid A K bits line) r k ≡ ink line k = ink_here (put_mid A K bits line) line layout.stride r k n1 in
          let o2 : ink_at layout.stride bits r k ≡ ink (mid_of A K bits) k = ink_here bits (mid_of A K bits) layout.stride r k o1 in
          elim (cases_lt k from) [
            | inl l ↦ (let c = le_not from k l in
                rw (a, b, c) (n2 ∙ new.before k l ∙ sym o2))
            | inr l ↦ elim (cases_lt k (from + many)) [
              | inl m ↦ (let z : from + (k - from) ≡ k = omega (arith, l) in
                  let c = le_is from k l in
                  let d = lt_is k (from + many) m in
                  let x = new.within (k - from) (omega (arith, l, m)) in
                  let y : ink line k ≡ cond (reached row k) 1 (ink (mid_of A K bits) k) = rw z at x in
                  rw (a, b, c, d) (n2 ∙ y ∙ ap (λ (n : ℕ). cond (reached row k) 1 n) (sym o2) ∙ ap (λ (n : ℕ). cond (reached n k) 1 (ink_at layout.stride bits r k)) (sym w)))
              | inr m ↦ (let c = le_is from k l in
                  let d = lt_not k (from + many) m in
                  rw (a, b, c, d) (n2 ∙ new.after k m ∙ sym o2))
            ]
          ])
      | inr ne ↦ (let a = row_beside row (layout.first + r) (λ w. ne (omega (arith, w))) in
          let t : ink_at layout.stride (put_mid A K bits line) r k ≡ ink_at layout.stride bits r k = elim (cases_lt r (row - layout.first)) [
            | inl l ↦ (let p : (r + 1) * layout.stride ≤ (row - layout.first) * layout.stride = mul-le (r + 1) layout.stride (row - layout.first) layout.stride (omega (arith, l)) (omega arith) in
                ink_same bits (put_mid A K bits line) layout.stride r k (mid_below A K bits line (r * layout.stride + k / 8) (omega (arith, p, place, eA)) AK long))
            | inr l ↦ (let p : (row - layout.first + 1) * layout.stride ≤ r * layout.stride = mul-le (row - layout.first + 1) layout.stride r layout.stride (omega (arith, l, ne)) (omega arith) in
                let d : A + (r * layout.stride - A) ≡ r * layout.stride = omega (arith, p, eA) in
                let in_ : r * layout.stride - A + k / 8 < K = omega (arith, whole, place, len, eK, d) in
                let at : r * layout.stride + k / 8 ≡ A + (r * layout.stride - A + k / 8) = omega (arith, d) in
                let n1 : get_or (put_mid A K bits line) (r * layout.stride + k / 8) 0 ≡ get_or line (r * layout.stride - A + k / 8) 0 = ap (λ (n : ℕ). get_or (put_mid A K bits line) n 0) at ∙ mid_at A K bits line (r * layout.stride - A + k / 8) in_ AK long in
                let o1 : get_or bits (r * layout.stride + k / 8) 0 ≡ get_or (mid_of A K bits) (r * layout.stride - A + k / 8) 0 = ap (λ (n : ℕ). get_or bits n 0) at ∙ sym (mid_old A K bits (r * layout.stride - A + k / 8) in_ AK) in
                ink_as (put_mid A K bits line) line layout.stride r (r * layout.stride - A) k n1
                ∙ new.after (8 * (r * layout.stride - A) + k) (omega (arith, p, eA, fit))
                ∙ sym (ink_as bits (mid_of A K bits) layout.stride r (r * layout.stride - A) k o1))
          ] in
          rw a t)
    ]

-- the pixels of a run are those that are reached
pub run_reached : (p : ℕ → Bool) (from many low end : ℕ) (old new : List ℕ) → low ≤ end → end ≤ many
    → ((i : ℕ) → i < low → p (from + i) ≡ false) → ((i : ℕ) → low ≤ i → i < end → p (from + i) ≡ true) → ((i : ℕ) → end ≤ i → i < many → p (from + i) ≡ false)
    → IsInked (from + low) (from + end) old new → IsReached p from many old new
run_reached p from many low end old new order high before inside after inked = record {
  length = inked.length;
  within = λ i u. elim (cases_lt i low) [
    | inl l ↦ rw (before i l) (inked.before (from + i) (omega (arith, l)))
    | inr l ↦ elim (cases_lt i end) [
      | inl m ↦ rw (inside i l m) (inked.inside (from + i) (omega (arith, l)) (omega (arith, m)))
      | inr m ↦ rw (after i m u) (inked.after (from + i) (omega (arith, m)))
    ]
  ];
  before = λ i u. inked.before i (omega (arith, u));
  after = λ i u. inked.after i (omega (arith, u, high));
}

-- no row inked
pub none_inked : (reached : ℕ → ℕ → Bool) (layout : Layout) (row : ℕ) (columns : Span) (bits : List ℕ)
    → ArePartInked reached layout (record { low = row; end = row }) columns bits bits
none_inked reached layout row columns bits r k u v = elim (cases_lt (layout.first + r) row) [
  | inl l ↦ rw (le_not row (layout.first + r) l) refl
  | inr l ↦ rw (le_is row (layout.first + r) l, lt_not (layout.first + r) row l) refl
]

-- two parts of which the second begins where the first one ends
parts_joined : (reached : ℕ → ℕ → Bool) (layout : Layout) (low mid end : ℕ) (columns : Span) (old between new : List ℕ) → low ≤ mid → mid ≤ end
    → ArePartInked reached layout (record { low = low; end = mid }) columns old between → ArePartInked reached layout (record { low = mid; end = end }) columns between new
    → ArePartInked reached layout (record { low = low; end = end }) columns old new
parts_joined reached layout low mid end columns old between new from to p q r k u v = elim (cases_lt (layout.first + r) mid) [
  | inl l ↦ (let a = le_not mid (layout.first + r) l in
      let b = lt_is (layout.first + r) mid l in
      let c = lt_is (layout.first + r) end (omega (arith, l, to)) in
      let x = rw b at (p r k u v) in
      let y = rw a at (q r k u v) in
      rw c (y ∙ x))
  | inr l ↦ (let a = le_is mid (layout.first + r) l in
      let b = lt_not (layout.first + r) mid l in
      let c = le_is low (layout.first + r) (omega (arith, l, from)) in
      let x = rw (c, b) at (p r k u v) in
      let y = rw a at (q r k u v) in
      rw c (y ∙ ap (λ (n : ℕ). cond (nat_lt (layout.first + r) end && (nat_le columns.low k && nat_lt k columns.end && reached (layout.first + r) k)) 1 n) x))
]

-- a row of a part lies in the band
pub row_fits : (page : Page) (dots : Dots) (layout : Layout) (part columns : Span) (row n : ℕ) → IsPart page dots layout part columns → part.low ≤ row → row < part.end → n ≡ layout.rows * layout.stride
    → (row - layout.first) * layout.stride + layout.stride ≤ n
row_fits page dots layout part columns row n p low high len =
    let m : (row - layout.first + 1) * layout.stride ≤ layout.rows * layout.stride = mul-le (row - layout.first + 1) layout.stride layout.rows layout.stride (omega (arith, low, high, p.from, p.to)) (omega arith) in
    omega (arith, m, len)

-- one row more of a part inked
pub row_added : (page : Page) (dots : Dots) (reached : ℕ → ℕ → Bool) (layout : Layout) (part columns : Span) (row A K : ℕ) (old bits line : List ℕ)
    → IsPart page dots layout part columns → part.low ≤ row → row < part.end → length bits ≡ layout.rows * layout.stride → A ≡ (row - layout.first) * layout.stride → K ≡ length bits - A
    → ArePartInked reached layout (record { low = part.low; end = row }) columns old bits → IsReached (reached row) columns.low (columns.end - columns.low) (mid_of A K bits) line
    → ArePartInked reached layout (record { low = part.low; end = row + 1 }) columns old (put_mid A K bits line)
row_added page dots reached layout part columns row A K old bits line p low high len eA eK before new =
    let fits = row_fits page dots layout part columns row (length bits) p low high len in
    let all : columns.low + (columns.end - columns.low) ≡ columns.end = omega (arith, p.columns_order) in
    let long = mid_length A K bits (omega (arith, fits, eA, eK)) in
    let one = row_inked reached layout row columns.low (columns.end - columns.low) A K bits line (omega (arith, low, p.from)) (omega (arith, high, p.to)) (omega (arith, all, p.line_in)) len eA eK (new.length ∙ long) new in
    parts_joined reached layout part.low row (row + 1) columns old bits (put_mid A K bits line) low (omega arith) before (rw all at one)

-- the pixels of one row more
pub row_more : (low row n : ℕ) → low ≤ row → (row + 1 - low) * n ≡ (row - low) * n + n
row_more low row n h = let e : row + 1 - low ≡ (row - low) + 1 = omega (arith, h) in rw e (omega arith)

-- the pixels of two parts
pub rows_joined : (low mid end n : ℕ) → low ≤ mid → mid ≤ end → (mid - low) * n + (end - mid) * n ≡ (end - low) * n
rows_joined low mid end n h k = let e : end - low ≡ (mid - low) + (end - mid) = omega (arith, h, k) in rw e (omega arith)
