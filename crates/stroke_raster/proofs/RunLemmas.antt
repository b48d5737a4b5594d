-- The covered pixels of a row form a run.
use Rattle.std.proofs.Common.{◌≡◌, ℕ, ◌+◌, ◌-◌, ◌*◌, ◌<◌, ◌≤◌, inl, inr, refl, sym, ap, ap₂, ◌∙◌, arith, ℤ, pos, negsuc}
use Rattle.std.proofs.Common.{◌+ℤ◌, ◌-ℤ◌, ◌*ℤ◌, ◌≤ℤ◌, ◌<ℤ◌, nat_abs, true, false, int_le}
use Rattle.std.proofs.lemmas.Int.{ints}
use Rattle.std.proofs.lemmas.Bool.{cases_Bool, cases_lt, and_parts, and_from}
use Rattle.std.proofs.lemmas.Nat.{mul-le}
use Rattle.std.proofs.Math.Nat.{mul-le-mul_left}
use Rattle.exact.proofs.Ring.{mul_assoc_z, mul-add_z, add-mul_z, mul-sub_z, mul_mul_comm_z, square-add, square_is}
use Rattle.stroke_raster.specs.declared.vector.Vector.{Vector}
use Rattle.stroke_raster.specs.Gap.{way, scaled, dot, cross, gap_met}
use Rattle.stroke_raster.specs.Nearness.{off, IsNear}
use Rattle.stroke_raster.specs.Covers.{between, in_window, drawn_width, centre, first_end, last_end, is_gap_met}
use Rattle.stroke_raster.specs.Covers.{covers_place, covers}
use Rattle.stroke_raster.specs.Boxes.{in_box, RowsHoldRuns}
use Rattle.stroke_raster.specs.declared.trace.Trace.{Trace}
use Rattle.stroke_raster.specs.Traces.{is_near, is_met, rightward}
use Rattle.stroke_raster.proofs.Scaling.{way-scaled}
use Rattle.plot_page.specs.Segments.{Segment}
use Rattle.plot_page.specs.declared.page.Page.{Page}
use Rattle.plot_page.specs.declared.dots.Dots.{Dots}
use Rattle.stroke_raster.proofs.GapLemmas.{near_first, near_last, near_between, far, cross_is, size, size_is}
use Rattle.stroke_raster.proofs.BoxLemmas.{roots}

-- one axis of the way from a point between: the sum of A times the one way and B times the other
axis_sum : (x v : ℤ) (A B q1 q2 t1 t2 j k : ℕ) → (A * q1 + B * q2) * j ≡ B * q2 * k
    → pos (A * q1 + B * q2) *ℤ (x +ℤ pos j) -ℤ pos (A * t1 + B * t2) *ℤ v
    ≡ pos A *ℤ (pos q1 *ℤ x -ℤ pos t1 *ℤ v) +ℤ pos B *ℤ (pos q2 *ℤ (x +ℤ pos k) -ℤ pos t2 *ℤ v)
axis_sum x v A B q1 q2 t1 t2 j k e =
    let a = mul-add_z (pos (A * q1 + B * q2)) x (pos j) in
    let b = add-mul_z (pos (A * q1)) (pos (B * q2)) x in
    let c = add-mul_z (pos (A * t1)) (pos (B * t2)) v in
    let f = mul-sub_z (pos A) (pos q1 *ℤ x) (pos t1 *ℤ v) in
    let g = mul-sub_z (pos B) (pos q2 *ℤ (x +ℤ pos k)) (pos t2 *ℤ v) in
    let h1 : pos (A * q1) *ℤ x ≡ pos A *ℤ (pos q1 *ℤ x) = mul_assoc_z (pos A) (pos q1) x in
    let h2 : pos (A * t1) *ℤ v ≡ pos A *ℤ (pos t1 *ℤ v) = mul_assoc_z (pos A) (pos t1) v in
    let h3 : pos (B * q2) *ℤ (x +ℤ pos k) ≡ pos B *ℤ (pos q2 *ℤ (x +ℤ pos k)) = mul_assoc_z (pos B) (pos q2) (x +ℤ pos k) in
    let h4 : pos (B * t2) *ℤ v ≡ pos B *ℤ (pos t2 *ℤ v) = mul_assoc_z (pos B) (pos t2) v in
    let m = mul-add_z (pos (B * q2)) x (pos k) in
    let e' : pos (A * q1 + B * q2) *ℤ pos j ≡ pos (B * q2) *ℤ pos k = ap pos e in
    omega (arith, ints, a, b, c, f, g, h1, h2, h3, h4, m, e')

-- the square of such a sum along one axis
square_sum : (A B : ℕ) (x y : ℤ) → (pos A *ℤ x +ℤ pos B *ℤ y) *ℤ (pos A *ℤ x +ℤ pos B *ℤ y)
    ≡ pos (A * A) *ℤ (x *ℤ x) +ℤ pos (B * B) *ℤ (y *ℤ y) +ℤ pos 2 *ℤ (pos (A * B) *ℤ (x *ℤ y))
square_sum A B x y =
    let s = square-add (pos A *ℤ x) (pos B *ℤ y) in
    let a : (pos A *ℤ x) *ℤ (pos A *ℤ x) ≡ pos (A * A) *ℤ (x *ℤ x) = mul_mul_comm_z (pos A) x (pos A) x in
    let b : (pos B *ℤ y) *ℤ (pos B *ℤ y) ≡ pos (B * B) *ℤ (y *ℤ y) = mul_mul_comm_z (pos B) y (pos B) y in
    let c : (pos A *ℤ x) *ℤ (pos B *ℤ y) ≡ pos (A * B) *ℤ (x *ℤ y) = mul_mul_comm_z (pos A) x (pos B) y in
    rw (← a, ← b, ← c) s

-- two ways added, of each a multiple
sum_of : ℕ → ℕ → Vector → Vector → Vector
sum_of A B p q = record { x = pos A *ℤ p.x +ℤ pos B *ℤ q.x; y = pos A *ℤ p.y +ℤ pos B *ℤ q.y }

dot_sum : (A B : ℕ) (p q : Vector) → dot (sum_of A B p q) (sum_of A B p q)
    ≡ pos (A * A) *ℤ dot p p +ℤ pos (B * B) *ℤ dot q q +ℤ pos 2 *ℤ (pos (A * B) *ℤ dot p q)
unfolding sum_of
dot_sum A B p q =
    let x = square_sum A B p.x q.x in
    let y = square_sum A B p.y q.y in
    let a = mul-add_z (pos (A * A)) (p.x *ℤ p.x) (p.y *ℤ p.y) in
    let b = mul-add_z (pos (B * B)) (q.x *ℤ q.x) (q.y *ℤ q.y) in
    let c = mul-add_z (pos (A * B)) (p.x *ℤ q.x) (p.y *ℤ q.y) in
    omega (arith, ints, x, y, a, b, c)

-- a number is at most its size
at_most_size : (A : ℕ) (z : ℤ) → (pos A *ℤ z) ≤ℤ pos (A * nat_abs z)
at_most_size A (pos n) = omega (arith, ints)
at_most_size A (negsuc n) = omega (arith, ints)

-- the dot product of two short ways, by Lagrange's identity
dot_core : (x z a b m n : ℕ) → x * x + z * z ≡ b * a → 4 * a ≤ m * m → 4 * b ≤ n * n → 4 * z ≤ m * n
dot_core x z a b m n e h k =
    let l : (4 * a) * (4 * b) ≤ (m * m) * (n * n) = mul-le (4 * a) (4 * b) (m * m) (n * n) h k in
    roots (4 * z) (m * n) (omega (arith, e, l))

dot_short : (p q : Vector) (m n : ℕ) → 4 * size p ≤ m * m → 4 * size q ≤ n * n → 4 * nat_abs (dot p q) ≤ m * n
dot_short p q m n h k =
    let e : cross p q *ℤ cross p q +ℤ dot p q *ℤ dot p q ≡ pos (size q) *ℤ pos (size p) = cross_is p q ∙ ap₂ ◌*ℤ◌ (size_is q) (size_is p) in
    let f = square_is (cross p q) in
    let g = square_is (dot p q) in
    dot_core (nat_abs (cross p q)) (nat_abs (dot p q)) (size p) (size q) m n (omega (arith, ints, e, f, g)) h k

sum_core : (A B a b z m n s : ℕ) → 4 * a ≤ m * m → 4 * b ≤ n * n → 4 * z ≤ m * n → s ≤ A * A * a + B * B * b + 2 * (A * B * z) → 4 * s ≤ (A * m + B * n) * (A * m + B * n)
sum_core A B a b z m n s h k l e =
    let x : A * A * (4 * a) ≤ A * A * (m * m) = mul-le-mul_left (A * A) h in
    let y : B * B * (4 * b) ≤ B * B * (n * n) = mul-le-mul_left (B * B) k in
    let w : A * B * (4 * z) ≤ A * B * (m * n) = mul-le-mul_left (A * B) l in
    omega (arith, x, y, w, e)

-- the sum of multiples of two short ways is no longer than the multiples' sum
sum_short : (A B : ℕ) (p q : Vector) (m n : ℕ) → 4 * size p ≤ m * m → 4 * size q ≤ n * n → 4 * size (sum_of A B p q) ≤ (A * m + B * n) * (A * m + B * n)
sum_short A B p q m n h k =
    let z = dot_short p q m n h k in
    let e = dot_sum A B p q in
    let a = size_is (sum_of A B p q) in
    let b = size_is p in
    let c = size_is q in
    let f = at_most_size (A * B) (dot p q) in
    let e' : pos (size (sum_of A B p q)) ≡ pos (A * A) *ℤ pos (size p) +ℤ pos (B * B) *ℤ pos (size q) +ℤ pos 2 *ℤ (pos (A * B) *ℤ dot p q) = rw (a, b, c) at e in
    sum_core A B (size p) (size q) (nat_abs (dot p q)) m n (size (sum_of A B p q)) h k z (omega (arith, ints, e', f))

-- a point of the segment that is near, where the test is met
record NearPoint (v w : Vector) (d : ℕ) : Type 0 where
  t : ℕ
  q : ℕ
  order : t ≤ q
  some : 0 < q
  near : 4 * size (off v w (pos t) (pos q)) ≤ (d * q) * (d * q)

near_size : (v w : Vector) (d t q : ℕ) → IsNear v w d (pos t) (pos q) → 4 * size (off v w (pos t) (pos q)) ≤ (d * q) * (d * q)
near_size v w d t q h =
    let k = size_is (off v w (pos t) (pos q)) in
    let l : 4 * size (off v w (pos t) (pos q)) ≤ d * d * (q * q) = omega (arith, ints, h, k) in
    omega (arith, l)

near_point : (v w : Vector) (d : ℕ) → gap_met v w d ≡ true → NearPoint v w d
near_point v w d h = elim (cases_Bool (int_le (dot v w) (pos 0))) [
  | inl e ↦ record { t = 0; q = 1; order = omega arith; some = omega arith; near = near_size v w d 0 1 (near_first v w d h (omega (arith, ints))) }
  | inr e ↦ elim (cases_Bool (int_le (dot v v) (dot v w))) [
    | inl f ↦ record { t = 1; q = 1; order = omega arith; some = omega arith; near = near_size v w d 1 1 (near_last v w d h (omega (arith, ints)) (omega (arith, ints))) }
    | inr f ↦ go (dot v w) (dot v v) (omega (arith, ints)) (omega (arith, ints)) (near_between v w d h (omega (arith, ints)) (omega (arith, ints)))
  ]
]
  where
    go : (B C : ℤ) → pos 0 <ℤ B → B <ℤ C → IsNear v w d B C → NearPoint v w d
    go (pos b) (pos c) l k n = record { t = b; q = c; order = omega (arith, ints); some = omega (arith, ints); near = near_size v w d b c n }
    go (pos b) (negsuc c) l k n = absurd (omega (arith, ints))
    go (negsuc b) C l k n = absurd (omega (arith, ints))

abbrev pub point : ℤ → ℤ → Vector
point x y = record { x = x; y = y }

-- the way from the point between, as a sum
off_between : (v : Vector) (x y : ℤ) (A B q1 q2 t1 t2 j k : ℕ) → (A * q1 + B * q2) * j ≡ B * q2 * k
    → off v (point (x +ℤ pos j) y) (pos (A * t1 + B * t2)) (pos (A * q1 + B * q2))
    ≡ sum_of A B (off v (point x y) (pos t1) (pos q1)) (off v (point (x +ℤ pos k) y) (pos t2) (pos q2))
unfolding sum_of
off_between v x y A B q1 q2 t1 t2 j k e =
    let a = axis_sum x v.x A B q1 q2 t1 t2 j k e in
    let z : y +ℤ pos 0 ≡ y = omega (arith, ints) in
    let b = rw z at (axis_sum y v.y A B q1 q2 t1 t2 0 0 (omega arith)) in
    ap₂ point a b

far_not : (d A B q1 q2 n : ℕ) → d * d * ((A * q1 + B * q2) * (A * q1 + B * q2)) < 4 * n → 4 * n ≤ (A * (d * q1) + B * (d * q2)) * (A * (d * q1) + B * (d * q2)) → false ≡ true
far_not d A B q1 q2 n h k = absurd (omega (arith, h, k))

some_product : (i q1 q2 : ℕ) → 0 < i → 0 < q1 → 0 < q2 → 0 < i * q2 * q1
some_product i q1 q2 a b c =
    let p : 1 * 1 ≤ i * q2 = mul-le 1 1 i q2 (omega arith) (omega arith) in
    let r : 1 * 1 ≤ (i * q2) * q1 = mul-le 1 1 (i * q2) q1 (omega (arith, p)) (omega arith) in
    omega (arith, r)

-- between two points that are met on a level line, each is
pub met_between : (v : Vector) (x y : ℤ) (d i j s : ℕ) → 0 < i → gap_met v (point x y) d ≡ true → gap_met v (point (x +ℤ pos ((j + i) * s)) y) d ≡ true → gap_met v (point (x +ℤ pos (j * s)) y) d ≡ true
met_between v x y d i j s some f g = elim (cases_Bool (gap_met v (point (x +ℤ pos (j * s)) y) d)) [
  | inl e ↦ e
  | inr e ↦ go (near_point v (point x y) d f) (near_point v (point (x +ℤ pos ((j + i) * s)) y) d g) e
]
  where
    go : NearPoint v (point x y) d → NearPoint v (point (x +ℤ pos ((j + i) * s)) y) d → gap_met v (point (x +ℤ pos (j * s)) y) d ≡ false → gap_met v (point (x +ℤ pos (j * s)) y) d ≡ true
    go n m e =
        let A = i * m.q in
        let B = j * n.q in
        let w = point (x +ℤ pos (j * s)) y in
        let o = off_between v x y (i * m.q) (j * n.q) n.q m.q n.t m.t (j * s) ((j + i) * s) (omega arith) in
        let lt = mul-le-mul_left (i * m.q) n.order in
        let lu = mul-le-mul_left (j * n.q) m.order in
        let p = some_product i n.q m.q some n.some m.some in
        let h = far v w d e (i * m.q * n.t + j * n.q * m.t) (i * m.q * n.q + j * n.q * m.q) (omega (arith, lt, lu)) (omega (arith, p)) in
        let k = size_is (off v w (pos (i * m.q * n.t + j * n.q * m.t)) (pos (i * m.q * n.q + j * n.q * m.q))) in
        let l : d * d * ((i * m.q * n.q + j * n.q * m.q) * (i * m.q * n.q + j * n.q * m.q)) < 4 * size (off v w (pos (i * m.q * n.t + j * n.q * m.t)) (pos (i * m.q * n.q + j * n.q * m.q))) = omega (arith, ints, h, k) in
        let l' = rw o at l in
        let z = sum_short (i * m.q) (j * n.q) (off v (point x y) (pos n.t) (pos n.q)) (off v (point (x +ℤ pos ((j + i) * s)) y) (pos m.t) (pos m.q)) (d * n.q) (d * m.q) n.near m.near in
        cc (far_not d (i * m.q) (j * n.q) n.q m.q _ l' z)

-- a place between two that lie in a window, on a level line
window_between : (low high a b c : ℤ) → between low high a ≡ true → between low high b ≡ true → a ≤ℤ c → c ≤ℤ b → between low high c ≡ true
window_between low high a b c f g l k =
    let p = and_parts (int_le low a) (int_le a high) f in
    let q = and_parts (int_le low b) (int_le b high) g in
    let p0 : int_le low a ≡ true = p.0 in
    let q1 : int_le b high ≡ true = q.1 in
    and_from (int_le low c) (int_le c high) (sym (omega (arith, ints, p0, l))) (sym (omega (arith, ints, q1, k)))

gap_between : (s : Segment) (h r row a j i : ℕ) → 0 < i → is_gap_met s r (centre h r row a) ≡ true → is_gap_met s r (centre h r row (a + (j + i))) ≡ true → is_gap_met s r (centre h r row (a + j)) ≡ true
gap_between s h r row a j i some f g =
    let o = scaled (pos r) (first_end s) in
    let v = way o (scaled (pos r) (last_end s)) in
    let x = pos ((2 * a + 1) * 8128) -ℤ pos r *ℤ s.ax in
    let y = (centre h r row a).y -ℤ pos r *ℤ s.ay in
    let e1 : pos ((2 * (a + (j + i)) + 1) * 8128) -ℤ pos r *ℤ s.ax ≡ x +ℤ pos ((j + i) * 16256) = omega (arith, ints) in
    let e2 : pos ((2 * (a + j) + 1) * 8128) -ℤ pos r *ℤ s.ax ≡ x +ℤ pos (j * 16256) = omega (arith, ints) in
    let w1 : way o (centre h r row (a + (j + i))) ≡ point (x +ℤ pos ((j + i) * 16256)) y = ap (λ (z : ℤ). point z y) e1 in
    let w2 : way o (centre h r row (a + j)) ≡ point (x +ℤ pos (j * 16256)) y = ap (λ (z : ℤ). point z y) e2 in
    let g' : gap_met v (point (x +ℤ pos ((j + i) * 16256)) y) (drawn_width s.width r) ≡ true = sym (ap (λ (z : Vector). gap_met v z (drawn_width s.width r)) w1) ∙ g in
    let m = met_between v x y (drawn_width s.width r) i j 16256 some f g' in
    ap (λ (z : Vector). gap_met v z (drawn_width s.width r)) w2 ∙ m

covered_from : (s : Segment) (h r row a j i : ℕ) → 0 < i → covers_place s r (centre h r row a) ≡ true → covers_place s r (centre h r row (a + (j + i))) ≡ true → covers_place s r (centre h r row (a + j)) ≡ true
covered_from s h r row a j i some f g =
    let p = and_parts (in_window s.window r (centre h r row a)) (is_gap_met s r (centre h r row a)) f in
    let q = and_parts (in_window s.window r (centre h r row (a + (j + i)))) (is_gap_met s r (centre h r row (a + (j + i)))) g in
    let px = and_parts (between (pos r *ℤ s.window.x0) (pos r *ℤ s.window.x1) (centre h r row a).x) (between (pos r *ℤ s.window.y0) (pos r *ℤ s.window.y1) (centre h r row a).y) p.0 in
    let qx = and_parts (between (pos r *ℤ s.window.x0) (pos r *ℤ s.window.x1) (centre h r row (a + (j + i))).x) (between (pos r *ℤ s.window.y0) (pos r *ℤ s.window.y1) (centre h r row a).y) q.0 in
    and_from (in_window s.window r (centre h r row (a + j))) (is_gap_met s r (centre h r row (a + j)))
    (and_from _ _ (window_between (pos r *ℤ s.window.x0) (pos r *ℤ s.window.x1) (centre h r row a).x (centre h r row (a + (j + i))).x (centre h r row (a + j)).x px.0 qx.0 (omega (arith, ints)) (omega (arith, ints))) px.1)
    (gap_between s h r row a j i some p.1 q.1)

pub covered_run : RowsHoldRuns
covered_run s page dots row a b c f g h k = elim (cases_lt c b) [
  | inl l ↦ (let e : b ≡ a + ((c - a) + (b - c)) = omega (arith, h, k) in
      let d : a + (c - a) ≡ c = omega (arith, h) in
      let g' : covers s page dots row (a + ((c - a) + (b - c))) ≡ true = sym (ap (λ (n : ℕ). covers s page dots row n) e) ∙ g in
      let r : covers s page dots row (a + (c - a)) ≡ true = covered_from s page.height dots.resolution row a (c - a) (b - c) (omega (arith, l)) f g' in
      sym (ap (λ (n : ℕ). covers s page dots row n) d) ∙ r)
  | inr l ↦ (let e : b ≡ c = omega (arith, l, k) in sym (ap (λ (n : ℕ). covers s page dots row n) e) ∙ g)
]

met_from : (t : Trace) (start : Vector) (a j i : ℕ) → 0 < i → is_met t start a ≡ true → is_met t start (a + (j + i)) ≡ true → is_met t start (a + j) ≡ true
met_from t start a j i some f g =
    let x = start.x +ℤ pos (16256 * a) in
    let e1 : start.x +ℤ pos (16256 * (a + (j + i))) ≡ x +ℤ pos ((j + i) * 16256) = omega (arith, ints) in
    let e2 : start.x +ℤ pos (16256 * (a + j)) ≡ x +ℤ pos (j * 16256) = omega (arith, ints) in
    let g' : is_near t (point (x +ℤ pos ((j + i) * 16256)) start.y) ≡ true = sym (ap (λ (z : ℤ). is_near t (point z start.y)) e1) ∙ g in
    let m = met_between (scaled (pos t.dots.resolution) t.course) x start.y (drawn_width t.stroke.now.width t.dots.resolution) i j 16256 some f g' in
    ap (λ (z : ℤ). is_near t (point z start.y)) e2 ∙ m

-- between two pixels of a row that are met each is met
pub met_run : (t : Trace) (start : Vector) (a b c : ℕ) → is_met t start a ≡ true → is_met t start b ≡ true → a ≤ c → c ≤ b → is_met t start c ≡ true
met_run t start a b c f g h k = elim (cases_lt c b) [
  | inl l ↦ (let e : b ≡ a + ((c - a) + (b - c)) = omega (arith, h, k) in
      let d : a + (c - a) ≡ c = omega (arith, h) in
      let g' : is_met t start (a + ((c - a) + (b - c))) ≡ true = sym (ap (λ (n : ℕ). is_met t start n) e) ∙ g in
      let r : is_met t start (a + (c - a)) ≡ true = met_from t start a (c - a) (b - c) (omega (arith, l)) f g' in
      sym (ap (λ (n : ℕ). is_met t start n) d) ∙ r)
  | inr l ↦ (let e : b ≡ c = omega (arith, l, k) in sym (ap (λ (n : ℕ). is_met t start n) e) ∙ g)
]

-- before a pixel that is not met, with one that is after it, none is
pub unmet_before : (t : Trace) (start : Vector) (i j k : ℕ) → i ≤ j → j ≤ k → is_met t start j ≡ false → is_met t start k ≡ true → is_met t start i ≡ false
unmet_before t start i j k u v n h = elim (cases_Bool (is_met t start i)) [
  | inl e ↦ (let m = met_run t start i k j e h u v in cc)
  | inr e ↦ e
]

-- after a pixel that is not met, with one that is before it, none is
pub unmet_after : (t : Trace) (start : Vector) (i j k : ℕ) → j ≤ i → k ≤ j → is_met t start j ≡ false → is_met t start k ≡ true → is_met t start i ≡ false
unmet_after t start i j k u v n h = elim (cases_Bool (is_met t start i)) [
  | inl e ↦ (let m = met_run t start k i j h e v u in cc)
  | inr e ↦ e
]

-- in the box a pixel is covered if and only if the way to it from the first end is near the course
pub covered_is_gap_met : (s : Segment) (page : Page) (dots : Dots) (row from i : ℕ) (course start : Vector)
    → course ≡ way (first_end s) (last_end s) → start ≡ way (scaled (pos dots.resolution) (first_end s)) (centre page.height dots.resolution row from)
    → in_box s page dots row (from + i) ≡ true → covers s page dots row (from + i) ≡ gap_met (scaled (pos dots.resolution) course) (rightward start i) (drawn_width s.width dots.resolution)
covered_is_gap_met s page dots row from i course start ec es b =
    let r = dots.resolution in
    let p = centre page.height r row (from + i) in
    let o = scaled (pos r) (first_end s) in
    let d = drawn_width s.width r in
    let w = and_parts (in_window s.window r p) _ b in
    let x : (way o p).x ≡ (way o (centre page.height r row from)).x +ℤ pos (16256 * i) = omega (arith, ints) in
    let m : way o p ≡ rightward (way o (centre page.height r row from)) i = ap (λ (z : ℤ). point z (way o p).y) x in
    let n : way o (scaled (pos r) (last_end s)) ≡ scaled (pos r) course = way-scaled (pos r) (first_end s) (last_end s) ∙ ap (λ (z : Vector). scaled (pos r) z) (sym ec) in
    let g : is_gap_met s r p ≡ gap_met (scaled (pos r) course) (rightward start i) d = ap₂ (λ (a z : Vector). gap_met a z d) n (m ∙ ap (λ (z : Vector). rightward z i) (sym es)) in
    rw (w.0) g

pub covered_is_met : (t : Trace) (page : Page) (row from i : ℕ) (start : Vector)
    → start ≡ way (scaled (pos t.dots.resolution) (first_end t.stroke.now)) (centre page.height t.dots.resolution row from)
    → in_box t.stroke.now page t.dots row (from + i) ≡ true → covers t.stroke.now page t.dots row (from + i) ≡ is_met t start i
covered_is_met t page row from i start es b = covered_is_gap_met t.stroke.now page t.dots row from i t.course start t.sound.course_is es b

-- a place in the window is covered if and only if the way to it from the first end is near the stroke
pub near_place : (t : Trace) (s : Segment) (dots : Dots) (p : Vector) → t.stroke.now ≡ s → t.dots ≡ dots → in_window s.window dots.resolution p ≡ true
    → is_near t (way t.first p) ≡ covers_place s dots.resolution p
near_place t s dots p es ed w =
    let r = pos t.dots.resolution in
    let d = drawn_width t.stroke.now.width t.dots.resolution in
    let f = first_end t.stroke.now in
    let l = last_end t.stroke.now in
    let a : scaled r t.course ≡ way (scaled r f) (scaled r l) = ap (λ (z : Vector). scaled r z) t.sound.course_is ∙ sym (way-scaled r f l) in
    let b : way t.first p ≡ way (scaled r f) p = ap (λ (z : Vector). way z p) t.sound.first_is in
    let n : is_near t (way t.first p) ≡ is_gap_met t.stroke.now t.dots.resolution p = ap₂ (λ (x y : Vector). gap_met x y d) a b in
    let m : is_gap_met t.stroke.now t.dots.resolution p ≡ is_gap_met s dots.resolution p = ap₂ (λ (x : Segment) (y : Dots). is_gap_met x y.resolution p) es ed in
    let c : covers_place s dots.resolution p ≡ is_gap_met s dots.resolution p = rw w refl in
    n ∙ m ∙ sym c
