-- The columns between the edges of a strip, if both are clear of the centres of pixels.
use Rattle.std.proofs.Common.{◌≡◌, ℕ, suc, ◌+◌, ◌-◌, ◌*◌, ◌^◌, ◌<◌, ◌≤◌, refl, sym, ap, ◌∙◌, arith, ℤ, pos, negsuc, ◌+ℤ◌, ◌-ℤ◌, ◌*ℤ◌, ◌≤ℤ◌, ◌<ℤ◌, neg_ℤ, nat_abs, true, false, Bool, int_le, cond, subst, Option, None, Some, IfSome}
use Rattle.std.proofs.lemmas.Int.{ints}
use Rattle.std.proofs.Math.Nat.{mul-le-mul_right}
use Rattle.exact.proofs.Ring.{mul-sub_z}
use Rattle.plot_page.specs.declared.page.Page.{Page}
use Rattle.stroke_raster.specs.declared.edges.Edges.{Edges}
use Rattle.stroke_raster.specs.declared.strip.Span.{Span}
use Rattle.stroke_raster.specs.declared.trace.Trace.{Trace}
use Rattle.stroke_raster.specs.declared.vector.Vector.{Vector}
use Rattle.stroke_raster.specs.Covers.{first_end}
use Rattle.stroke_raster.specs.declared.edges.Moves.{Moves}
use Rattle.stroke_raster.specs.Edges.{AreEdges, AreFitted, AreSure, IsBeside, IsClearSpan, IsEdge, IsPlace, far_edge, turned, way_to, width_of}
use Rattle.stroke_raster.specs.Gap.{cross, dot}
use Rattle.stroke_raster.specs.Traces.{is_met, rightward}
use Rattle.stroke_raster.proofs.BesideLemmas.{near_beside_ends}
use Rattle.stroke_raster.proofs.GapLemmas.{size, size_is}
use Rattle.stroke_raster.proofs.Scaling.{gap_met_unscaled, gap_met-scaled}
use Rattle.stroke_raster.proofs.Squares.{square_pos}
use Rattle.stroke_raster.proofs.StripLemmas.{Strip, cross_on, outside_before, outside_after}

-- Below, S is the step, M the strip's half width, W its width in parts, N how many parts the far edge may be too low, k the
-- turned cross product, and h the far edge times the step. A pixel is at 2^32 * (i + 2^30) parts.

after_far : (k : ℤ) (S M N at i h : ℕ) → pos h ≡ pos (2 ^ 32) *ℤ (k +ℤ pos M) +ℤ pos (2 ^ 62 * S) → h < (at + N) * S
    → at + N ≤ 2 ^ 32 * (i + 2 ^ 30) → pos M <ℤ (pos (i * S) -ℤ k)
after_far k S M N at i h e o l =
    let p : (at + N) * S ≤ (2 ^ 32 * (i + 2 ^ 30)) * S = mul-le-mul_right S l in
    omega (arith, ints, e, o, p)

before_near : (k : ℤ) (S M W at i h : ℕ) → pos h ≡ pos (2 ^ 32) *ℤ (k +ℤ pos M) +ℤ pos (2 ^ 62 * S) → at * S ≤ h
    → 2 ^ 33 * M < (W + 1) * S → 2 ^ 32 * (i + 2 ^ 30) + (W + 1) ≤ at → pos M <ℤ (k -ℤ pos (i * S))
before_near k S M W at i h e u w l =
    let p : (2 ^ 32 * (i + 2 ^ 30) + (W + 1)) * S ≤ at * S = mul-le-mul_right S l in
    omega (arith, ints, e, u, w, p)

between : (k : ℤ) (S M W N g D at i h : ℕ) → pos h ≡ pos (2 ^ 32) *ℤ (k +ℤ pos M) +ℤ pos (2 ^ 62 * S) → at * S ≤ h → h < (at + N) * S
    → W * S ≤ 2 ^ 33 * M → 2 ^ 32 * M ≤ g * S + 2 ^ 32 * D → 2 ^ 32 * (i + 2 ^ 30) + g ≤ at → at + N + g ≤ 2 ^ 32 * (i + 2 ^ 30) + W
    → nat_abs (k -ℤ pos (i * S)) ≤ D
between k S M W N g D at i h e u o w v l r =
    let p : (2 ^ 32 * (i + 2 ^ 30) + g) * S ≤ at * S = mul-le-mul_right S l in
    let q : (at + N + g) * S ≤ (2 ^ 32 * (i + 2 ^ 30) + W) * S = mul-le-mul_right S r in
    omega (arith, ints, e, u, o, w, v, p, q)

-- the numbers of an edge's row
way_of : Trace → Page → ℕ → ℕ → ℤ
way_of t page from row = turned t (pos 2 *ℤ cross t.course (way_to t page row from))

edge_of : (t : Trace) (page : Page) (from : ℕ) (e : Edges) (row at : ℕ) (d : IsEdge t page from e row at)
    → pos d.edge ≡ pos (2 ^ 32) *ℤ (way_of t page from row +ℤ pos d.sure.most) +ℤ pos (2 ^ 62 * t.slope.step)
unfolding way_of
edge_of t page from e row at d = rw d.sure.most_is at d.edge_is

edge_whole : (t : Trace) (page : Page) (from : ℕ) (e : Edges) (row at : ℕ) (d : IsEdge t page from e row at)
    → pos d.edge ≡ pos (2 ^ 32) *ℤ (way_of t page from row +ℤ t.slope.most) +ℤ pos (2 ^ 62 * t.slope.step)
unfolding way_of
edge_whole t page from e row at d = d.edge_is

edge_known : (t : Trace) (page : Page) (from row h : ℕ) → pos h ≡ pos (2 ^ 32) *ℤ (way_of t page from row +ℤ t.slope.most) +ℤ pos (2 ^ 62 * t.slope.step) → pos h ≡ far_edge t page from row
unfolding way_of
edge_known t page from row h e = e

less_neg : (a b : ℤ) (n : ℕ) → a ≡ b -ℤ pos 32512 *ℤ neg_ℤ (pos n) → a ≡ b +ℤ pos (32512 * n)
less_neg a b n e = omega (arith, ints, e)

strip_of : (t : Trace) (page : Page) (from row : ℕ) → Strip t (way_to t page row from) (way_of t page from row)
unfolding way_of
strip_of t page from row = record {
  some = omega (arith, t.dots.at_least);
  slope = t.sound.slope_is;
  turned = refl;
}

-- past the span no pixel is met
pub unmet_after_span : (t : Trace) (page : Page) (from : ℕ) (e : Edges) (row at length : ℕ) (span : Span) → IsEdge t page from e row at → e.width ≤ at
    → IsClearSpan e.margin (at - e.width) at length span → (i : ℕ) → span.end ≤ i → i < length → is_met t (way_to t page row from) i ≡ false
unmet_after_span t page from e row at length span d fit c i u v =
    let far = c.far_clear in
    let m = d.sure.margin in
    let l : at + (row - e.rows.low + 1) ≤ 2 ^ 32 * (i + 2 ^ 30) = omega (arith, u, v, c.end, far.0, far.1, m, d.end, d.low) in
    let a = after_far (way_of t page from row) t.slope.step d.sure.most (row - e.rows.low + 1) at i d.edge (edge_of t page from e row at d) d.over l in
    outside_after t (way_to t page row from) (way_of t page from row) i (strip_of t page from row) (subst (λ (z : ℤ). z <ℤ (pos (i * t.slope.step) -ℤ way_of t page from row)) (sym d.sure.most_is) a)

-- nor before it
pub unmet_before_span : (t : Trace) (page : Page) (from : ℕ) (e : Edges) (row at length : ℕ) (span : Span) → IsEdge t page from e row at → e.width ≤ at
    → IsClearSpan e.margin (at - e.width) at length span → (i : ℕ) → i < span.low → is_met t (way_to t page row from) i ≡ false
unmet_before_span t page from e row at length span d fit c i u =
    let near = c.near_clear in
    let m = d.sure.margin in
    let l : 2 ^ 32 * (i + 2 ^ 30) + (e.width + 1) ≤ at = omega (arith, u, c.low, near.0, near.1, m, fit) in
    let a = before_near (way_of t page from row) t.slope.step d.sure.most e.width at i d.edge (edge_of t page from e row at d) d.under d.sure.width_high l in
    outside_before t (way_to t page row from) (way_of t page from row) i (strip_of t page from row) (subst (λ (z : ℤ). z <ℤ (way_of t page from row -ℤ pos (i * t.slope.step))) (sym d.sure.most_is) a)

-- a turned number back
turn_back : (y b : ℤ) (i m : ℕ) → nat_abs (cond (int_le (pos 0) y) b (neg_ℤ b) -ℤ pos (i * (32512 * nat_abs y))) ≤ m → nat_abs (b -ℤ pos (32512 * i) *ℤ y) ≤ m
turn_back (pos n) b i m h =
    let e : int_le (pos 0) (pos n) ≡ true = sym (omega (arith, ints)) in
    let k : nat_abs (b -ℤ pos (i * (32512 * n))) ≤ m = rw e at h in
    omega (arith, ints, k)
turn_back (negsuc n) b i m h = omega (arith, ints, h)

-- a course that is not level has a length
some_size : (v : Vector) → 0 < nat_abs v.y → 0 < size v
unfolding size
some_size v h = let s = square_pos (nat_abs v.y) h in omega (arith, s)

-- in the span each pixel is met
pub met_in_span : (t : Trace) (page : Page) (from : ℕ) (e : Edges) (row at length : ℕ) (span : Span) → IsEdge t page from e row at → e.width ≤ at
    → IsClearSpan e.margin (at - e.width) at length span → (i : ℕ) → span.low ≤ i → i < span.end → is_met t (way_to t page row from) i ≡ true
unfolding way_of
met_in_span t page from e row at length span d fit c i u v =
    let far = c.far_clear in
    let near = c.near_clear in
    let m = d.sure.margin in
    let s = d.sure in
    let r = t.dots.resolution in
    let start = way_to t page row from in
    let w = rightward (way_to t page row from) i in
    let l : 2 ^ 32 * (i + 2 ^ 30) + s.gap ≤ at = omega (arith, v, c.end, far.0, far.1, m) in
    let o : at + (row - e.rows.low + 1) + s.gap ≤ 2 ^ 32 * (i + 2 ^ 30) + e.width = omega (arith, u, c.low, near.0, near.1, m, fit, d.end, d.low) in
    let b : nat_abs (way_of t page from row -ℤ pos (i * t.slope.step)) ≤ width_of t * s.under = between (way_of t page from row) t.slope.step s.most e.width (row - e.rows.low + 1) s.gap (width_of t * s.under) at i d.edge
    (edge_of t page from e row at d) d.under d.over s.width_low s.gap_is l o in
    let step : t.slope.step ≡ 32512 * nat_abs t.course.y = t.sound.slope_is.step in
    let b' : nat_abs (way_of t page from row -ℤ pos (i * (32512 * nat_abs t.course.y))) ≤ width_of t * s.under = rw step at b in
    let x = turn_back t.course.y (pos 2 *ℤ cross t.course (way_to t page row from)) i (width_of t * s.under) b' in
    let y : nat_abs (pos 2 *ℤ cross t.course w) ≤ width_of t * s.under = rw (cross_on t.course (way_to t page row from) w i refl refl) x in
    let z = size_is t.course in
    let q : s.under * s.under ≤ size t.course = omega (arith, ints, s.under_in, z) in
    let p : 0 < size t.course = some_size t.course (omega (arith, s.some, step)) in
    let k = s.beside row d.low d.end in
    let g : gap_met_unscaled t.course w t.dots.resolution (width_of t) ≡ true = near_beside_ends t.course w (width_of t) s.under t.dots.resolution y q p k.above k.below in
    gap_met-scaled t.dots.resolution (width_of t) t.course w (omega (arith, t.dots.at_least)) ∙ g

-- the strip's far edge moves by the same way from each row to the next: down the page, y falls by 16,256
cross_down : (v w u : Vector) → u.x ≡ w.x → u.y ≡ w.y -ℤ pos 16256 → pos 2 *ℤ cross v u ≡ pos 2 *ℤ cross v w -ℤ pos 32512 *ℤ v.x
cross_down v w u e f =
    let a = ap (λ (z : ℤ). v.x *ℤ z) f in
    let b = ap (λ (z : ℤ). v.y *ℤ z) e in
    let c = mul-sub_z v.x w.y (pos 16256) in
    omega (arith, ints, a, b, c)

turned_less : (y a b : ℤ) → cond (int_le (pos 0) y) (a -ℤ pos 32512 *ℤ b) (neg_ℤ (a -ℤ pos 32512 *ℤ b)) ≡ cond (int_le (pos 0) y) a (neg_ℤ a) -ℤ pos 32512 *ℤ cond (int_le (pos 0) y) b (neg_ℤ b)
turned_less (pos n) a b = let e : int_le (pos 0) (pos n) ≡ true = sym (omega (arith, ints)) in rw e refl
turned_less (negsuc n) a b = omega (arith, ints)

way_down : (t : Trace) (page : Page) (from row : ℕ) → way_of t page from (row + 1) ≡ way_of t page from row -ℤ pos 32512 *ℤ turned t t.course.x
unfolding way_of
way_down t page from row =
    let y : (way_to t page (row + 1) from).y ≡ (way_to t page row from).y -ℤ pos 16256 = omega (arith, ints) in
    let c = cross_down t.course (way_to t page row from) (way_to t page (row + 1) from) refl y in
    ap (λ (z : ℤ). turned t z) c ∙ turned_less t.course.y (pos 2 *ℤ cross t.course (way_to t page row from)) t.course.x

-- a row further to the left, and one to the right
fall_core : (k l m : ℤ) (S D P N at to h : ℕ) → pos h ≡ pos (2 ^ 32) *ℤ (k +ℤ m) +ℤ pos (2 ^ 62 * S) → l ≡ k -ℤ pos D → at * S ≤ h → h < (at + N) * S
    → 2 ^ 32 * D ≤ P * S → P * S ≤ 2 ^ 32 * D + S → to + P ≡ at
    → (pos (h - 2 ^ 32 * D) ≡ pos (2 ^ 32) *ℤ (l +ℤ m) +ℤ pos (2 ^ 62 * S)) × ((to * S ≤ h - 2 ^ 32 * D) × (h - 2 ^ 32 * D < (to + (N + 1)) * S))
fall_core k l m S D P N at to h e f u o p q g =
    let s : at * S ≡ to * S + P * S = ap (λ (n : ℕ). n * S) (sym g) ∙ omega arith in
    let v : (at + N) * S ≡ at * S + N * S = omega arith in
    let w : (to + (N + 1)) * S ≡ to * S + N * S + S = omega arith in
    let d : 2 ^ 32 * D ≤ h = omega (arith, s, u, p) in
    (omega (arith, ints, e, f, d), (omega (arith, s, u, p, d), omega (arith, s, v, w, o, q, d)))

rise_core : (k l m : ℤ) (S D P N at to h : ℕ) → pos h ≡ pos (2 ^ 32) *ℤ (k +ℤ m) +ℤ pos (2 ^ 62 * S) → l ≡ k +ℤ pos D → at * S ≤ h → h < (at + N) * S
    → P * S ≤ 2 ^ 32 * D → 2 ^ 32 * D ≤ (P + 1) * S → to ≡ at + P
    → (pos (h + 2 ^ 32 * D) ≡ pos (2 ^ 32) *ℤ (l +ℤ m) +ℤ pos (2 ^ 62 * S)) × ((to * S ≤ h + 2 ^ 32 * D) × (h + 2 ^ 32 * D < (to + (N + 1)) * S))
rise_core k l m S D P N at to h e f u o p q g =
    let s : to * S ≡ at * S + P * S = ap (λ (n : ℕ). n * S) g ∙ omega arith in
    let v : (at + N) * S ≡ at * S + N * S = omega arith in
    let w : (to + (N + 1)) * S ≡ to * S + N * S + S = omega arith in
    let z : (P + 1) * S ≡ P * S + S = omega arith in
    (omega (arith, ints, e, f), (omega (arith, s, u, p), omega (arith, s, v, w, z, o, q)))

rows_left : (end row p : ℕ) → row < end → (end - row) * p ≡ (end - (row + 1)) * p + p
rows_left end row p h =
    let e : end - row ≡ end - (row + 1) + 1 = omega (arith, h) in
    ap (λ (n : ℕ). n * p) e ∙ omega arith

-- an edge has room for one more row
pub edge_room : (t : Trace) (page : Page) (from : ℕ) (e : Edges) (row at : ℕ) → IsEdge t page from e row at → (e.pace ≤ at) × (at + e.pace < 2 ^ 64)
edge_room t page from e row at d =
    let left = rows_left e.rows.end row e.pace d.end in
    (omega (arith, left, d.room_low), omega (arith, left, d.room_high))

pub edge_falls : (t : Trace) (page : Page) (from : ℕ) (e : Edges) (row at to : ℕ) → IsEdge t page from e row at → row + 1 < e.rows.end → e.falls ≡ true → to + e.pace ≡ at
    → IsEdge t page from e (row + 1) to
edge_falls t page from e row at to d last f g =
    let s = d.sure in
    let D : ℕ = 32512 * nat_abs t.course.x in
    let l : way_of t page from (row + 1) ≡ way_of t page from row -ℤ pos (32512 * nat_abs t.course.x) = way_down t page from row ∙ ap (λ (z : ℤ). way_of t page from row -ℤ pos 32512 *ℤ z) (s.falls_is f) in
    let r = fall_core (way_of t page from row) (way_of t page from (row + 1)) t.slope.most t.slope.step (32512 * nat_abs t.course.x) e.pace (row - e.rows.low + 1) at to d.edge (edge_whole t page from e row at d) l d.under d.over (s.fall_low f) (s.fall_high f) g in
    let n : row + 1 - e.rows.low + 1 ≡ row - e.rows.low + 1 + 1 = omega (arith, d.low) in
    let left = rows_left e.rows.end row e.pace d.end in
    record {
      sure = d.sure;
      low = omega (arith, d.low);
      end = last;
      edge = d.edge - 2 ^ 32 * (32512 * nat_abs t.course.x);
      edge_is = edge_known t page from (row + 1) _ r.0;
      under = (r.1).0;
      over = rw n ((r.1).1);
      room_low = omega (arith, left, d.room_low, g);
      room_high = omega (arith, left, d.room_high, g);
    }

pub edge_rises : (t : Trace) (page : Page) (from : ℕ) (e : Edges) (row at to : ℕ) → IsEdge t page from e row at → row + 1 < e.rows.end → e.falls ≡ false → to ≡ at + e.pace
    → IsEdge t page from e (row + 1) to
edge_rises t page from e row at to d last f g =
    let s = d.sure in
    let l : way_of t page from (row + 1) ≡ way_of t page from row +ℤ pos (32512 * nat_abs t.course.x) = (let a = way_down t page from row ∙ ap (λ (z : ℤ). way_of t page from row -ℤ pos 32512 *ℤ z) (s.rises_is f) in less_neg (way_of t page from (row + 1)) (way_of t page from row) (nat_abs t.course.x) a) in
    let r = rise_core (way_of t page from row) (way_of t page from (row + 1)) t.slope.most t.slope.step (32512 * nat_abs t.course.x) e.pace (row - e.rows.low + 1) at to d.edge (edge_whole t page from e row at d) l d.under d.over (s.pace_low f) (s.pace_high f) g in
    let n : row + 1 - e.rows.low + 1 ≡ row - e.rows.low + 1 + 1 = omega (arith, d.low) in
    let left = rows_left e.rows.end row e.pace d.end in
    record {
      sure = d.sure;
      low = omega (arith, d.low);
      end = last;
      edge = d.edge + 2 ^ 32 * (32512 * nat_abs t.course.x);
      edge_is = edge_known t page from (row + 1) _ r.0;
      under = (r.1).0;
      over = rw n ((r.1).1);
      room_low = omega (arith, left, d.room_low, g);
      room_high = omega (arith, left, d.room_high, g);
    }

-- a row between both sides is beside the stroke, of a course that rises and of one that falls
twice_height : (t : Trace) (page : Page) (row : ℕ) → pos 2 *ℤ (way_to t page row 0).y ≡ pos 2 *ℤ pos (16 * page.height * t.dots.resolution) -ℤ pos ((2 * row + 1) * 16256) -ℤ pos 2 *ℤ t.first.y
twice_height t page row =
    let e : t.first.y ≡ pos t.dots.resolution *ℤ (first_end t.stroke.now).y = ap (λ (v : Vector). v.y) t.sound.first_is in
    omega (arith, ints, e)

scaled_height : (t : Trace) → t.scaled_course.y ≡ pos t.dots.resolution *ℤ t.course.y
scaled_height t = ap (λ (v : Vector). v.y) t.sound.scaled_is

pub beside_rising : (t : Trace) (page : Page) (row : ℕ) (top first last low high : ℤ) → top ≡ pos 2 *ℤ pos (16 * page.height * t.dots.resolution) → first ≡ top -ℤ pos 2 *ℤ t.first.y
    → last ≡ first -ℤ pos 2 *ℤ t.scaled_course.y → low ≡ last +ℤ pos (width_of t + 1) → high ≡ first -ℤ pos (width_of t + 1) → (y : ℤ) → t.course.y ≡ y → pos 0 ≤ℤ y
    → low ≤ℤ pos ((2 * row + 1) * 16256) → pos ((2 * row + 1) * 16256) ≤ℤ high → IsBeside t page row
beside_rising t page row top first last low high et ef el eo eh (pos n) ey up u v =
    let h = twice_height t page row in
    let s : t.scaled_course.y ≡ pos (t.dots.resolution * n) = scaled_height t ∙ ap (λ (z : ℤ). pos t.dots.resolution *ℤ z) ey in
    let e : int_le (pos 0) (pos n) ≡ true = sym (omega (arith, ints)) in
    let a : pos (width_of t) <ℤ (pos 2 *ℤ (way_to t page row 0).y) = omega (arith, ints, h, et, ef, eh, v) in
    let b : (pos 2 *ℤ (way_to t page row 0).y +ℤ pos (width_of t)) <ℤ pos (2 * (t.dots.resolution * n)) = omega (arith, ints, h, et, ef, el, eo, s, u) in
    record {
      above = simp (ey, e) a;
      below = simp (ey, e) b;
    }
beside_rising t page row top first last low high et ef el eo eh (negsuc n) ey up u v = absurd (omega (arith, ints, up))

pub beside_falling : (t : Trace) (page : Page) (row : ℕ) (top first last low high : ℤ) → top ≡ pos 2 *ℤ pos (16 * page.height * t.dots.resolution) → first ≡ top -ℤ pos 2 *ℤ t.first.y
    → last ≡ first -ℤ pos 2 *ℤ t.scaled_course.y → low ≡ first +ℤ pos (width_of t + 1) → high ≡ last -ℤ pos (width_of t + 1) → (y : ℤ) → t.course.y ≡ y → y <ℤ pos 0
    → low ≤ℤ pos ((2 * row + 1) * 16256) → pos ((2 * row + 1) * 16256) ≤ℤ high → IsBeside t page row
beside_falling t page row top first last low high et ef el eo eh (pos n) ey down u v = absurd (omega (arith, ints, down))
beside_falling t page row top first last low high et ef el eo eh (negsuc n) ey down u v =
    let h = twice_height t page row in
    let s : t.scaled_course.y ≡ neg_ℤ (pos (t.dots.resolution * suc n)) = scaled_height t ∙ ap (λ (z : ℤ). pos t.dots.resolution *ℤ z) ey ∙ omega (arith, ints) in
    let a : pos (width_of t) <ℤ (pos 2 *ℤ neg_ℤ (way_to t page row 0).y) = omega (arith, ints, h, et, ef, eo, u) in
    let b : (pos 2 *ℤ neg_ℤ (way_to t page row 0).y +ℤ pos (width_of t)) <ℤ pos (2 * (t.dots.resolution * suc n)) = omega (arith, ints, h, et, ef, el, eh, s, v) in
    record {
      above = simp ey a;
      below = simp ey b;
    }

-- the numbers that the code of edges works out
pub record Made (t : Trace) (page : Page) (from : ℕ) (rows : Span) (falls : Bool) (m : Moves) : Type 0 where
  pub some : 0 < t.slope.step
  pub most : ℕ
  pub most_is : t.slope.most ≡ pos most
  pub narrow : ℕ
  pub narrow_in : pos (narrow * narrow) ≤ℤ dot t.course t.course
  pub gap : ℕ
  pub gap_is : m.gap ≡ gap + 1
  pub gap_high : 2 ^ 32 * (most - width_of t * narrow) < (gap + 1) * t.slope.step
  pub width_low : m.width * t.slope.step ≤ 2 ^ 32 * (2 * most)
  pub width_high : 2 ^ 32 * (2 * most) < (m.width + 1) * t.slope.step
  pub slower : ℕ
  pub slower_low : slower * t.slope.step ≤ 2 ^ 32 * (32512 * nat_abs t.course.x)
  pub slower_high : 2 ^ 32 * (32512 * nat_abs t.course.x) < (slower + 1) * t.slope.step
  pub pace_is : m.pace ≡ cond falls (slower + 1) slower
  pub falls_is : falls ≡ true → pos 0 <ℤ turned t t.course.x
  pub rises_is : falls ≡ false → turned t t.course.x ≤ℤ pos 0
  pub place : IsPlace (turned t (pos 2 *ℤ cross t.course (way_to t page rows.low from)) +ℤ t.slope.most) t.slope.step m.end
  pub beside : (row : ℕ) → rows.low ≤ row → row < rows.end → IsBeside t page row

turned_size : (y z : ℤ) → nat_abs (cond (int_le (pos 0) y) z (neg_ℤ z)) ≡ nat_abs z
turned_size (pos n) z = let e : int_le (pos 0) (pos n) ≡ true = sym (omega (arith, ints)) in rw e refl
turned_size (negsuc n) z = omega (arith, ints)

above_zero : (z : ℤ) (n : ℕ) → nat_abs z ≡ n → pos 0 <ℤ z → z ≡ pos n
above_zero z n e h = omega (arith, ints, e, h)

below_zero : (z : ℤ) (n : ℕ) → nat_abs z ≡ n → z ≤ℤ pos 0 → z ≡ neg_ℤ (pos n)
below_zero z n e h = omega (arith, ints, e, h)

gap_core : (most inner g S : ℕ) → 2 ^ 32 * (most - inner) < g * S → 2 ^ 32 * most ≤ g * S + 2 ^ 32 * inner
gap_core most inner g S h = omega (arith, h)

sure_made : (t : Trace) (page : Page) (from : ℕ) (rows : Span) (falls : Bool) (m : Moves) (e : Edges) → Made t page from rows falls m → AreFitted rows falls m e → AreSure t page e
sure_made t page from rows falls m e k f =
    let a = turned_size t.course.y t.course.x in
    let z : (P S' D : ℕ) → (P + 1) * S' ≡ P * S' + S' = λ P S' D. omega arith in
    let zs = z k.slower t.slope.step 0 in
    record {
      some = k.some;
      most = k.most;
      most_is = k.most_is;
      width_low = (let w = subst (λ (n : ℕ). n * t.slope.step ≤ 2 ^ 32 * (2 * k.most)) (sym f.width_is) k.width_low in omega (arith, w));
      width_high = (let w = subst (λ (n : ℕ). 2 ^ 32 * (2 * k.most) < (n + 1) * t.slope.step) (sym f.width_is) k.width_high in omega (arith, w));
      pace_low = λ h. (let p : e.pace ≡ k.slower = f.pace_is ∙ k.pace_is ∙ ap (λ (b : Bool). cond b (k.slower + 1) k.slower) (sym f.falls_is ∙ h) in subst (λ (n : ℕ). n * t.slope.step ≤ 2 ^ 32 * (32512 * nat_abs t.course.x)) (sym p) k.slower_low);
      pace_high = λ h. (let p : e.pace ≡ k.slower = f.pace_is ∙ k.pace_is ∙ ap (λ (b : Bool). cond b (k.slower + 1) k.slower) (sym f.falls_is ∙ h) in
          subst (λ (n : ℕ). 2 ^ 32 * (32512 * nat_abs t.course.x) ≤ (n + 1) * t.slope.step) (sym p) (omega (arith, k.slower_high)));
      fall_low = λ h. (let p : e.pace ≡ k.slower + 1 = f.pace_is ∙ k.pace_is ∙ ap (λ (b : Bool). cond b (k.slower + 1) k.slower) (sym f.falls_is ∙ h) in
          subst (λ (n : ℕ). 2 ^ 32 * (32512 * nat_abs t.course.x) ≤ n * t.slope.step) (sym p) (omega (arith, k.slower_high)));
      fall_high = λ h. (let p : e.pace ≡ k.slower + 1 = f.pace_is ∙ k.pace_is ∙ ap (λ (b : Bool). cond b (k.slower + 1) k.slower) (sym f.falls_is ∙ h) in
          subst (λ (n : ℕ). n * t.slope.step ≤ 2 ^ 32 * (32512 * nat_abs t.course.x) + t.slope.step) (sym p) (omega (arith, k.slower_low, zs)));
      falls_is = λ h. above_zero (turned t t.course.x) (nat_abs t.course.x) a (k.falls_is (sym f.falls_is ∙ h));
      rises_is = λ h. below_zero (turned t t.course.x) (nat_abs t.course.x) a (k.rises_is (sym f.falls_is ∙ h));
      under = k.narrow;
      under_in = k.narrow_in;
      gap = m.gap;
      gap_is = gap_core k.most (width_of t * k.narrow) m.gap t.slope.step (subst (λ (n : ℕ). 2 ^ 32 * (k.most - width_of t * k.narrow) < n * t.slope.step) (sym k.gap_is) k.gap_high);
      margin = (let r : e.rows.end - e.rows.low ≡ rows.end - rows.low = ap (λ (s : Span). s.end - s.low) f.rows_is in omega (arith, r, f.margin_is));
      margin_in = f.margin_in;
      width_in = f.width_in;
      beside = λ row u v. k.beside row (subst (λ (s : Span). s.low ≤ row) f.rows_is u) (subst (λ (s : Span). row < s.end) f.rows_is v);
    }

pub edges_made : (t : Trace) (page : Page) (from : ℕ) (rows : Span) (falls : Bool) (m : Moves) (e : Edges) → Made t page from rows falls m → AreFitted rows falls m e → AreEdges t page from e
unfolding way_of
edges_made t page from rows falls m e k f = record {
  first = λ some. (let low : e.rows.low ≡ rows.low = ap (λ (s : Span). s.low) f.rows_is in
      let left : e.rows.end - e.rows.low ≡ rows.end - rows.low = ap (λ (s : Span). s.end - s.low) f.rows_is in
      let q : e.rows.low - e.rows.low + 1 ≡ 1 = omega arith in
      let p = k.place in
      record {
        sure = sure_made t page from rows falls m e k f;
        low = omega arith;
        end = some;
        edge = p.edge;
        edge_is = edge_known t page from e.rows.low p.edge (subst (λ (row : ℕ). pos p.edge ≡ pos (2 ^ 32) *ℤ (way_of t page from row +ℤ t.slope.most) +ℤ pos (2 ^ 62 * t.slope.step)) (sym low) p.edge_is);
        under = subst (λ (n : ℕ). n * t.slope.step ≤ p.edge) (sym f.end_is) p.under;
        over = subst (λ (n : ℕ). p.edge < (e.end + n) * t.slope.step) (sym q) (subst (λ (n : ℕ). p.edge < (n + 1) * t.slope.step) (sym f.end_is) p.over);
        room_low = subst (λ (n : ℕ). 2 ^ 61 + n * e.pace ≤ e.end) (sym left) f.room_low;
        room_high = subst (λ (n : ℕ). e.end + n * e.pace ≤ 2 ^ 63) (sym left) f.room_high;
      });
}

pub some_map : (A : Type 0) (o : Option A) (P Q : A → Type 0) → ((x : A) → P x → Q x) → IfSome o P → IfSome o Q
some_map A (Some x) P Q f p = f x p
some_map A None P Q f p = p
