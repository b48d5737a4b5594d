-- The scan of a small box: the mask of a row, and what its inking leaves.
use Rattle.std.proofs.Common.{◌≡◌, ℕ, suc, ◌+◌, ◌-◌, ◌*◌, ◌/◌, ◌%◌, ◌^◌, ◌<◌, ◌≤◌, inl, inr, refl, sym, ap, ◌∙◌, arith, ℤ, pos, ◌+ℤ◌, ◌-ℤ◌, ◌*ℤ◌, nat_abs, Bool, true, false, cond, max, List, int_le}
use Rattle.std.specs.Int.{bit_at, from_bool, int_max, int_min}
use Rattle.std.proofs.lemmas.Int.{ints, clamps, unsigned_abs-mul}
use Rattle.std.proofs.lemmas.Bool.{cases_lt, and_parts}
use Rattle.std.proofs.lemmas.Nat.{pow-add}
use Rattle.std.proofs.lemmas.Nat.Bits.{bit_at-suc, bit_at_lowest, bit_at-lt}
use Rattle.std.proofs.Math.Nat.{mul-le-mul_left}
use Rattle.exact.proofs.Ring.{mul-sub_z}
use Rattle.plot_page.specs.Segments.{Segment}
use Rattle.plot_page.specs.declared.page.Page.{Page}
use Rattle.plot_page.specs.declared.dots.Dots.{Dots}
use Rattle.stroke_raster.specs.declared.short.Short.{Short}
use Rattle.stroke_raster.specs.declared.vector.Vector.{Vector}
use Rattle.stroke_raster.specs.Bounds.{Within}
use Rattle.stroke_raster.specs.Boxes.{in_box, widened}
use Rattle.stroke_raster.specs.Covers.{centre, covers, drawn_width, first_end, in_window, last_end}
use Rattle.stroke_raster.specs.Gap.{way, scaled}
use Rattle.stroke_raster.specs.Inks.{ink, AreMaskInked, IsReached}
use Rattle.stroke_raster.specs.ShortNumbers.{IsShort, sides}
use Rattle.stroke_raster.specs.Shorts.{AreMasked, is_short_met}
use Rattle.stroke_raster.specs.Traces.{rightward}
use Rattle.stroke_raster.proofs.RunLemmas.{covered_is_gap_met}

-- one pixel more in a mask
mask_bits : (short : Short) (start : Vector) (i m b : ℕ) → b ≡ cond (is_short_met short (rightward start i)) 1 0 → b < 2 → AreMasked short start i m → AreMasked short start (i + 1) (2 * m + b)
mask_bits short start i m b e small h j u = elim (cases_lt j i) [
  | inl l ↦ (let k : i + 1 - 1 - j ≡ suc (i - 1 - j) = omega (arith, l) in
      let d : (2 * m + b) / 2 ≡ m = omega (arith, small) in
      ap (bit_at (2 * m + b)) k ∙ bit_at-suc (2 * m + b) (i - 1 - j) ∙ ap (λ (n : ℕ). bit_at n (i - 1 - j)) d ∙ h j l)
  | inr l ↦ (let k : i + 1 - 1 - j ≡ 0 = omega (arith, l) in
      let g : j ≡ i = omega (arith, l, u) in
      let d : (2 * m + b) % 2 ≡ b = omega (arith, small) in
      ap (bit_at (2 * m + b)) k ∙ bit_at_lowest (2 * m + b) ∙ d ∙ e ∙ ap (λ (n : ℕ). cond (is_short_met short (rightward start n)) 1 0) (sym g))
]

-- a truth as a number
pub truth_bit : (t : Bool) → from_bool t ≡ cond t 1 0
truth_bit true = refl
truth_bit false = refl

truth_small : (t : Bool) → from_bool t < 2
truth_small true = omega arith
truth_small false = omega arith

pub mask_step : (short : Short) (start : Vector) (i m : ℕ) (t : Bool) → t ≡ is_short_met short (rightward start i) → m < 2 ^ i → AreMasked short start i m
    → (2 * m + from_bool t < 2 ^ (i + 1)) × AreMasked short start (i + 1) (2 * m + from_bool t)
mask_step short start i m t e fit h =
    let p : 2 ^ (i + 1) ≡ 2 ^ i * 2 ^ 1 = pow-add 2 i 1 in
    let small = truth_small t in
    let b : from_bool t ≡ cond (is_short_met short (rightward start i)) 1 0 = truth_bit t ∙ ap (λ (z : Bool). cond z 1 0) e in
    (omega (arith, p, fit, small), mask_bits short start i m (from_bool t) b small h)

-- in the box a pixel is covered if and only if the way to it from the first end is near the short stroke
pub covered_is_short_met : (short : Short) (s : Segment) (page : Page) (dots : Dots) (row from i : ℕ) (start : Vector)
    → short.course ≡ way (first_end s) (last_end s) → short.resolution ≡ dots.resolution → short.width ≡ drawn_width s.width dots.resolution
    → start ≡ way (scaled (pos dots.resolution) (first_end s)) (centre page.height dots.resolution row from)
    → in_box s page dots row (from + i) ≡ true → covers s page dots row (from + i) ≡ is_short_met short (rightward start i)
covered_is_short_met short s page dots row from i start ec er ed es b = rw (er, ed) (covered_is_gap_met s page dots row from i short.course start ec es b)

-- a coordinate of the way to a place in the box of a short stroke
axis_small : (a b p : ℤ) (r d n : ℕ) → widened (pos r *ℤ a) (pos r *ℤ b) d p ≡ true → nat_abs (b -ℤ a) ≤ n → r * n ≤ 262144 → d ≤ 262144 → nat_abs (p -ℤ pos r *ℤ a) ≤ 393216
axis_small a b p r d n h k l w =
    let parts = and_parts (int_le (pos 2 *ℤ int_min (pos r *ℤ a) (pos r *ℤ b) -ℤ pos d) (pos 2 *ℤ p)) (int_le (pos 2 *ℤ p) (pos 2 *ℤ int_max (pos r *ℤ a) (pos r *ℤ b) +ℤ pos d)) h in
    let e : pos r *ℤ (b -ℤ a) ≡ pos r *ℤ b -ℤ pos r *ℤ a = mul-sub_z (pos r) b a in
    let f : nat_abs (pos r *ℤ (b -ℤ a)) ≡ r * nat_abs (b -ℤ a) = unsigned_abs-mul (pos r) (b -ℤ a) in
    let g : r * nat_abs (b -ℤ a) ≤ r * n = mul-le-mul_left r k in
    let lo = parts.0 in
    let hi = parts.1 in
    omega (arith, ints, clamps, e, f, g, l, w, lo, hi)

-- the way to a pixel in the box of a short stroke
pub short_way_within : (s : Segment) (page : Page) (dots : Dots) (row from i : ℕ) (start : Vector) → IsShort s dots
    → start ≡ way (scaled (pos dots.resolution) (first_end s)) (centre page.height dots.resolution row from)
    → in_box s page dots row (from + i) ≡ true → Within 393216 (rightward start i)
short_way_within s page dots row from i start short es b =
    let r = dots.resolution in
    let d = drawn_width s.width r in
    let p = centre page.height r row (from + i) in
    let parts = and_parts (in_window s.window r p) _ b in
    let axes = and_parts (widened (pos r *ℤ s.ax) (pos r *ℤ s.bx) d p.x) (widened (pos r *ℤ s.ay) (pos r *ℤ s.by) d p.y) parts.1 in
    let n = sides (way (first_end s) (last_end s)) in
    let x = axis_small s.ax s.bx p.x r d n axes.0 (omega arith) short.pixels short.width in
    let y = axis_small s.ay s.by p.y r d n axes.1 (omega arith) short.pixels short.width in
    let h : Within 393216 (rightward (way (scaled (pos r) (first_end s)) (centre page.height r row from)) i) = record {
      x = omega (arith, ints, x);
      y = omega (arith, ints, y);
    } in
    rw es h

-- the pixels of a row that are reached, inked by their mask
pub mask_reached : (short : Short) (start : Vector) (reached : ℕ → Bool) (from n m : ℕ) (old new : List ℕ)
    → ((i : ℕ) → i < n → reached (from + i) ≡ is_short_met short (rightward start i)) → AreMasked short start n m → AreMaskInked from n m old new → IsReached reached from n old new
mask_reached short start reached from n m old new same masked inked = record {
  length = inked.length;
  within = λ i u. (let b = masked i u in
      let e = inked.within i u in
      let f : ink new (from + i) ≡ max (ink old (from + i)) (cond (reached (from + i)) 1 0) = e ∙ ap (λ (z : ℕ). max (ink old (from + i)) z) (b ∙ ap (λ (z : Bool). cond z 1 0) (sym (same i u))) in
      f ∙ joined_ink (ink old (from + i)) (reached (from + i)) (bit_at-lt _ _));
  before = inked.before;
  after = inked.after;
}
  where
    joined_ink : (o : ℕ) (b : Bool) → o < 2 → max o (cond b 1 0) ≡ cond b 1 o
    joined_ink o true h = omega (arith, h)
    joined_ink o false h = omega (arith, h)
