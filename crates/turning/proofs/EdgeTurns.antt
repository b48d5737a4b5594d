-- What is inside an area after a quarter turn.
use Rattle.std.proofs.Common.{◌≡◌, ◌∙◌, ℕ, ◌+◌, ◌*◌, ◌≤◌, Bool, false, not, ◌&&◌, sym}
use Rattle.std.proofs.Common.{ap, ap₂, arith, ℤ, pos, neg_ℤ, ◌+ℤ◌, ◌-ℤ◌, ◌*ℤ◌, int_le, int_lt}
use Rattle.std.proofs.lemmas.Bool.{true≢false}
use Rattle.std.proofs.lemmas.Int.{ints}
use Rattle.areas.specs.Inside.{falls_past, rises_past}
use Rattle.directions.specs.declared.turn.Turn.TheVariants.{Quarter}
use Rattle.exact.proofs.Ring.{add-mul_z, mul-add_z, mul-sub_z, mul_assoc_z, mul_comm_z, mul_left_comm_z, neg-mul_z}
use Rattle.plot_page.specs.declared.page.Page.{Page}
use Rattle.plot_page.specs.Segments.{Segment}
use Rattle.polygons.proofs.SolidLaws.{one}
use Rattle.polygons.proofs.Tests.{le_from, le_true, same_test}
use Rattle.stroke_raster.specs.Covers.{first_end, last_end}
use Rattle.stroke_raster.specs.Gap.{cross, scaled, way}
use Rattle.turning.specs.Filled.{is_on}
use Rattle.turning.specs.Pictures.{turned_point}
use Rattle.turning.specs.Turns.{turned_segment}
use Rattle.stroke_raster.specs.declared.vector.Vector.{Vector}
use Rattle.turning.proofs.Edges.{IsOff, counts, first, second, sides}
use Rattle.turning.proofs.Shown.{flipped}
use Rattle.turning.proofs.Signs.{scaled_test}
use Rattle.turning.proofs.Untouched.{touched}

-- tests, from the other side
not_le : (a b : ℤ) → int_lt a b ≡ not (int_le b a)
not_le a b = grind (arith, ints)

not_lt : (a b : ℤ) → int_le b a ≡ not (int_lt a b)
not_lt a b = grind (arith, ints)

shifted : (a b c d : ℤ) → a -ℤ b ≡ c -ℤ d → int_le a b ≡ int_le c d
shifted a b c d e =
    same_test (int_le a b) (int_le c d)
    (λ t. let h = le_from a b t in le_true c d (omega (arith, ints, h, e)))
    (λ t. let h = le_from c d t in le_true a b (omega (arith, ints, h, e)))

negated : (a b : ℤ) → int_le (neg_ℤ a) (neg_ℤ b) ≡ int_le b a
negated a b = shifted (neg_ℤ a) (neg_ℤ b) b a (omega (arith, ints))

sum : (b m a : ℤ) → b -ℤ a ≡ (b -ℤ m) +ℤ (m -ℤ a)
sum b m a = omega (arith, ints)

module _ (r : ℕ) (ax ay bx by x y : ℤ) where
  -- the products that are compared, and r times these
  abbrev over : ℤ
  over = (bx -ℤ ax) *ℤ (y -ℤ pos r *ℤ ay)

  abbrev beside : ℤ
  beside = (x -ℤ pos r *ℤ ax) *ℤ (by -ℤ ay)

  abbrev one_product : ℤ
  one_product = first (pos r *ℤ ax) (pos r *ℤ ay) (pos r *ℤ bx) (pos r *ℤ by) x y

  abbrev other_product : ℤ
  other_product = second (pos r *ℤ ax) (pos r *ℤ ay) (pos r *ℤ bx) (pos r *ℤ by) x y

  same_difference : pos r *ℤ over -ℤ pos r *ℤ beside ≡ one_product -ℤ other_product
  same_difference =
      let w = x -ℤ pos r *ℤ ax in
      let z = y -ℤ pos r *ℤ ay in
      let a = mul_assoc_z (pos r) (bx -ℤ ax) z in
      let b = mul-sub_z (pos r) bx ax in
      let c = ap (λ (k : ℤ). k *ℤ z) (b ∙ sum (pos r *ℤ bx) x (pos r *ℤ ax)) in
      let d = add-mul_z (pos r *ℤ bx -ℤ x) w z in
      let e = mul_left_comm_z (pos r) w (by -ℤ ay) in
      let f = mul-sub_z (pos r) by ay in
      let g = ap (λ (k : ℤ). w *ℤ k) (f ∙ sum (pos r *ℤ by) y (pos r *ℤ ay)) in
      let h = mul-add_z w (pos r *ℤ by -ℤ y) z in
      omega (arith, ints, a, c, d, e, g, h)

  past_up : 1 ≤ r → int_le over beside ≡ int_le one_product other_product
  past_up h =
      sym (scaled_test r over beside h) ∙ shifted (pos r *ℤ over) (pos r *ℤ beside) one_product other_product same_difference

  past_down : 1 ≤ r → int_le beside over ≡ int_le other_product one_product
  past_down h =
      let e = same_difference in
      sym (scaled_test r beside over h)
      ∙ shifted (pos r *ℤ beside) (pos r *ℤ over) other_product one_product (omega (arith, ints, e))

  -- the same products of the edge after the turn of a page whose height is in grains, and in these, scaled
  over_after : (height k : ℤ) → ((height -ℤ by) -ℤ (height -ℤ ay)) *ℤ (x -ℤ pos r *ℤ ax) ≡ neg_ℤ beside
  over_after height k =
      let e : (height -ℤ by) -ℤ (height -ℤ ay) ≡ neg_ℤ (by -ℤ ay) = omega (arith, ints) in
      ap (λ (z : ℤ). z *ℤ (x -ℤ pos r *ℤ ax)) e
      ∙ neg-mul_z (by -ℤ ay) (x -ℤ pos r *ℤ ax)
      ∙ ap neg_ℤ (mul_comm_z (by -ℤ ay) (x -ℤ pos r *ℤ ax))

  beside_after : (height k : ℤ) → pos r *ℤ (height -ℤ ay) ≡ k -ℤ pos r *ℤ ay
      → ((k -ℤ y) -ℤ pos r *ℤ (height -ℤ ay)) *ℤ (bx -ℤ ax) ≡ neg_ℤ over
  beside_after height k h =
      let e : (k -ℤ y) -ℤ pos r *ℤ (height -ℤ ay) ≡ neg_ℤ (y -ℤ pos r *ℤ ay) = omega (arith, ints, h) in
      ap (λ (z : ℤ). z *ℤ (bx -ℤ ax)) e
      ∙ neg-mul_z (y -ℤ pos r *ℤ ay) (bx -ℤ ax)
      ∙ ap neg_ℤ (mul_comm_z (y -ℤ pos r *ℤ ay) (bx -ℤ ax))

  up_after : (height k : ℤ) → pos r *ℤ (height -ℤ ay) ≡ k -ℤ pos r *ℤ ay
      → int_le (((height -ℤ by) -ℤ (height -ℤ ay)) *ℤ (x -ℤ pos r *ℤ ax)) (((k -ℤ y) -ℤ pos r *ℤ (height -ℤ ay)) *ℤ (bx -ℤ ax))
      ≡ int_le over beside
  up_after height k h = ap₂ int_le (over_after height k) (beside_after height k h) ∙ negated beside over

  down_after : (height k : ℤ) → pos r *ℤ (height -ℤ ay) ≡ k -ℤ pos r *ℤ ay
      → int_le (((k -ℤ y) -ℤ pos r *ℤ (height -ℤ ay)) *ℤ (bx -ℤ ax)) (((height -ℤ by) -ℤ (height -ℤ ay)) *ℤ (x -ℤ pos r *ℤ ax))
      ≡ int_le beside over
  down_after height k h = ap₂ int_le (beside_after height k h) (over_after height k) ∙ negated over beside

three : {a b c d e f : Bool} → a ≡ b → c ≡ d → e ≡ f → ((a && c) && e) ≡ ((b && d) && f)
three p q r = cc (p, q, r)

-- the place is below an end and not left of it
abbrev pub is_under : ℕ → Vector → ℤ → ℤ → Bool
is_under r p x y = int_lt p.y (pos r *ℤ y) && int_le (pos r *ℤ x) p.x

module _ (r : ℕ) (page : Page) (p : Vector) (e : Segment) where
  abbrev turned : Segment
  turned = turned_segment Quarter page e

  abbrev there : Vector
  there = turned_point Quarter page r p

  abbrev ax : ℤ
  ax = pos r *ℤ e.ax

  abbrev ay : ℤ
  ay = pos r *ℤ e.ay

  abbrev bx : ℤ
  bx = pos r *ℤ e.bx

  abbrev by : ℤ
  by = pos r *ℤ e.by

  off_line : is_on r p e ≡ false → IsOff ax ay bx by p.x p.y
  off_line off same across up =
      let v = way (scaled (pos r) (first_end e)) (scaled (pos r) (last_end e)) in
      let w = way (scaled (pos r) (first_end e)) p in
      let a = ap (λ (k : ℤ). k *ℤ w.y) (sum bx p.x ax) in
      let b = add-mul_z (bx -ℤ p.x) w.x w.y in
      let c = ap (λ (k : ℤ). k *ℤ w.x) (sum by p.y ay) in
      let d = add-mul_z (by -ℤ p.y) w.y w.x in
      let f = mul_comm_z (by -ℤ p.y) w.x in
      let g = mul_comm_z w.y w.x in
      let level : cross v w ≡ pos 0 = omega (arith, ints, a, b, c, d, f, g, same) in
      let h : v.x -ℤ w.x ≡ bx -ℤ p.x = omega (arith, ints) in
      let i : v.y -ℤ w.y ≡ by -ℤ p.y = omega (arith, ints) in
      true≢false (sym (touched v w level (rw h across) (rw i up)) ∙ off)

  rises_after : rises_past r turned there.x there.y
      ≡ ((int_le ax p.x && int_lt p.x bx) && int_le (over r e.ax e.ay e.bx e.by p.x p.y) (beside r e.ax e.ay e.bx e.by p.x p.y))
  rises_after =
      ap (λ (b : Bool). (int_le ax p.x && int_lt p.x bx) && b)
      (up_after r e.ax e.ay e.bx e.by p.x p.y (pos (16 * page.height)) (pos (16 * page.height * r)) (flipped r page.height e.ay))

  falls_after : falls_past r turned there.x there.y
      ≡ ((int_le bx p.x && int_lt p.x ax) && int_le (beside r e.ax e.ay e.bx e.by p.x p.y) (over r e.ax e.ay e.bx e.by p.x p.y))
  falls_after =
      ap (λ (b : Bool). (int_le bx p.x && int_lt p.x ax) && b)
      (down_after r e.ax e.ay e.bx e.by p.x p.y (pos (16 * page.height)) (pos (16 * page.height * r)) (flipped r page.height e.ay))

  -- how often it is past the edge before the turn and after it
  pub edge_counts : 1 ≤ r → is_on r p e ≡ false
      → one (rises_past r turned there.x there.y) + one (falls_past r e p.x p.y) + one (is_under r p e.bx e.by)
      ≡ one (rises_past r e p.x p.y) + one (falls_past r turned there.x there.y) + one (is_under r p e.ax e.ay)
  edge_counts h off =
      let a = int_le ay p.y in
      let b = int_lt p.y by in
      let c = int_le ax p.x in
      let d = int_lt p.x bx in
      let n = int_le (first ax ay bx by p.x p.y) (second ax ay bx by p.x p.y) in
      let m = int_le (second ax ay bx by p.x p.y) (first ax ay bx by p.x p.y) in
      let all = counts a b c d n m (sides ax ay bx by p.x p.y (off_line off)) in
      let up = past_up r e.ax e.ay e.bx e.by p.x p.y h in
      let down = past_down r e.ax e.ay e.bx e.by p.x p.y h in
      let i : one (rises_past r turned there.x there.y) ≡ one ((c && d) && n) =
      ap one (rises_after ∙ ap (λ (t : Bool). (c && d) && t) up) in
      let j : one (falls_past r e p.x p.y) ≡ one ((not b && not a) && m) =
      ap one (three (not_lt p.y by) (not_le p.y ay) down) in
      let k : one (is_under r p e.bx e.by) ≡ one (b && not d) = ap (λ (t : Bool). one (b && t)) (not_lt p.x bx) in
      let l : one (rises_past r e p.x p.y) ≡ one ((a && b) && n) = ap (λ (t : Bool). one ((a && b) && t)) up in
      let o : one (falls_past r turned there.x there.y) ≡ one ((not d && not c) && m) =
      ap one (falls_after ∙ three (not_lt p.x bx) (not_le p.x ax) down) in
      let q : one (is_under r p e.ax e.ay) ≡ one (not a && c) = ap (λ (t : Bool). one (t && c)) (not_le p.y ay) in
      omega (arith, all, i, j, k, l, o, q)
