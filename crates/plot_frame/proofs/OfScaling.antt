-- For every kind of scaling X(u) lies on the line of its axis.
use Rattle.std.proofs.Common.{◌≡◌, ◌≢◌, ◌<◌, ◌^◌, ℕ, zero, suc, ◌*◌, refl, sym, ap, ap₂, ◌∙◌, arith, ℤ, pos, negsuc, neg_ℤ, ◌+ℤ◌, ◌-ℤ◌, ◌*ℤ◌, nat_abs}
use Rattle.std.proofs.lemmas.Int.{ints}
use Rattle.exact.proofs.Ring.{mul_assoc_z, mul_comm_z, mul_left_comm_z, mul-add_z, add-mul_z, mul-sub_z, sub-mul_z}
use Rattle.exact.specs.Fraction.{Fraction, whole, quotient, plus, times}
use Rattle.plot_frame.specs.declared.sides.Side.{Side}
use Rattle.plot_frame.specs.declared.pair.AxisName.{AxisName}
use Rattle.plot_frame.specs.declared.pair.Pair.{Pair}
use Rattle.plot_frame.specs.declared.scaling.Ends.{Ends}
use Rattle.plot_frame.specs.declared.scaling.Scaling.{Scaling}
use Rattle.plot_frame.specs.declared.scaling.Scaling.TheVariants.{Off, Anisotropic, Isotropic, PointFactor}
use Rattle.plot_frame.specs.Bounds.{IsEnds, IsRange, IsFittedRange, IsFactor, IsPoints, IsScaling}
use Rattle.plot_frame.specs.Frame.{on_axis, minus, sign, unscaled, stretched, evenly_scaled, unit_size, side_of, axis_units}
use Rattle.plot_frame.specs.Line.{axis_line, line_of, line_of_stretched, line_of_even, unit_along, unscaled_line}
use Rattle.plot_frame.proofs.Values.{Is, is_whole, is_times_both, is_plus, is_times, is_minus, is_as, above_0, product_not_0, product_above}
use Rattle.plot_frame.proofs.OnLine.{OnLine, rest}
use Rattle.plot_frame.proofs.SideBounds.{both_on_axis, IsUnit, unit_in}

times_16_not_0 : (a : ℤ) → a ≢ pos 0 → (pos 16 *ℤ a) ≢ pos 0
times_16_not_0 a h = product_not_0 (pos 16) a (above_0 16 (omega arith)) h

-- X(u) = start + (u - least) * d / a
on_stretch : (start d least u w a m : ℤ)
    → (start *ℤ (w *ℤ a) +ℤ (u -ℤ least *ℤ w) *ℤ d) *ℤ pos 16
    ≡ (pos 16 *ℤ d) *ℤ u +ℤ (pos 16 *ℤ ((start +ℤ m) *ℤ a -ℤ least *ℤ d) -ℤ pos 16 *ℤ (m *ℤ a)) *ℤ w
on_stretch start d least u w a m =
    let z = start *ℤ a -ℤ least *ℤ d in
    let e : pos 16 *ℤ ((start +ℤ m) *ℤ a -ℤ least *ℤ d) -ℤ pos 16 *ℤ (m *ℤ a) ≡ pos 16 *ℤ z = (let i = add-mul_z start m a in omega (arith, ints)) in
    let f : (pos 16 *ℤ z) *ℤ w ≡ pos 16 *ℤ (z *ℤ w) = mul_assoc_z (pos 16) z w in
    let g : z *ℤ w ≡ (start *ℤ a) *ℤ w -ℤ (least *ℤ d) *ℤ w = sub-mul_z (start *ℤ a) (least *ℤ d) w in
    let h : start *ℤ (w *ℤ a) ≡ (start *ℤ a) *ℤ w = ap (λ (y : ℤ). start *ℤ y) (mul_comm_z w a) ∙ sym (mul_assoc_z start a w) in
    let j : (u -ℤ least *ℤ w) *ℤ d ≡ u *ℤ d -ℤ (least *ℤ w) *ℤ d = sub-mul_z u (least *ℤ w) d in
    let k : (least *ℤ w) *ℤ d ≡ (least *ℤ d) *ℤ w = mul_assoc_z least w d ∙ ap (λ (y : ℤ). least *ℤ y) (mul_comm_z w d) ∙ sym (mul_assoc_z least d w) in
    let l : (pos 16 *ℤ d) *ℤ u ≡ pos 16 *ℤ (u *ℤ d) = mul_assoc_z (pos 16) d u ∙ ap (λ (y : ℤ). pos 16 *ℤ y) (mul_comm_z d u) in
    let r : (pos 16 *ℤ d) *ℤ u +ℤ (pos 16 *ℤ ((start +ℤ m) *ℤ a -ℤ least *ℤ d) -ℤ pos 16 *ℤ (m *ℤ a)) *ℤ w ≡ pos 16 *ℤ (u *ℤ d) +ℤ pos 16 *ℤ (z *ℤ w) =
    ap₂ (λ (x y : ℤ). x +ℤ y) l (ap (λ (y : ℤ). y *ℤ w) e ∙ f) in
    summed (start *ℤ (w *ℤ a)) ((u -ℤ least *ℤ w) *ℤ d) (u *ℤ d) (z *ℤ w) ((start *ℤ a) *ℤ w) ((least *ℤ d) *ℤ w) ((least *ℤ w) *ℤ d) h j k g ∙ sym r
  where
    summed : (x y v t i j k : ℤ) → x ≡ i → y ≡ v -ℤ k → k ≡ j → t ≡ i -ℤ j → (x +ℤ y) *ℤ pos 16 ≡ pos 16 *ℤ v +ℤ pos 16 *ℤ t
    summed x y v t i j k p q r s = omega (arith, ints)

stretched_value : (start d least : ℤ) (n margin : ℕ) (u : Fraction) → 0 < u.under
    → Is (plus (whole start) (times (minus u (whole least)) (quotient d (pos n))))
    ((pos 16 *ℤ d) *ℤ u.over +ℤ rest (line_of (start +ℤ pos margin) d least (pos n)) margin *ℤ pos u.under)
    (pos 16 *ℤ (pos n *ℤ pos u.under))
stretched_value start d least n margin u h =
    let w = pos u.under in
    let a = pos n in
    let x : Fraction = times (minus u (whole least)) (quotient d a) in
    let i = is_minus u (whole least) u.over (least *ℤ w) w refl (is_whole least w) in
    let j = is_times (minus u (whole least)) (quotient d a) (u.over -ℤ least *ℤ w) d w a i refl in
    let k = is_plus (whole start) x (start *ℤ (w *ℤ a)) ((u.over -ℤ least *ℤ w) *ℤ d) (w *ℤ a) (is_whole start (w *ℤ a)) j in
    let l = is_times_both (plus (whole start) x) _ (w *ℤ a) (pos 16) k in
    let e : (w *ℤ a) *ℤ pos 16 ≡ pos 16 *ℤ (a *ℤ w) = mul_comm_z (w *ℤ a) (pos 16) ∙ ap (λ (z : ℤ). pos 16 *ℤ z) (mul_comm_z w a) in
    is_as (plus (whole start) x) _ _ _ _ (on_stretch start d least u.over w a (pos margin)) e l

on_line_of : (start d least : ℤ) (n margin : ℕ) → 0 < n → d ≢ pos 0 → OnLine (λ u. plus (whole start) (times (minus u (whole least)) (quotient d (pos n)))) (line_of (start +ℤ pos margin) d least (pos n)) margin
on_line_of start d least n margin h k = record {
  above = λ u v. product_above 1 ((u.under * (1 * 1)) * n) (omega arith) (product_above (u.under * (1 * 1)) n (omega arith) h);
  value = stretched_value start d least n margin;
  slope_not_0 = times_16_not_0 d k;
  under_not_0 = above_0 n h;
}

pub stretched_on_line : (start d least a : ℤ) (margin : ℕ) → d ≢ pos 0 → a ≢ pos 0
    → OnLine (stretched (record { start = start; distance = d; least = least; extent = a })) (line_of_stretched (record { start = start; distance = d; least = least; extent = a }) margin) margin
stretched_on_line start d least (pos zero) margin h k = absurd (k refl)
stretched_on_line start d least (pos (suc n)) margin h k = on_line_of start d least (suc n) margin (omega arith) h
stretched_on_line start d least (negsuc n) margin h k = on_line_of start (neg_ℤ d) least (suc n) margin (omega arith) (λ z. h (omega (arith, ints)))

-- X(u) = u
unscaled_value : (margin : ℕ) (u : Fraction) → 0 < u.under
    → Is (unscaled u) ((pos 16 *ℤ pos 1) *ℤ u.over +ℤ rest (unscaled_line margin) margin *ℤ pos u.under) (pos 16 *ℤ (pos (10 ^ 6) *ℤ pos u.under))
unscaled_value margin u h =
    let w = pos u.under in
    let e6 = pos (10 ^ 6) in
    let i = is_times u (quotient (pos 1) e6) u.over (pos 1) w e6 refl refl in
    let j = is_times_both (unscaled u) (u.over *ℤ pos 1) (w *ℤ e6) (pos 16) i in
    let r : rest (unscaled_line margin) margin ≡ pos 0 = omega (arith, ints) in
    let e : (u.over *ℤ pos 1) *ℤ pos 16 ≡ (pos 16 *ℤ pos 1) *ℤ u.over +ℤ rest (unscaled_line margin) margin *ℤ w =
    numerator u.over w ∙ ap (λ (z : ℤ). (pos 16 *ℤ pos 1) *ℤ u.over +ℤ z *ℤ w) (sym r) in
    let f : (w *ℤ e6) *ℤ pos 16 ≡ pos 16 *ℤ (e6 *ℤ w) = mul_comm_z (w *ℤ e6) (pos 16) ∙ ap (λ (z : ℤ). pos 16 *ℤ z) (mul_comm_z w e6) in
    is_as (unscaled u) _ _ _ _ e f j
  where
    numerator : (y w : ℤ) → (y *ℤ pos 1) *ℤ pos 16 ≡ (pos 16 *ℤ pos 1) *ℤ y +ℤ pos 0 *ℤ w
    numerator y w = omega (arith, ints)

pub unscaled_on_line : (margin : ℕ) → OnLine unscaled (unscaled_line margin) margin
unscaled_on_line margin = record {
  above = λ u v. product_above u.under (10 ^ 6) v (omega arith);
  value = unscaled_value margin;
  slope_not_0 = times_16_not_0 (pos 1) (above_0 1 (omega arith));
  under_not_0 = above_0 (10 ^ 6) (omega arith);
}

-- a sign and a size are the number
signed : (d : ℤ) → sign d *ℤ pos (nat_abs d) ≡ d
signed (pos zero) = refl
signed (pos (suc n)) = omega (arith, ints)
signed (negsuc n) = omega (arith, ints)

unsigned : (a : ℤ) → sign a *ℤ a ≡ pos (nat_abs a)
unsigned (pos zero) = refl
unsigned (pos (suc n)) = omega (arith, ints)
unsigned (negsuc n) = omega (arith, ints)

pub sign_not_0 : (d : ℤ) → d ≢ pos 0 → sign d ≢ pos 0
sign_not_0 (pos zero) h = absurd (h refl)
sign_not_0 (pos (suc n)) h = above_0 1 (omega arith)
sign_not_0 (negsuc n) h = λ (z : negsuc 0 ≡ pos 0). absurd (omega (arith, ints))

-- the share of what is left over, with the sign of d
share_is : (percent d a n m : ℤ) → sign d *ℤ (percent *ℤ (pos (nat_abs d) *ℤ m -ℤ n *ℤ pos (nat_abs a))) ≡ percent *ℤ (d *ℤ m -ℤ (sign d *ℤ (sign a *ℤ n)) *ℤ a)
share_is percent d a n m =
    let s = sign d in
    let x = pos (nat_abs d) *ℤ m in
    let y = n *ℤ pos (nat_abs a) in
    let e : s *ℤ x ≡ d *ℤ m = sym (mul_assoc_z s (pos (nat_abs d)) m) ∙ ap (λ (z : ℤ). z *ℤ m) (signed d) in
    let f : (s *ℤ (sign a *ℤ n)) *ℤ a ≡ s *ℤ y =
    mul_assoc_z s (sign a *ℤ n) a
    ∙ ap (λ (z : ℤ). s *ℤ z) (ap (λ (z : ℤ). z *ℤ a) (mul_comm_z (sign a) n) ∙ mul_assoc_z n (sign a) a ∙ ap (λ (z : ℤ). n *ℤ z) (unsigned a)) in
    mul_left_comm_z s percent (x -ℤ y)
    ∙ ap (λ (z : ℤ). percent *ℤ z) (mul-sub_z s x y ∙ ap₂ (λ (i j : ℤ). i -ℤ j) e (sym f))

-- the way on from the least coordinate, with the sign of d
way_is : (s t n u least w : ℤ) → s *ℤ (t *ℤ (n *ℤ (u -ℤ least *ℤ w))) ≡ (s *ℤ (t *ℤ n)) *ℤ u -ℤ ((s *ℤ (t *ℤ n)) *ℤ least) *ℤ w
way_is s t n u least w =
    let k = s *ℤ (t *ℤ n) in
    let v = u -ℤ least *ℤ w in
    ap (λ (z : ℤ). s *ℤ z) (sym (mul_assoc_z t n v)) ∙ sym (mul_assoc_z s (t *ℤ n) v) ∙ mul-sub_z k u (least *ℤ w) ∙ ap (λ (z : ℤ). k *ℤ u -ℤ z) (sym (mul_assoc_z k least w))

-- the numerator of X(u) with a share r and a way k * u - b * w
on_even : (start r k u b w m g e : ℤ)
    → (start *ℤ ((e *ℤ m) *ℤ w) +ℤ (r *ℤ w +ℤ e *ℤ (k *ℤ u -ℤ b *ℤ w))) *ℤ pos 16
    ≡ (pos 16 *ℤ (e *ℤ k)) *ℤ u +ℤ (pos 16 *ℤ (((start +ℤ g) *ℤ (e *ℤ m) +ℤ r) -ℤ e *ℤ b) -ℤ pos 16 *ℤ (g *ℤ (e *ℤ m))) *ℤ w
on_even start r k u b w m g e =
    let q = start *ℤ (e *ℤ m) in
    let z = (q +ℤ r) -ℤ e *ℤ b in
    let a : pos 16 *ℤ (((start +ℤ g) *ℤ (e *ℤ m) +ℤ r) -ℤ e *ℤ b) -ℤ pos 16 *ℤ (g *ℤ (e *ℤ m)) ≡ pos 16 *ℤ z = (let i = add-mul_z start g (e *ℤ m) in omega (arith, ints)) in
    let c : (pos 16 *ℤ z) *ℤ w ≡ pos 16 *ℤ (z *ℤ w) = mul_assoc_z (pos 16) z w in
    let d : z *ℤ w ≡ (q +ℤ r) *ℤ w -ℤ (e *ℤ b) *ℤ w = sub-mul_z (q +ℤ r) (e *ℤ b) w in
    let f : (q +ℤ r) *ℤ w ≡ q *ℤ w +ℤ r *ℤ w = add-mul_z q r w in
    let h : start *ℤ ((e *ℤ m) *ℤ w) ≡ q *ℤ w = sym (mul_assoc_z start (e *ℤ m) w) in
    let i : e *ℤ (k *ℤ u -ℤ b *ℤ w) ≡ e *ℤ (k *ℤ u) -ℤ (e *ℤ b) *ℤ w = mul-sub_z e (k *ℤ u) (b *ℤ w) ∙ ap (λ (y : ℤ). e *ℤ (k *ℤ u) -ℤ y) (sym (mul_assoc_z e b w)) in
    let j : (pos 16 *ℤ (e *ℤ k)) *ℤ u ≡ pos 16 *ℤ (e *ℤ (k *ℤ u)) = mul_assoc_z (pos 16) (e *ℤ k) u ∙ ap (λ (y : ℤ). pos 16 *ℤ y) (mul_assoc_z e k u) in
    let l : (pos 16 *ℤ (((start +ℤ g) *ℤ (e *ℤ m) +ℤ r) -ℤ e *ℤ b) -ℤ pos 16 *ℤ (g *ℤ (e *ℤ m))) *ℤ w ≡ pos 16 *ℤ (z *ℤ w) = ap (λ (y : ℤ). y *ℤ w) a ∙ c in
    summed (start *ℤ ((e *ℤ m) *ℤ w)) (r *ℤ w) (e *ℤ (k *ℤ u -ℤ b *ℤ w)) (q *ℤ w) (e *ℤ (k *ℤ u)) ((e *ℤ b) *ℤ w) (z *ℤ w) ((q +ℤ r) *ℤ w) h i d f
    ∙ sym (ap₂ (λ (x y : ℤ). x +ℤ y) j l)
  where
    summed : (x r y q v b z t : ℤ) → x ≡ q → y ≡ v -ℤ b → z ≡ t -ℤ b → t ≡ q +ℤ r → (x +ℤ (r +ℤ y)) *ℤ pos 16 ≡ pos 16 *ℤ v +ℤ pos 16 *ℤ z
    summed x r y q v b z t h i j k = omega (arith, ints)

-- the parts of X(u) that have the sign of d
signed_parts : (percent d a n m u least w e : ℤ)
    → sign d *ℤ ((percent *ℤ (pos (nat_abs d) *ℤ m -ℤ n *ℤ pos (nat_abs a))) *ℤ w +ℤ e *ℤ (sign a *ℤ (n *ℤ (u -ℤ least *ℤ w))))
    ≡ (percent *ℤ (d *ℤ m -ℤ (sign d *ℤ (sign a *ℤ n)) *ℤ a)) *ℤ w +ℤ e *ℤ ((sign d *ℤ (sign a *ℤ n)) *ℤ u -ℤ ((sign d *ℤ (sign a *ℤ n)) *ℤ least) *ℤ w)
signed_parts percent d a n m u least w e =
    let s = sign d in
    let p = percent *ℤ (pos (nat_abs d) *ℤ m -ℤ n *ℤ pos (nat_abs a)) in
    let q = sign a *ℤ (n *ℤ (u -ℤ least *ℤ w)) in
    mul-add_z s (p *ℤ w) (e *ℤ q)
    ∙ ap₂ (λ (x y : ℤ). x +ℤ y)
    (sym (mul_assoc_z s p w) ∙ ap (λ (z : ℤ). z *ℤ w) (share_is percent d a n m))
    (mul_left_comm_z s e q ∙ ap (λ (z : ℤ). e *ℤ z) (way_is s (sign a) n u least w))

even_value : (size : Fraction) (s : Side) (percent : ℤ) (margin : ℕ) (u : Fraction) → 0 < u.under
    → Is (evenly_scaled size s percent u)
    ((pos 16 *ℤ (pos (10 ^ 8) *ℤ unit_along size s)) *ℤ u.over +ℤ rest (line_of_even size s percent margin) margin *ℤ pos u.under)
    (pos 16 *ℤ ((pos (10 ^ 8) *ℤ pos size.under) *ℤ pos u.under))
even_value size s percent margin u h =
    let n = size.over in
    let m = pos size.under in
    let w = pos u.under in
    let e = pos (10 ^ 8) in
    let d = pos (nat_abs s.distance) in
    let a = pos (nat_abs s.extent) in
    let v = u.over -ℤ s.least *ℤ w in
    let k = unit_along size s in
    let covered : Fraction = times size (whole a) in
    let left_over : Fraction = minus (whole d) covered in
    let before : Fraction = times (quotient percent e) left_over in
    let passed : Fraction = minus u (whole s.least) in
    let way : Fraction = times size passed in
    let on : Fraction = times (whole (sign s.extent)) way in
    let both : Fraction = plus before on in
    let moved : Fraction = times (whole (sign s.distance)) both in
    let i1 = is_as covered _ _ _ _ refl (by_one m) (is_times size (whole a) n a m (pos 1) refl refl) in
    let i3 = is_minus (whole d) covered (d *ℤ m) (n *ℤ a) m (is_whole d m) i1 in
    let p = percent *ℤ (d *ℤ m -ℤ n *ℤ a) in
    let i4 = is_times (quotient percent e) left_over percent (d *ℤ m -ℤ n *ℤ a) e m refl i3 in
    let i5 = is_times_both before p (e *ℤ m) w i4 in
    let i6 = is_minus u (whole s.least) u.over (s.least *ℤ w) w refl (is_whole s.least w) in
    let i7 = is_times size passed n v m w refl i6 in
    let q = sign s.extent *ℤ (n *ℤ v) in
    let i8 = is_times (whole (sign s.extent)) way (sign s.extent) (n *ℤ v) (pos 1) (m *ℤ w) refl i7 in
    let i9 = is_as on _ _ _ _ (mul_comm_z q e) (under_is m w e) (is_times_both on q (pos 1 *ℤ (m *ℤ w)) e i8) in
    let i10 = is_plus before on (p *ℤ w) (e *ℤ q) ((e *ℤ m) *ℤ w) i5 i9 in
    let i11 = is_times (whole (sign s.distance)) both (sign s.distance) (p *ℤ w +ℤ e *ℤ q) (pos 1) ((e *ℤ m) *ℤ w) refl i10 in
    let r = percent *ℤ (s.distance *ℤ m -ℤ k *ℤ s.extent) in
    let t = r *ℤ w +ℤ e *ℤ (k *ℤ u.over -ℤ (k *ℤ s.least) *ℤ w) in
    let i12 = is_as moved _ _ _ _ (signed_parts percent s.distance s.extent n m u.over s.least w e) (one_by ((e *ℤ m) *ℤ w)) i11 in
    let i13 = is_plus (whole s.start) moved (s.start *ℤ ((e *ℤ m) *ℤ w)) t ((e *ℤ m) *ℤ w) (is_whole s.start ((e *ℤ m) *ℤ w)) i12 in
    let x : Fraction = plus (whole s.start) moved in
    let i14 = is_times_both x (s.start *ℤ ((e *ℤ m) *ℤ w) +ℤ t) ((e *ℤ m) *ℤ w) (pos 16) i13 in
    is_as x _ _ _ _ (on_even s.start r k u.over (k *ℤ s.least) w m (pos margin) e) (mul_comm_z ((e *ℤ m) *ℤ w) (pos 16)) i14
  where
    by_one : (z : ℤ) → z *ℤ pos 1 ≡ z
    by_one z = omega (arith, ints)

    one_by : (z : ℤ) → pos 1 *ℤ z ≡ z
    one_by z = omega (arith, ints)

    under_is : (m w e : ℤ) → (pos 1 *ℤ (m *ℤ w)) *ℤ e ≡ (e *ℤ m) *ℤ w
    under_is m w e = ap (λ (z : ℤ). z *ℤ e) (one_by (m *ℤ w)) ∙ mul_comm_z (m *ℤ w) e ∙ sym (mul_assoc_z e m w)

pub even_on_line : (size : Fraction) (s : Side) (percent : ℤ) (margin : ℕ) → IsUnit size → s.distance ≢ pos 0 → s.extent ≢ pos 0
    → OnLine (evenly_scaled size s percent) (line_of_even size s percent margin) margin
even_on_line size s percent margin h i j = record {
  above = λ u v. even_above size.under u.under h.under_above v;
  value = even_value size s percent margin;
  slope_not_0 = times_16_not_0 (pos (10 ^ 8) *ℤ unit_along size s)
      (product_not_0 (pos (10 ^ 8)) (unit_along size s) (above_0 (10 ^ 8) (omega arith))
      (product_not_0 (sign s.distance) (sign s.extent *ℤ size.over) (sign_not_0 s.distance i)
      (product_not_0 (sign s.extent) size.over (sign_not_0 s.extent j) h.over_not_0)));
  under_not_0 = product_not_0 (pos (10 ^ 8)) (pos size.under) (above_0 (10 ^ 8) (omega arith)) (above_0 size.under h.under_above);
}
  where
    even_above : (m w : ℕ) → 0 < m → 0 < w → 0 < 1 * (1 * ((10 ^ 8 * (1 * (1 * (m * 1)))) * (1 * (m * (w * (1 * 1))))))
    even_above m w h k = let p = product_above (10 ^ 8 * (1 * (1 * (m * 1)))) (1 * (m * (w * (1 * 1)))) (omega arith) (let q = product_above m (w * (1 * 1)) h (omega arith) in omega arith) in omega arith

-- X(u) on an axis
pub on_line : (n : AxisName) (p : Pair Ends) (s : Scaling) (margin : ℕ) → IsPoints p → IsScaling s → OnLine (axis_units n p s) (axis_line n p s margin) margin
on_line n p Off margin h k = unscaled_on_line margin
on_line n p (Anisotropic r) margin h k =
    let e = on_axis n p in
    let g = on_axis n r in
    stretched_on_line e.first (e.last -ℤ e.first) g.least (g.most -ℤ g.least) margin (both_on_axis IsEnds n p h).apart (both_on_axis IsRange n r k).apart
on_line n p (Isotropic f) margin h k =
    let g = on_axis n f in
    even_on_line (unit_size p f) (side_of (on_axis n p) g.range) g.share margin (unit_in p f h k) (both_on_axis IsEnds n p h).apart (both_on_axis IsFittedRange n f k).range.apart
on_line n p (PointFactor f) margin h k =
    let g = on_axis n f in
    stretched_on_line (on_axis n p).first g.factor g.least (pos (10 ^ 12)) margin (both_on_axis IsFactor n f k).factor_not_0 (above_0 (10 ^ 12) (omega arith))
