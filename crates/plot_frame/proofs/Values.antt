-- Fractions by their value: Is f n d says that f is n / d, where d may be of either sign.
use Rattle.std.proofs.Common.{◌≡◌, ◌≢◌, ◌<◌, ℕ, zero, suc, ◌*◌, refl, sym, ap, ap₂, ◌∙◌, arith, ℤ, pos, negsuc, ◌+ℤ◌, ◌-ℤ◌, ◌*ℤ◌, neg_ℤ}
use Rattle.std.proofs.lemmas.Int.{ints}
use Rattle.exact.proofs.Ring.{mul_assoc_z, mul_comm_z, mul_left_comm_z, mul_mul_comm_z, add-mul_z, mul-neg_z, neg-mul_z}
use Rattle.exact.proofs.Rounding.{same_lem, le_unscale}
use Rattle.exact.specs.Fraction.{Fraction, whole, quotient, plus, times, round}
use Rattle.exact.specs.Rounding.{SameNumber}
use Rattle.plot_frame.specs.Frame.{minus, divided}

abbrev pub Is : Fraction → ℤ → ℤ → Type 0
Is f n d = f.over *ℤ d ≡ n *ℤ pos f.under

pub is_whole : (z d : ℤ) → Is (whole z) (z *ℤ d) d
is_whole z d = omega (arith, ints)

pub is_quotient : (a b : ℤ) → Is (quotient a b) a b
is_quotient a (pos b) = refl
is_quotient a (negsuc b) = neg-mul_z a (negsuc b) ∙ sym (mul-neg_z a (negsuc b))

-- a common factor
pub is_times_both : (f : Fraction) (n d k : ℤ) → Is f n d → Is f (n *ℤ k) (d *ℤ k)
is_times_both f n d k h =
    let a = mul_assoc_z f.over d k in
    let b = mul_assoc_z n (pos f.under) k in
    let c = mul_assoc_z n k (pos f.under) in
    let e = ap (λ (z : ℤ). n *ℤ z) (mul_comm_z k (pos f.under)) in
    sym a ∙ ap (λ (z : ℤ). z *ℤ k) h ∙ b ∙ sym e ∙ sym c

pub is_plus : (f g : Fraction) (n m d : ℤ) → Is f n d → Is g m d → Is (plus f g) (n +ℤ m) d
is_plus f g n m d h k =
    let p = pos f.under in
    let q = pos g.under in
    let a = add-mul_z (f.over *ℤ q) (g.over *ℤ p) d in
    let b : (f.over *ℤ q) *ℤ d ≡ n *ℤ (p *ℤ q) = mul_assoc_z f.over q d ∙ ap (λ (z : ℤ). f.over *ℤ z) (mul_comm_z q d) ∙ sym (mul_assoc_z f.over d q) ∙ ap (λ (z : ℤ). z *ℤ q) h ∙ mul_assoc_z n p q in
    let c : (g.over *ℤ p) *ℤ d ≡ m *ℤ (p *ℤ q) = mul_assoc_z g.over p d ∙ ap (λ (z : ℤ). g.over *ℤ z) (mul_comm_z p d) ∙ sym (mul_assoc_z g.over d p) ∙ ap (λ (z : ℤ). z *ℤ p) k ∙ mul_assoc_z m q p ∙ ap (λ (z : ℤ). m *ℤ z) (mul_comm_z q p) in
    a ∙ ap₂ (λ (x y : ℤ). x +ℤ y) b c ∙ sym (add-mul_z n m (p *ℤ q))

pub is_times : (f g : Fraction) (n m d e : ℤ) → Is f n d → Is g m e → Is (times f g) (n *ℤ m) (d *ℤ e)
is_times f g n m d e h k =
    mul_mul_comm_z f.over g.over d e
    ∙ ap₂ (λ (x y : ℤ). x *ℤ y) h k
    ∙ mul_mul_comm_z n (pos f.under) m (pos g.under)

pub is_minus : (f g : Fraction) (n m d : ℤ) → Is f n d → Is g m d → Is (minus f g) (n -ℤ m) d
is_minus f g n m d h k =
    let o : Is (whole (negsuc 0)) (negsuc 0) (pos 1) = refl in
    let t = is_times (whole (negsuc 0)) g (negsuc 0) m (pos 1) d o k in
    let a : negsuc 0 *ℤ m ≡ neg_ℤ m = omega (arith, ints) in
    let b : pos 1 *ℤ d ≡ d = omega (arith, ints) in
    is_plus f (times (whole (negsuc 0)) g) n (neg_ℤ m) d h (rw (a, b) at t)

-- the parts by other names
pub is_as : (f : Fraction) (n d m e : ℤ) → n ≡ m → d ≡ e → Is f n d → Is f m e
is_as f n d m e p q h = ap (λ (z : ℤ). f.over *ℤ z) (sym q) ∙ h ∙ ap (λ (z : ℤ). z *ℤ pos f.under) p

-- a factor that is not 0 is taken off an equation
pub taken_off : (k a b : ℤ) → k ≢ pos 0 → k *ℤ a ≡ k *ℤ b → a ≡ b
taken_off (pos zero) a b h e = absurd (h refl)
taken_off (pos (suc k)) a b h e =
    let l = le_unscale (suc k) a b (omega arith) (omega (arith, ints)) in
    let m = le_unscale (suc k) b a (omega arith) (omega (arith, ints)) in
    omega (arith, ints)
taken_off (negsuc k) a b h e =
    let p = neg-mul_z (pos (suc k)) a in
    let q = neg-mul_z (pos (suc k)) b in
    let l = le_unscale (suc k) a b (omega arith) (omega (arith, ints)) in
    let m = le_unscale (suc k) b a (omega arith) (omega (arith, ints)) in
    omega (arith, ints)

-- one value has one pair of parts, up to a factor
pub is_one : (f : Fraction) (n m d e : ℤ) → 0 < f.under → Is f n d → Is f m e → n *ℤ e ≡ m *ℤ d
is_one f n m d e u h k =
    let p = pos f.under in
    let not_0 : p ≢ pos 0 = λ (z : p ≡ pos 0). absurd (omega (arith, ints)) in
    let a : p *ℤ (n *ℤ e) ≡ (f.over *ℤ d) *ℤ e = sym (mul_assoc_z p n e) ∙ ap (λ (z : ℤ). z *ℤ e) (mul_comm_z p n ∙ sym h) in
    let b : p *ℤ (m *ℤ d) ≡ (f.over *ℤ e) *ℤ d = sym (mul_assoc_z p m d) ∙ ap (λ (z : ℤ). z *ℤ d) (mul_comm_z p m ∙ sym k) in
    let c : (f.over *ℤ d) *ℤ e ≡ (f.over *ℤ e) *ℤ d = mul_assoc_z f.over d e ∙ ap (λ (z : ℤ). f.over *ℤ z) (mul_comm_z d e) ∙ sym (mul_assoc_z f.over e d) in
    taken_off p (n *ℤ e) (m *ℤ d) not_0 (a ∙ c ∙ sym b)

-- a common factor is taken off
pub is_off : (f : Fraction) (n d k : ℤ) → k ≢ pos 0 → Is f (k *ℤ n) (k *ℤ d) → Is f n d
is_off f n d k z h = taken_off k (f.over *ℤ d) (n *ℤ pos f.under) z (mul_left_comm_z k f.over d ∙ h ∙ mul_assoc_z k n (pos f.under))

-- two fractions of one value
pub same_value : (f g : Fraction) (n d : ℤ) → d ≢ pos 0 → Is f n d → Is g n d → SameNumber f g
same_value f g n d z h k =
    let p = pos f.under in
    let q = pos g.under in
    let a : d *ℤ (f.over *ℤ q) ≡ (n *ℤ p) *ℤ q = sym (mul_assoc_z d f.over q) ∙ ap (λ (z : ℤ). z *ℤ q) (mul_comm_z d f.over ∙ h) in
    let b : d *ℤ (g.over *ℤ p) ≡ (n *ℤ q) *ℤ p = sym (mul_assoc_z d g.over p) ∙ ap (λ (z : ℤ). z *ℤ p) (mul_comm_z d g.over ∙ k) in
    let c : (n *ℤ p) *ℤ q ≡ (n *ℤ q) *ℤ p = mul_assoc_z n p q ∙ ap (λ (z : ℤ). n *ℤ z) (mul_comm_z p q) ∙ sym (mul_assoc_z n q p) in
    taken_off d (f.over *ℤ q) (g.over *ℤ p) z (a ∙ c ∙ sym b)

pub quotient_above : (a b : ℤ) → b ≢ pos 0 → 0 < (quotient a b).under
quotient_above a (pos zero) h = absurd (h refl)
quotient_above a (pos (suc n)) h = omega arith
quotient_above a (negsuc n) h = omega arith

-- a value is rounded as its parts are
pub round_is : (f : Fraction) (n d : ℤ) → 0 < f.under → d ≢ pos 0 → Is f n d → round f ≡ round (quotient n d)
round_is f n d u z h = same_lem f (quotient n d) u (quotient_above n d z) (same_value f (quotient n d) n d z h (is_quotient n d))

pub above_0 : (n : ℕ) → 0 < n → pos n ≢ pos 0
above_0 n h = λ (z : pos n ≡ pos 0). absurd (omega (arith, ints))

pub product_not_0 : (a b : ℤ) → a ≢ pos 0 → b ≢ pos 0 → (a *ℤ b) ≢ pos 0
product_not_0 a b h k = λ (z : (a *ℤ b) ≡ pos 0). k (taken_off a b (pos 0) h (z ∙ zero_is a))
  where
    zero_is : (a : ℤ) → pos 0 ≡ a *ℤ pos 0
    zero_is a = omega (arith, ints)

pub product_above : (m n : ℕ) → 0 < m → 0 < n → 0 < m * n
product_above (suc m) (suc n) h k = omega arith
product_above zero n h k = absurd (omega arith)
product_above (suc m) zero h k = absurd (omega arith)

-- a value that is not 0 has a numerator that is not 0
pub over_not_0 : (g : Fraction) (m d : ℤ) → 0 < g.under → m ≢ pos 0 → Is g m d → g.over ≢ pos 0
over_not_0 g m d u z h = λ (e : g.over ≡ pos 0). product_not_0 m (pos g.under) z (above_0 g.under u) (sym h ∙ ap (λ (x : ℤ). x *ℤ d) e ∙ nothing d)
  where
    nothing : (d : ℤ) → pos 0 *ℤ d ≡ pos 0
    nothing d = omega (arith, ints)

pub is_divided : (f g : Fraction) (n m d : ℤ) → 0 < f.under → 0 < g.under → Is f n d → Is g m d → Is (divided f g) n m
is_divided f g n m d u v h k =
    let p = pos f.under in
    let q = pos g.under in
    let r = is_times_both (divided f g) (f.over *ℤ q) (p *ℤ g.over) d (is_quotient (f.over *ℤ q) (p *ℤ g.over)) in
    let a : (f.over *ℤ q) *ℤ d ≡ (p *ℤ q) *ℤ n = mul_assoc_z f.over q d ∙ mul_left_comm_z f.over q d ∙ ap (λ (z : ℤ). q *ℤ z) (h ∙ mul_comm_z n p) ∙ sym (mul_assoc_z q p n) ∙ ap (λ (z : ℤ). z *ℤ n) (mul_comm_z q p) in
    let b : (p *ℤ g.over) *ℤ d ≡ (p *ℤ q) *ℤ m = mul_assoc_z p g.over d ∙ ap (λ (z : ℤ). p *ℤ z) (k ∙ mul_comm_z m q) ∙ sym (mul_assoc_z p q m) in
    is_off (divided f g) n m (p *ℤ q) (product_not_0 p q (above_0 f.under u) (above_0 g.under v)) (is_as (divided f g) _ _ _ _ a b r)

pub divided_above : (f g : Fraction) (m d : ℤ) → 0 < f.under → 0 < g.under → m ≢ pos 0 → Is g m d → 0 < (divided f g).under
divided_above f g m d u v z k = quotient_above (f.over *ℤ pos g.under) (pos f.under *ℤ g.over) (product_not_0 (pos f.under) g.over (above_0 f.under u) (over_not_0 g m d v z k))
