-- Heights and ranks, as code computes them in 64 bits.
use Rattle.std.proofs.Common.{◌≡◌, refl, ℕ, ◌*◌, ◌^◌, ◌<◌, ◌≤◌, arith, ℤ, pos, ◌+ℤ◌, ◌-ℤ◌, ◌*ℤ◌, nat_abs, to_z, of_z, FitsSigned}
use mir.Syntax.{w64}
use Rattle.std.proofs.lemmas.Int.{to_z-of_z, fits_signed_from_abs}
use Rattle.exact.proofs.Fit.{sum_within, difference_within, product_within}
use Rattle.exact.specs.declared.spot.Spot.{Spot}
use Rattle.plot_arc.specs.Arcs.{sine_of, cosine_of}
use Rattle.polygons.specs.declared.lines.Lines.{Lines}
use Rattle.polygons.specs.Fills.{height, rank}

-- a number as it is read back from its bits
abbrev pub t : ℤ → ℤ
t z = to_z w64 (of_z w64 z)

pub fits : (z : ℤ) (m : ℕ) → nat_abs z ≤ m → m < 2 ^ 63 → FitsSigned w64 z
fits z m h k = fits_signed_from_abs w64 z (omega arith)

height_is : (lines : Lines) (p : Spot) (c s y anchor_y x anchor_x up across : ℤ) → c ≡ cosine_of lines.angle → s ≡ sine_of lines.angle
    → y ≡ p.y → anchor_y ≡ lines.anchor.y → x ≡ p.x → anchor_x ≡ lines.anchor.x → up ≡ c *ℤ (y -ℤ anchor_y) → across ≡ s *ℤ (x -ℤ anchor_x)
    → pos 256 *ℤ (up -ℤ across) ≡ height lines p
height_is lines p c s y anchor_y x anchor_x up across a b d e f g h i = rw (h, i, a, b, d, e, f, g) refl

pub height_within : (up across : ℤ) → nat_abs up ≤ 10 ^ 7 * 2 ^ 28 → nat_abs across ≤ 10 ^ 7 * 2 ^ 28 → nat_abs (pos 256 *ℤ (up -ℤ across)) ≤ 10 ^ 7 * 2 ^ 37
height_within up across h k =
    product_within (pos 256) (up -ℤ across) 256 (10 ^ 7 * 2 ^ 29) (omega arith) (omega (arith, difference_within up across (10 ^ 7 * 2 ^ 28) (10 ^ 7 * 2 ^ 28) h k))

pub height_back : (up across : ℤ) → nat_abs up ≤ 10 ^ 7 * 2 ^ 28 → nat_abs across ≤ 10 ^ 7 * 2 ^ 28
    → t (pos 256 *ℤ t (t up -ℤ t across)) ≡ pos 256 *ℤ (up -ℤ across)
height_back up across h k =
    let fu : FitsSigned w64 up = fits up (10 ^ 7 * 2 ^ 28) h (omega arith) in
    let fa : FitsSigned w64 across = fits across (10 ^ 7 * 2 ^ 28) k (omega arith) in
    let fd : FitsSigned w64 (up -ℤ across) = fits (up -ℤ across) (10 ^ 7 * 2 ^ 29) (omega (arith, difference_within up across (10 ^ 7 * 2 ^ 28) (10 ^ 7 * 2 ^ 28) h k)) (omega arith) in
    let fr : FitsSigned w64 (pos 256 *ℤ (up -ℤ across)) = fits (pos 256 *ℤ (up -ℤ across)) (10 ^ 7 * 2 ^ 37) (height_within up across h k) (omega arith) in
    simp to_z-of_z

-- a sine times the difference of two coordinates
read_product : (c y q up : ℤ) → nat_abs c ≤ 10 ^ 7 → nat_abs y ≤ 2 ^ 27 → nat_abs q ≤ 2 ^ 27 → up ≡ t c *ℤ t (t y -ℤ t q) → up ≡ c *ℤ (y -ℤ q)
read_product c y q up a b d e =
    let fc : FitsSigned w64 c = fits c (10 ^ 7) a (omega arith) in
    let fy : FitsSigned w64 y = fits y (2 ^ 27) b (omega arith) in
    let fq : FitsSigned w64 q = fits q (2 ^ 27) d (omega arith) in
    let fd : FitsSigned w64 (y -ℤ q) = fits (y -ℤ q) (2 ^ 28) (omega (arith, difference_within y q (2 ^ 27) (2 ^ 27) b d)) (omega arith) in
    simp to_z-of_z at e

pub height_read : (lines : Lines) (p : Spot) (c s y q x r up across : ℤ) → nat_abs c ≤ 10 ^ 7 → nat_abs s ≤ 10 ^ 7
    → nat_abs y ≤ 2 ^ 27 → nat_abs q ≤ 2 ^ 27 → nat_abs x ≤ 2 ^ 27 → nat_abs r ≤ 2 ^ 27
    → nat_abs up ≤ 10 ^ 7 * 2 ^ 28 → nat_abs across ≤ 10 ^ 7 * 2 ^ 28
    → c ≡ cosine_of lines.angle → s ≡ sine_of lines.angle → y ≡ p.y → q ≡ lines.anchor.y → x ≡ p.x → r ≡ lines.anchor.x
    → up ≡ t c *ℤ t (t y -ℤ t q) → across ≡ t s *ℤ t (t x -ℤ t r) → t (pos 256 *ℤ t (t up -ℤ t across)) ≡ height lines p
height_read lines p c s y q x r up across hc hs hy hq hx hr hu ha ec es ey eq ex er eu ea =
    rw (height_back up across hu ha)
    (height_is lines p c s y q x r up across ec es ey eq ex er (read_product c y q up hc hy hq eu) (read_product s x r across hs hx hr ea))

rank_is : (lines : Lines) (p : Spot) (c s x y along across : ℤ) → c ≡ cosine_of lines.angle → s ≡ sine_of lines.angle → x ≡ p.x → y ≡ p.y
    → along ≡ c *ℤ x → across ≡ s *ℤ y → along +ℤ across ≡ rank lines p
rank_is lines p c s x y along across a b d e f g = rw (f, g, a, b, d, e) refl

read_scaled : (c x r : ℤ) → nat_abs c ≤ 10 ^ 7 → nat_abs x ≤ 2 ^ 27 → r ≡ t c *ℤ t x → r ≡ c *ℤ x
read_scaled c x r a b e =
    let fc : FitsSigned w64 c = fits c (10 ^ 7) a (omega arith) in
    let fx : FitsSigned w64 x = fits x (2 ^ 27) b (omega arith) in
    simp to_z-of_z at e

pub rank_read : (lines : Lines) (p : Spot) (c s x y along across : ℤ) → nat_abs c ≤ 10 ^ 7 → nat_abs s ≤ 10 ^ 7 → nat_abs x ≤ 2 ^ 27 → nat_abs y ≤ 2 ^ 27
    → nat_abs along ≤ 10 ^ 7 * 2 ^ 28 → nat_abs across ≤ 10 ^ 7 * 2 ^ 28 → c ≡ cosine_of lines.angle → s ≡ sine_of lines.angle → x ≡ p.x → y ≡ p.y
    → along ≡ t c *ℤ t x → across ≡ t s *ℤ t y → t (t along +ℤ t across) ≡ rank lines p
rank_read lines p c s x y along across hc hs hx hy hl ha ec es ex ey el ea =
    let fl : FitsSigned w64 along = fits along (10 ^ 7 * 2 ^ 28) hl (omega arith) in
    let fa : FitsSigned w64 across = fits across (10 ^ 7 * 2 ^ 28) ha (omega arith) in
    let fs : FitsSigned w64 (along +ℤ across) = fits (along +ℤ across) (10 ^ 7 * 2 ^ 29) (omega (arith, sum_within along across (10 ^ 7 * 2 ^ 28) (10 ^ 7 * 2 ^ 28) hl ha)) (omega arith) in
    simp to_z-of_z (rank_is lines p c s x y along across ec es ex ey (read_scaled c x along hc hx el) (read_scaled s y across hs hy ea))
