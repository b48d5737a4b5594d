use Rattle.std.proofs.Common.{◌≡◌, ℤ, nat_abs, ◌^◌, ◌≤◌, ◌+ℤ◌, ◌-ℤ◌, ◌*ℤ◌, ◌∙◌, ap, ap₂, refl, arith, to_z, of_z, FitsSigned}
use mir.Syntax.{w32, w128}
use Rattle.std.proofs.lemmas.Int.{ints, to_z-of_z}
use Rattle.exact.proofs.Fit.{product_within}
use Rattle.exact.specs.declared.spot.Spot.{Spot}
use Rattle.directions.specs.Directions.{rounded_part, swung}
use Rattle.directions.proofs.direction.Direction.swung_between.Goals as goal

abbrev vector : ℤ → ℤ → Spot
vector x y = record { x = x; y = y }

-- an offset that follows a direction, before it is rounded
record IsKnown (a b c d : ℤ) : Type 0 where
  a_fits : FitsSigned w128 a
  b_fits : FitsSigned w128 b
  c_fits : FitsSigned w128 c
  d_fits : FitsSigned w128 d
  ac : FitsSigned w128 (a *ℤ c)
  bd : FitsSigned w128 (b *ℤ d)
  ad : FitsSigned w128 (a *ℤ d)
  bc : FitsSigned w128 (b *ℤ c)
  x_in : nat_abs (a *ℤ c -ℤ b *ℤ d) ≤ 2 ^ 124
  y_in : nat_abs (a *ℤ d +ℤ b *ℤ c) ≤ 2 ^ 124
  x_fits : FitsSigned w128 (a *ℤ c -ℤ b *ℤ d)
  y_fits : FitsSigned w128 (a *ℤ d +ℤ b *ℤ c)

known : (a b c d : ℤ) → nat_abs a ≤ 2 ^ 93 → nat_abs b ≤ 2 ^ 93 → nat_abs c ≤ 2 ^ 30 → nat_abs d ≤ 2 ^ 30 → IsKnown a b c d
known a b c d p q r s =
    let ac = product_within a c (2 ^ 93) (2 ^ 30) p r in
    let bd = product_within b d (2 ^ 93) (2 ^ 30) q s in
    let ad = product_within a d (2 ^ 93) (2 ^ 30) p s in
    let bc = product_within b c (2 ^ 93) (2 ^ 30) q r in
    record {
      a_fits = omega (arith, ints);
      b_fits = omega (arith, ints);
      c_fits = omega (arith, ints);
      d_fits = omega (arith, ints);
      ac = omega (arith, ints, ac);
      bd = omega (arith, ints, bd);
      ad = omega (arith, ints, ad);
      bc = omega (arith, ints, bc);
      x_in = omega (arith, ints, ac, bd);
      y_in = omega (arith, ints, ad, bc);
      x_fits = omega (arith, ints, ac, bd);
      y_fits = omega (arith, ints, ad, bc);
    }

-- a number as it is read back from its bits
abbrev t : ℤ → ℤ
t z = to_z w128 (of_z w128 z)

-- the two numbers that are rounded, as the code has them
abbrev x_read : ℤ → ℤ → ℤ → ℤ → ℤ
x_read a b c d = t (t a *ℤ t c) -ℤ t (t b *ℤ t d)

abbrev y_read : ℤ → ℤ → ℤ → ℤ → ℤ
y_read a b c d = t (t a *ℤ t d) +ℤ t (t b *ℤ t c)

-- they are as they are without bits
record IsRead (a b c d : ℤ) : Type 0 where
  ad : t a *ℤ t d ≡ a *ℤ d
  bc : t b *ℤ t c ≡ b *ℤ c
  x : x_read a b c d ≡ a *ℤ c -ℤ b *ℤ d
  y : y_read a b c d ≡ a *ℤ d +ℤ b *ℤ c
  x_back : t (x_read a b c d) ≡ a *ℤ c -ℤ b *ℤ d
  y_back : t (y_read a b c d) ≡ a *ℤ d +ℤ b *ℤ c

read : (a b c d : ℤ) → IsKnown a b c d → IsRead a b c d
read a b c d k =
    let fa = k.a_fits in
    let fb = k.b_fits in
    let fc = k.c_fits in
    let fd = k.d_fits in
    let ac = k.ac in
    let bd = k.bd in
    let ad = k.ad in
    let bc = k.bc in
    let fx = k.x_fits in
    let fy = k.y_fits in
    record {
      ad = simp to_z-of_z refl;
      bc = simp to_z-of_z refl;
      x = simp to_z-of_z refl;
      y = simp to_z-of_z refl;
      x_back = simp to_z-of_z refl;
      y_back = simp to_z-of_z refl;
    }

-- a coordinate of the direction, read back
near : (r i : ℤ) → nat_abs i ≤ 2 ^ 30 → r ≡ to_z w32 (of_z w32 i) → (r ≡ i) × (nat_abs r ≤ 2 ^ 30)
near r i h e =
    let f : FitsSigned w32 i = omega (arith, ints) in
    let q : r ≡ i = e ∙ to_z-of_z w32 i f in
    (q, rw q h)

-- an offset (a, b) and a direction (c, d), whose coordinates are i and j inside
record AreNumbers (a b c d i j : ℤ) : Type 0 where
  x_is : c ≡ i
  y_is : d ≡ j
  known : IsKnown a b c d
  read : IsRead a b c d

numbers : (a b c d i j : ℤ) → nat_abs a ≤ 2 ^ 93 → nat_abs b ≤ 2 ^ 93 → nat_abs i ≤ 2 ^ 30 → nat_abs j ≤ 2 ^ 30 → c ≡ to_z w32 (of_z w32 i) → d ≡ to_z w32 (of_z w32 j) → AreNumbers a b c d i j
numbers a b c d i j p q r s e f =
    let x = near c i r e in
    let y = near d j s f in
    let k = known a b c d p q x.1 y.1 in
    record { x_is = x.0; y_is = y.0; known = k; read = read a b c d k }

pub overflow_sub-offset : goal.overflow_sub-offset
overflow_sub-offset c =
    let n = numbers c.args.offset.x c.args.offset.y c.from-x.result c.from-y.result c.self.inside.x c.self.inside.y c.requires.x_in c.requires.y_in c.self.invariant.x_in c.self.invariant.y_in c.from-x.ensures c.from-y.ensures in
    rw n.read.x n.known.x_fits

pub rounded_part-requires : goal.rounded_part-requires
rounded_part-requires c =
    let n = numbers c.args.offset.x c.args.offset.y c.from-x.result c.from-y.result c.self.inside.x c.self.inside.y c.requires.x_in c.requires.y_in c.self.invariant.x_in c.self.invariant.y_in c.from-x.ensures c.from-y.ensures in
    rw n.read.x_back n.known.x_in

pub overflow_mul-offset-3 : goal.overflow_mul-offset-3
overflow_mul-offset-3 c =
    let n = numbers c.args.offset.x c.args.offset.y c.from-x.result c.from-y.result c.self.inside.x c.self.inside.y c.requires.x_in c.requires.y_in c.self.invariant.x_in c.self.invariant.y_in c.from-x.ensures c.from-y.ensures in
    rw n.read.ad n.known.ad

pub overflow_mul-offset-4 : goal.overflow_mul-offset-4
overflow_mul-offset-4 c =
    let n = numbers c.args.offset.x c.args.offset.y c.from-x.result c.from-y.result c.self.inside.x c.self.inside.y c.requires.x_in c.requires.y_in c.self.invariant.x_in c.self.invariant.y_in c.from-x.ensures c.from-y.ensures in
    rw n.read.bc n.known.bc

pub overflow_add-offset : goal.overflow_add-offset
overflow_add-offset c =
    let n = numbers c.args.offset.x c.args.offset.y c.from-x.result c.from-y.result c.self.inside.x c.self.inside.y c.requires.x_in c.requires.y_in c.self.invariant.x_in c.self.invariant.y_in c.from-x.ensures c.from-y.ensures in
    rw n.read.y n.known.y_fits

pub rounded_part-requires-2 : goal.rounded_part-requires-2
rounded_part-requires-2 c =
    let n = numbers c.args.offset.x c.args.offset.y c.from-x.result c.from-y.result c.self.inside.x c.self.inside.y c.requires.x_in c.requires.y_in c.self.invariant.x_in c.self.invariant.y_in c.from-x.ensures c.from-y.ensures in
    rw n.read.y_back n.known.y_in

pub returns-clause-value : goal.returns-clause-value
returns-clause-value c =
    let n = numbers c.args.offset.x c.args.offset.y c.from-x.result c.from-y.result c.self.inside.x c.self.inside.y c.requires.x_in c.requires.y_in c.self.invariant.x_in c.self.invariant.y_in c.from-x.ensures c.from-y.ensures in
    let o = c.args.offset in
    let px = c.rounded_part.ensures.most in
    let py = c.rounded_part-2.ensures.most in
    let f : FitsSigned w128 c.rounded_part.result = omega (arith, ints) in
    let g : FitsSigned w128 c.rounded_part-2.result = omega (arith, ints) in
    ap₂ vector
    (to_z-of_z w128 c.rounded_part.result f ∙ c.rounded_part.ensures.value ∙ ap rounded_part n.read.x_back
    ∙ ap₂ (λ (p q : ℤ). rounded_part (o.x *ℤ p -ℤ o.y *ℤ q)) n.x_is n.y_is)
    (to_z-of_z w128 c.rounded_part-2.result g ∙ c.rounded_part-2.ensures.value ∙ ap rounded_part n.read.y_back
    ∙ ap₂ (λ (p q : ℤ). rounded_part (o.x *ℤ q +ℤ o.y *ℤ p)) n.x_is n.y_is)
    ∙ ap (λ (d : Spot). swung d o) c.self.view_is
