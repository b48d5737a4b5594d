use Rattle.std.proofs.Common.{◌≡◌, ◌^◌, ◌≤◌, ◌<◌, ap₂, sym, subst, refl, ◌∙◌, arith, ℤ, pos, nat_abs, ◌*ℤ◌}
use Rattle.directions.specs.Bounds.{IsWithin}
use Rattle.directions.specs.Directions.{square_of}
use Rattle.exact.proofs.Fit.{back_128}
use Rattle.exact.specs.declared.spot.Spot.{Spot}
use Rattle.curves.specs.Arcs.{centre_of}
use Rattle.curves.specs.Bounds.{IsNotZero}
use Rattle.curves.specs.Vectors.{cross}
use Rattle.curves.proofs.Products.{IsMultiple, multiple, t}
use Rattle.curves.proofs.VectorLemmas.{cross_within, square_within}
use Rattle.curves.proofs.Centres.{centre_above}
use Rattle.curves.proofs.centre.centre.Goals as goal
use Rattle.curves.proofs.centre.centre.Goals.{After-part-2}

-- the numbers that the centre is computed from
record IsKnown (b c : Spot) (x k l : ℤ) : Type 0 where
  twice : IsMultiple 2 x
  size : nat_abs x ≤ 2 ^ 57
  twice_is : t (pos 2 *ℤ t x) ≡ pos 2 *ℤ cross b c
  first_size : nat_abs k ≤ 2 ^ 57
  second_size : nat_abs l ≤ 2 ^ 57
  first : t k ≡ pos (square_of b)
  second : t l ≡ pos (square_of c)

known : (b c : Spot) (x k l : ℤ) → IsWithin (2 ^ 28) b → IsWithin (2 ^ 28) c → x ≡ cross b c → k ≡ pos (square_of b) → l ≡ pos (square_of c) → IsKnown b c x k l
known b c x k l p q e f g =
    let s : nat_abs x ≤ 2 ^ 57 = rw e (cross_within b c (2 ^ 28) (2 ^ 28) p q) in
    let m = multiple 2 (2 ^ 57) x (omega arith) s (omega arith) in
    let i : square_of b ≤ 2 ^ 57 = square_within b (2 ^ 28) p in
    let j : square_of c ≤ 2 ^ 57 = square_within c (2 ^ 28) q in
    let n : nat_abs k ≤ 2 ^ 57 = rw f i in
    let o : nat_abs l ≤ 2 ^ 57 = rw g j in
    record {
      twice = m;
      size = s;
      twice_is = m.back ∙ rw e refl;
      first_size = n;
      second_size = o;
      first = back_128 k (omega (arith, n)) ∙ f;
      second = back_128 l (omega (arith, o)) ∙ g;
    }

pub overflow_mul-twice : goal.overflow_mul-twice
overflow_mul-twice c =
    let s : nat_abs c.cross-twice.result ≤ 2 ^ 57 = rw c.cross-twice.ensures (cross_within c.args.b c.args.c (2 ^ 28) (2 ^ 28) c.requires.b_in c.requires.c_in) in
    let m = multiple 2 (2 ^ 57) c.cross-twice.result (omega arith) s (omega arith) in
    m.fits

pub part-requires-clause-twice_in : goal.part-requires-clause-twice_in
part-requires-clause-twice_in c =
    let k = known c.args.b c.args.c c.cross-twice.result c.square-bb.result c.square-cc.result c.requires.b_in c.requires.c_in c.cross-twice.ensures c.square-bb.ensures c.square-cc.ensures in
    rw k.twice.back (omega (arith, k.twice.size, k.size))

pub part-requires-clause-not_zero : goal.part-requires-clause-not_zero
part-requires-clause-not_zero c =
    let k = known c.args.b c.args.c c.cross-twice.result c.square-bb.result c.square-cc.result c.requires.b_in c.requires.c_in c.cross-twice.ensures c.square-bb.ensures c.square-cc.ensures in
    let a : 0 < nat_abs c.cross-twice.result = rw c.cross-twice.ensures c.requires.apart in
    rw k.twice.back (omega (arith, k.twice.size, a))

pub part-requires-2-clause-bb_in : goal.part-requires-2-clause-bb_in
part-requires-2-clause-bb_in c =
    let k = known c.args.b c.args.c c.cross-twice.result c.square-bb.result c.square-cc.result c.requires.b_in c.requires.c_in c.cross-twice.ensures c.square-bb.ensures c.square-cc.ensures in
    rw (back_128 c.square-cc.result (omega (arith, k.second_size))) k.second_size

pub part-requires-2-clause-cc_in : goal.part-requires-2-clause-cc_in
part-requires-2-clause-cc_in c =
    let k = known c.args.b c.args.c c.cross-twice.result c.square-bb.result c.square-cc.result c.requires.b_in c.requires.c_in c.cross-twice.ensures c.square-bb.ensures c.square-cc.ensures in
    rw (back_128 c.square-bb.result (omega (arith, k.first_size))) k.first_size

pub part-requires-2-clause-twice_in : goal.part-requires-2-clause-twice_in
part-requires-2-clause-twice_in c =
    let k = known c.args.b c.args.c c.cross-twice.result c.square-bb.result c.square-cc.result c.requires.b_in c.requires.c_in c.cross-twice.ensures c.square-bb.ensures c.square-cc.ensures in
    rw k.twice.back (omega (arith, k.twice.size, k.size))

pub part-requires-2-clause-not_zero : goal.part-requires-2-clause-not_zero
part-requires-2-clause-not_zero c =
    let k = known c.args.b c.args.c c.cross-twice.result c.square-bb.result c.square-cc.result c.requires.b_in c.requires.c_in c.cross-twice.ensures c.square-bb.ensures c.square-cc.ensures in
    let a : 0 < nat_abs c.cross-twice.result = rw c.cross-twice.ensures c.requires.apart in
    rw k.twice.back (omega (arith, k.twice.size, a))

abbrev vector : ℤ → ℤ → Spot
vector x y = record { x = x; y = y }

-- what the two coordinates are
is_centre : (c : After-part-2) → vector (t c.part.result) (t c.part-2.result) ≡ centre_of c.args.b c.args.c
is_centre c =
    let b = c.args.b in
    let d = c.args.c in
    let h = c.requires.b_in in
    let i = c.requires.c_in in
    let k = known b d c.cross-twice.result c.square-bb.result c.square-cc.result h i c.cross-twice.ensures c.square-bb.ensures c.square-cc.ensures in
    let bx = back_128 b.x (omega (arith, h.x_in)) in
    let by = back_128 b.y (omega (arith, h.y_in)) in
    let dx = back_128 d.x (omega (arith, i.x_in)) in
    let dy = back_128 d.y (omega (arith, i.y_in)) in
    let x = rw (k.first, k.second, k.twice_is, by, dy) at c.part.ensures.value in
    let y = rw (k.first, k.second, k.twice_is, bx, dx) at c.part-2.ensures.value in
    ap₂ vector
    (back_128 c.part.result (omega (arith, c.part.ensures.most)) ∙ x)
    (back_128 c.part-2.result (omega (arith, c.part-2.ensures.most)) ∙ y)

pub returns-clause-value : goal.returns-clause-value
returns-clause-value c = is_centre c

pub returns-clause-not_zero : goal.returns-clause-not_zero
returns-clause-not_zero c =
    let P : Spot → Type 0 = IsNotZero in
    subst P (sym (is_centre c)) (centre_above c.args.b c.args.c c.requires.apart)
