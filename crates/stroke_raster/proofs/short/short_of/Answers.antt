use Rattle.std.proofs.Common.{rules, ◌≡◌, ◌-◌, ◌*◌, ◌≤◌, ◌^◌, ◌∙◌, refl, ap, ap₂, nat_abs, pos, ◌*ℤ◌, FitsSigned, ℕ, ℤ, arith}
use mir.Syntax.{w64}
use Rattle.std.proofs.lemmas.Int.{ints, to_z-of_z}
use Rattle.std.proofs.lemmas.Nat.{mul-le}
use Rattle.exact.proofs.Fit.{product_within}
use Rattle.stroke_raster.specs.declared.vector.Vector.{Vector}
use Rattle.stroke_raster.specs.Bounds.{Within}
use Rattle.stroke_raster.specs.Covers.{first_end, last_end}
use Rattle.stroke_raster.specs.Gap.{dot, scaled, way}
use Rattle.stroke_raster.specs.ShortNumbers.{sides}
use Rattle.stroke_raster.proofs.GapLemmas.{size, size_is}
use Rattle.stroke_raster.proofs.ShortLemmas.{along_small, size_small}
use Rattle.stroke_raster.proofs.short.short_of.Goals as goal

-- the course, which is short
course : (c : goal.After-saturating_sub) → c.way_between-course.result ≡ way (first_end c.args.stroke.now) (last_end c.args.stroke.now)
course c = c.way_between-course.ensures ∙ ap₂ way c.first_end_of.ensures.value c.last_end_of.ensures.value

-- its sides
short : (c : goal.After-saturating_sub) → (sides c.way_between-course.result ≤ 2048) × (c.args.dots.resolution * sides c.way_between-course.result ≤ 262144)
short c = (rw (course c) c.requires.course, rw (course c) c.requires.pixels)

-- its squared length
squared : (c : goal.After-saturating_sub) → nat_abs c.squared_length-squared.result ≤ 4194304
squared c =
    let s = size_small c.way_between-course.result (short c).0 in
    rw (c.squared_length-squared.ensures.value ∙ size_is c.way_between-course.result) s

-- the width
width : (c : goal.After-saturating_sub) → c.drawn_width_of-width.result ≤ 262144
width c = rw c.drawn_width_of-width.ensures.value c.requires.width

-- the dot product of the course with the way to its end, doubled, less 1
past : (c : goal.After-saturating_sub) → c.saturating_sub.result ≡ 2 * (c.args.dots.resolution * nat_abs (dot c.way_between-course.result c.way_between-course.result)) - 1
past c =
    let v = c.way_between-course.result in
    let f : FitsSigned w64 c.squared_length-squared.result = search rules in
    let n : c.unsigned_abs.result ≡ nat_abs (dot v v) = (simp to_z-of_z at c.unsigned_abs.ensures.value) ∙ ap nat_abs c.squared_length-squared.ensures.value in
    let e : c.saturating_sub.result ≡ 2 * c.args.dots.resolution * nat_abs (dot v v) - 1 = rw (c.from-3.ensures, n) at c.saturating_sub.ensures in
    omega (arith, e)

-- the way to its last end
scaled_within : (r : ℕ) (v : Vector) → r ≤ 1200 → nat_abs v.x ≤ 2097152 → nat_abs v.y ≤ 2097152 → Within (2 ^ 32) (scaled (pos r) v)
scaled_within r v most x y =
    let p = product_within (pos r) v.x 1200 2097152 most x in
    let q = product_within (pos r) v.y 1200 2097152 most y in
    record { x = omega (arith, p); y = omega (arith, q) }

pub doubled-requires : goal.doubled-requires
doubled-requires c =
    let v = c.way_between-course.result in
    let is : v ≡ way (first_end c.args.stroke.now) (last_end c.args.stroke.now) = c.way_between-course.ensures ∙ ap₂ way c.first_end_of.ensures.value c.last_end_of.ensures.value in
    let s : sides v ≤ 2048 = rw is c.requires.course in
    rw c.times.ensures (scaled_within c.args.dots.resolution v c.args.dots.at_most (omega (arith, s)) (omega (arith, s)))

pub overflow_mul-along-2 : goal.overflow_mul-along-2
overflow_mul-along-2 c =
    let v = c.way_between-course.result in
    let f : FitsSigned w64 c.squared_length-squared.result = search rules in
    let is : v ≡ way (first_end c.args.stroke.now) (last_end c.args.stroke.now) = c.way_between-course.ensures ∙ ap₂ way c.first_end_of.ensures.value c.last_end_of.ensures.value in
    let s : sides v ≤ 2048 = rw is c.requires.course in
    let z : nat_abs c.squared_length-squared.result ≤ 4194304 = rw (c.squared_length-squared.ensures.value ∙ size_is v) (size_small v s) in
    let n = simp to_z-of_z at c.unsigned_abs.ensures.value in
    let m = mul-le c.from-3.result c.unsigned_abs.result 1200 4194304 (omega (arith, c.from-3.ensures, c.args.dots.at_most)) (omega (arith, n, z)) in
    omega (arith, m)

pub overflow_cast-result : goal.overflow_cast-result
overflow_cast-result c =
    let v = c.way_between-course.result in
    let e = past c in
    let n : nat_abs (dot v v) ≡ size v = ap nat_abs (size_is v) in
    let l = along_small v c.args.dots.resolution (short c).0 (short c).1 in
    let k : c.saturating_sub.result ≡ 2 * (c.args.dots.resolution * size v) - 1 = rw n at e in
    omega (arith, k, l)

-- the squares fit
fits : (d : ℕ) (a b z : ℤ) → a ≡ pos d → b ≡ pos d → d ≤ 262144 → nat_abs z ≤ 4194304 → FitsSigned w64 (a *ℤ b) × FitsSigned w64 ((a *ℤ b) *ℤ z)
fits d a b z ea eb h k =
    let na : nat_abs a ≤ 262144 = rw ea h in
    let nb : nat_abs b ≤ 262144 = rw eb h in
    let p = product_within a b 262144 262144 na nb in
    let q = product_within (a *ℤ b) z 68719476736 4194304 p k in
    (omega (arith, ints, p), omega (arith, ints, q))

products : (c : goal.After-saturating_sub) → FitsSigned w64 (c.from.result *ℤ c.from-2.result) × FitsSigned w64 ((c.from.result *ℤ c.from-2.result) *ℤ c.squared_length-squared.result)
products c = fits c.drawn_width_of-width.result c.from.result c.from-2.result c.squared_length-squared.result c.from.ensures c.from-2.ensures (width c) (squared c)

pub overflow_mul-result : goal.overflow_mul-result
overflow_mul-result c =
    let f : FitsSigned w64 c.squared_length-squared.result = search rules in
    let fa : FitsSigned w64 c.from.result = search rules in
    let fb : FitsSigned w64 c.from-2.result = search rules in
    let t = products c in
    let u = t.0 in
    simp to_z-of_z t.1

pub invariant_of-result : goal.invariant_of-result
invariant_of-result c =
    let v = c.way_between-course.result in
    let f : FitsSigned w64 c.squared_length-squared.result = search rules in
    let fa : FitsSigned w64 c.from.result = search rules in
    let fb : FitsSigned w64 c.from-2.result = search rules in
    let t = products c in
    let u = t.0 in
    let w = t.1 in
    let reach : c.from.result *ℤ c.from-2.result ≡ pos (c.drawn_width_of-width.result * c.drawn_width_of-width.result) = rw (c.from.ensures, c.from-2.ensures) refl in
    let limit : (c.from.result *ℤ c.from-2.result) *ℤ c.squared_length-squared.result ≡ pos (c.drawn_width_of-width.result * c.drawn_width_of-width.result) *ℤ dot v v =
    ap₂ ◌*ℤ◌ reach c.squared_length-squared.ensures.value in
    record {
      sound = record {
        some = omega (arith, c.args.dots.at_least);
        short = record { course = (short c).0; pixels = (short c).1; width = width c };
        last_is = c.doubled.ensures ∙ ap (λ (z : Vector). scaled (pos 2) z) c.times.ensures;
        past_is = past c;
        reach_is = simp to_z-of_z reach;
        limit_is = simp to_z-of_z limit;
      };
    }
