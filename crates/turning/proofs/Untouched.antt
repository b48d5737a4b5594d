-- A place that is on no edge: what the test of a gap of no width says of it.
use Rattle.std.proofs.Common.{◌≡◌, ℕ, ◌*◌, Bool, true, false, refl, arith, ℤ, pos, ◌-ℤ◌, ◌*ℤ◌, ◌≤ℤ◌, int_le, if◌then◌else◌}
use Rattle.std.proofs.lemmas.Int.{ints}
use Rattle.exact.proofs.Ring.{mul-sub_z, mul_comm_z, square-sub, square_is}
use Rattle.polygons.proofs.Tests.{le_true, le_from}
use Rattle.stroke_raster.specs.Gap.{cross, dot, gap_met, way}
use Rattle.stroke_raster.specs.declared.vector.Vector.{Vector}
use Rattle.turning.proofs.Signs.{up_up}

square_up : (z : ℤ) → pos 0 ≤ℤ (z *ℤ z)
square_up z = let e = square_is z in omega (arith, ints, e)

abbrev by_tests : Vector → Vector → ℕ → Bool → Bool → Bool
by_tests v w d behind past =
    if behind then int_le (pos 4 *ℤ dot w w) (pos (d * d)) else
    if past then int_le (pos 4 *ℤ dot (way v w) (way v w)) (pos (d * d)) else
    int_le (pos 4 *ℤ (cross v w *ℤ cross v w)) (pos (d * d) *ℤ dot v v)

by_cases : (v w : Vector) → cross v w ≡ pos 0 → (w.x *ℤ w.x) ≤ℤ (v.x *ℤ w.x) → (w.y *ℤ w.y) ≤ℤ (v.y *ℤ w.y)
    → (behind past : Bool) → int_le (dot v w) (pos 0) ≡ behind → int_le (dot v v) (dot v w) ≡ past → by_tests v w 0 behind past ≡ true
by_cases v w level across up true past e f =
    let h = le_from (dot v w) (pos 0) e in
    let p = square_up w.x in
    let q = square_up w.y in
    le_true (pos 4 *ℤ dot w w) (pos (0 * 0)) (omega (arith, ints, h, across, up, p, q))
by_cases v w level across up false true e f =
    let h = le_from (dot v v) (dot v w) f in
    let a = square-sub v.x w.x in
    let b = square-sub v.y w.y in
    let c = square-sub w.x v.x in
    let d = square-sub w.y v.y in
    let i = mul_comm_z v.x w.x in
    let j = mul_comm_z v.y w.y in
    le_true (pos 4 *ℤ dot (way v w) (way v w)) (pos (0 * 0)) (omega (arith, ints, h, across, up, a, b, c, d, i, j))
by_cases v w level across up false false e f =
    rw level (le_true (pos 4 *ℤ (pos 0 *ℤ pos 0)) (pos (0 * 0) *ℤ dot v v) (omega (arith, ints)))

-- the ways from an end to a place and on to the other end, of which each coordinate leads the same way, are level with one another
pub touched : (v w : Vector) → cross v w ≡ pos 0 → pos 0 ≤ℤ (w.x *ℤ (v.x -ℤ w.x)) → pos 0 ≤ℤ (w.y *ℤ (v.y -ℤ w.y))
    → gap_met v w 0 ≡ true
touched v w level across up =
    let a = mul-sub_z w.x v.x w.x in
    let b = mul-sub_z w.y v.y w.y in
    let c = mul_comm_z w.x v.x in
    let d = mul_comm_z w.y v.y in
    by_cases v w level (omega (arith, ints, a, c, across)) (omega (arith, ints, b, d, up)) (int_le (dot v w) (pos 0)) (int_le (dot v v) (dot v w)) refl refl

-- a place that is on an edge is within any distance of it
wider : (v w : Vector) (d : ℕ) (behind past : Bool) → int_le (dot v w) (pos 0) ≡ behind → int_le (dot v v) (dot v w) ≡ past
    → by_tests v w 0 behind past ≡ true → by_tests v w d behind past ≡ true
wider v w d true past e f h =
    let k = le_from (pos 4 *ℤ dot w w) (pos (0 * 0)) h in
    le_true (pos 4 *ℤ dot w w) (pos (d * d)) (omega (arith, ints, k))
wider v w d false true e f h =
    let u = way v w in
    let k = le_from (pos 4 *ℤ dot u u) (pos (0 * 0)) h in
    le_true (pos 4 *ℤ dot u u) (pos (d * d)) (omega (arith, ints, k))
wider v w d false false e f h =
    let c = cross v w in
    let k = le_from (pos 4 *ℤ (c *ℤ c)) (pos (0 * 0) *ℤ dot v v) h in
    let p = square_up v.x in
    let q = square_up v.y in
    let z = up_up (pos (d * d)) (dot v v) (omega (arith, ints)) (omega (arith, ints, p, q)) in
    le_true (pos 4 *ℤ (c *ℤ c)) (pos (d * d) *ℤ dot v v) (omega (arith, ints, k, z))

pub within_any : (v w : Vector) (d : ℕ) → gap_met v w 0 ≡ true → gap_met v w d ≡ true
within_any v w d h = wider v w d (int_le (dot v w) (pos 0)) (int_le (dot v v) (dot v w)) refl refl h
