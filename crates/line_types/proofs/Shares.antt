-- A share of a distance is between 0 and the distance.
use Rattle.std.proofs.Common.{◌≡◌, ℕ, ◌+◌, ◌<◌, ◌≤◌, arith, ℤ, pos, nat_abs, ◌-ℤ◌, ◌*ℤ◌, ◌≤ℤ◌, ◌-◌}
use Rattle.std.proofs.lemmas.Int.{ints}
use Rattle.exact.proofs.Ring.{mul_comm_z}
use Rattle.exact.proofs.Rounding.{le_scale}
use Rattle.exact.proofs.Between.{at_most, at_least}
use Rattle.line_types.specs.Lines.{share_of_line}

fall_in : (t u : ℕ) (d least : ℤ) → least ≤ℤ pos 0 → least ≤ℤ d → (pos (t + u) *ℤ least) ≤ℤ (d *ℤ pos t)
fall_in t u d least a p =
    let low = le_scale t least d p in
    let rest = le_scale u least (pos 0) a in
    let e = mul_comm_z d (pos t) in
    omega (arith, ints)

rise_in : (t u : ℕ) (d most : ℤ) → pos 0 ≤ℤ most → d ≤ℤ most → (d *ℤ pos t) ≤ℤ (pos (t + u) *ℤ most)
rise_in t u d most b q =
    let high = le_scale t d most q in
    let rest = le_scale u (pos 0) most b in
    let e = mul_comm_z d (pos t) in
    omega (arith, ints)

-- a share of a distance d lies between two numbers if both d and 0 do
pub share_in : (least d most : ℤ) (t long : ℕ) → 0 < long → t ≤ long → least ≤ℤ pos 0 → pos 0 ≤ℤ most → least ≤ℤ d → d ≤ℤ most
    → (least ≤ℤ share_of_line d t long) × (share_of_line d t long ≤ℤ most)
share_in least d most t long h k a b p q =
    let e : t + (long - t) ≡ long = omega arith in
    let low = rw e at (fall_in t (long - t) d least a p) in
    let high = rw e at (rise_in t (long - t) d most b q) in
    (at_least long (d *ℤ pos t) least h low, at_most long (d *ℤ pos t) most h high)

pub share_within : (d : ℤ) (m t long : ℕ) → 0 < long → t ≤ long → nat_abs d ≤ m → nat_abs (share_of_line d t long) ≤ m
share_within d m t long h k a =
    let r = share_in (pos 0 -ℤ pos m) d (pos m) t long h k (omega (arith, ints)) (omega (arith, ints)) (omega (arith, ints)) (omega (arith, ints)) in
    omega (arith, ints, r.0, r.1)
