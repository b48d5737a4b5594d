-- Powers of ten.
use Rattle.std.proofs.Common.{ℕ, ◌^◌, ◌≤◌, arith}
use Rattle.std.proofs.Math.Nat.{pow-le-pow_right}

-- six digits write less than a million
pub ten_powers : (count : ℕ) → count ≤ 6 → 10 ^ count ≤ 1000000
ten_powers count h = pow-le-pow_right (omega arith) h
