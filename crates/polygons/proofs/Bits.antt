-- The numbers of lines, as they are read back from 32 bits.
use Rattle.std.proofs.Common.{◌≡◌, ◌^◌, ◌≤◌, arith, ℤ, nat_abs, to_z, of_z}
use mir.Syntax.{w32}
use Rattle.std.proofs.lemmas.Int.{to_z-of_z, fits_signed_from_abs}

pub small_back : (z : ℤ) → nat_abs z ≤ 2 ^ 25 → to_z w32 (of_z w32 z) ≡ z
small_back z h = to_z-of_z w32 z (fits_signed_from_abs w32 z (omega arith))
