-- When nothing lies beside the page.
use Rattle.std.proofs.Common.{◌≡◌, ◌||◌, Bool, true, false}

pub neither : (a b c d : Bool) → (a || b) ≡ false → (c || d) ≡ false → (a || b || (c || d)) ≡ false
neither false false c d x y = y
neither false true c d x y = absurd (cc)
neither true b c d x y = absurd (cc)
