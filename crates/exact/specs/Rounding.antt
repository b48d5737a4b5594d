-- What the rounding of a fraction means, and when two fractions are one number.
use Rattle.std.specs.Prelude.{◌≡◌, ◌*◌, ◌<◌, ℤ, pos, ◌+ℤ◌, ◌*ℤ◌, ◌≤ℤ◌, ◌<ℤ◌}
use Rattle.exact.specs.Fraction.{Fraction, round}

-- a half is rounded up
pub record IsRounded (f : Fraction) (z : ℤ) : Type 0 where
  pub least : (pos (2 * f.under) *ℤ z) ≤ℤ (pos 2 *ℤ f.over +ℤ pos f.under)
  pub most : (pos 2 *ℤ f.over +ℤ pos f.under) <ℤ (pos (2 * f.under) *ℤ z +ℤ pos (2 * f.under))

-- two fractions are one number
abbrev pub SameNumber : Fraction → Fraction → Type 0
SameNumber f g = f.over *ℤ pos g.under ≡ g.over *ℤ pos f.under

pub record RoundLaw : Type 0 where
  pub meets : (f : Fraction) → 0 < f.under → IsRounded f (round f)
  pub one : (f : Fraction) (z : ℤ) → 0 < f.under → IsRounded f z → z ≡ round f
  pub same : (f g : Fraction) → 0 < f.under → 0 < g.under → SameNumber f g → round f ≡ round g
