use Rattle.std.proofs.Common.{ℕ, ◌≡◌, ◌+◌, ◌*◌, ◌≤◌, take}
use Rattle.hpgl_text.specs.Numbers.{decimals_sum}
use Rattle.escapes.proofs.Digits.{weight}
use Rattle.escapes.proofs.value.decimals_of.Given as goal

pub record Kept (millionths w : ℕ) (sum next : ℕ) : Type 0 where
  pub value : millionths ≡ sum
  pub weight_is : w ≡ next
  pub room : millionths + 230 * w ≤ 23000000

abbrev pub invariant-loop-digit : goal.invariant-loop-digit
invariant-loop-digit l = Kept l.millionths l.weight (decimals_sum 6 (take l.digit-index l.digits)) (weight 6 l.digit-index)
