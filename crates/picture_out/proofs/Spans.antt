-- The cells outside of a span.
use Rattle.std.proofs.Common.{◌≡◌, ℕ, ◌<◌, ◌≤◌, List, length, get_or, arith, inl, inr, ◌⊎◌}
use Rattle.std.proofs.lemmas.Bool.{cases_lt}
use Rattle.std.proofs.lemmas.List.{get_or_past}
use Rattle.picture_out.specs.Spans.{IsBlankOutside}

-- a cell outside of the span, or past the last one, counts as 0
pub before_span : (cells : List ℕ) (low end k : ℕ) → IsBlankOutside cells low end → k < low → get_or cells k 0 ≡ 0
before_span cells low end k span lt = span.before k (omega (arith, span.order, span.high)) lt

after_by : (cells : List ℕ) (low end k : ℕ) → IsBlankOutside cells low end → end ≤ k → (k < length cells) ⊎ (length cells ≤ k) → get_or cells k 0 ≡ 0
after_by cells low end k span le (inl here) = span.after k here le
after_by cells low end k span le (inr past) = get_or_past cells k 0 past

pub after_span : (cells : List ℕ) (low end k : ℕ) → IsBlankOutside cells low end → end ≤ k → get_or cells k 0 ≡ 0
after_span cells low end k span le = after_by cells low end k span le (cases_lt k (length cells))
