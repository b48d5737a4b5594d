-- One more pixel of a scan: the first and the last of those that are met.
use Rattle.std.proofs.Common.{◌≡◌, ℕ, ◌+◌, ◌-◌, ◌<◌, ◌≤◌, arith, inl, inr, ap, ◌∙◌, true, false, min}
use Rattle.std.proofs.lemmas.Bool.{cases_lt}
use Rattle.stroke_raster.specs.declared.vector.Vector.{Vector}
use Rattle.stroke_raster.specs.declared.trace.Trace.{Trace}
use Rattle.stroke_raster.specs.Traces.{is_met}

-- a pixel that is not met, after those that are not met either
pub scan_unmet : (t : Trace) (start : Vector) (i : ℕ) → is_met t start i ≡ false → (j : ℕ) → (j < i → is_met t start j ≡ false) → j < i + 1 → is_met t start j ≡ false
scan_unmet t start i e j h u = elim (cases_lt j i) [
  | inl l ↦ h l
  | inr l ↦ (let k : j ≡ i = omega (arith, u, l) in ap (λ (n : ℕ). is_met t start n) k ∙ e)
]

-- what holds of a scan of i pixels
pub record Scan (t : Trace) (start : Vector) (length i low end : ℕ) : Type 0 where
  pub low_in : low ≤ length
  pub end_in : end ≤ i
  pub before : (j : ℕ) → j < i → j < low → is_met t start j ≡ false
  pub after : (j : ℕ) → end ≤ j → j < i → is_met t start j ≡ false
  pub first : low < length → is_met t start low ≡ true
  pub last : 0 < end → is_met t start (end - 1) ≡ true
  pub some : low < length → low < end
  pub none : 0 < end → low < end

-- a pixel that is met
pub scan_met : (t : Trace) (start : Vector) (length i low end low' end' : ℕ) → i < length → is_met t start i ≡ true → low' ≡ min low i → end' ≡ i + 1 → low ≤ length → end ≤ i
    → ((j : ℕ) → j < i → j < low → is_met t start j ≡ false) → (low < length → is_met t start low ≡ true) → (low < length → low < end)
    → Scan t start length (i + 1) low' end'
scan_met t start length i low end low' end' h e el ee low_in end_in before first some =
    let first' : is_met t start low' ≡ true = elim (cases_lt low length) [
      | inl l ↦ (let s = some l in let k : low' ≡ low = omega (arith, el, s, end_in) in ap (λ (n : ℕ). is_met t start n) k ∙ first l)
      | inr l ↦ (let k : low' ≡ i = omega (arith, el, l, h) in ap (λ (n : ℕ). is_met t start n) k ∙ e)
    ] in
    let last' : is_met t start (end' - 1) ≡ true = (let k : end' - 1 ≡ i = omega (arith, ee) in ap (λ (n : ℕ). is_met t start n) k ∙ e) in
    record {
      low_in = omega (arith, el, h);
      end_in = omega (arith, ee);
      before = λ j u v. before j (omega (arith, v, el)) (omega (arith, v, el));
      after = λ j u v. absurd (omega (arith, u, v, ee));
      first = λ _. first';
      last = λ _. last';
      some = λ _. omega (arith, el, ee);
      none = λ _. omega (arith, el, ee);
    }
