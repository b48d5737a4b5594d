use Rattle.std.proofs.Common.{◌≡◌, ℕ, ◌-◌, arith, inl, inr, sym, ap, ◌∙◌}
use Rattle.std.proofs.lemmas.Bool.{cases_lt}
use Rattle.stroke_raster.specs.Traces.{is_met}
use Rattle.stroke_raster.proofs.run.end_of_covered.Goals as goal

pub columns-preserved : goal.columns-preserved
columns-preserved c = record {
  low = omega (arith, c.columns.invariant.low, c.columns-test.true);
  high = omega (arith, c.columns.invariant.high, c.columns-test.true);
  after = λ i u v. elim (cases_lt i c.columns.at) [
    | inl l ↦ (let e : i ≡ c.columns.at - 1 = omega (arith, l, u, c.columns-test.true) in ap (λ (n : ℕ). is_met c.args.trace.now c.args.start n) e ∙ sym c.meets_pixel.ensures ∙ c.if-meets_pixel.false)
    | inr l ↦ c.columns.invariant.after i l v
  ];
}
