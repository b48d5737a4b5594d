use Rattle.std.proofs.Common.{◌≡◌, ◌+◌, ◌-◌, ◌<◌, ℕ, drop, get_or, sym, ap, ◌∙◌, arith, inl, inr}
use Rattle.std.proofs.lemmas.Bool.{cases_lt}
use Rattle.std.proofs.lemmas.List.{get_or-drop, get_or-take}
use Rattle.smoothing.proofs.sums.next_marked.Goals as goal

pub eights-preserved : goal.eights-preserved
eights-preserved c =
    let cells = c.args.cells.now in
    let at = c.eights.at in
    record {
      onward = omega (arith, c.eights.invariant.onward);
      blank = λ k from lt. elim (cases_lt k at) [
        | inl before ↦ c.eights.invariant.blank k from before
        | inr after ↦
            let within : k - at < at + 8 - at = omega (arith, lt, after) in
            let there : at + (k - at) ≡ k = omega (arith, after) in
            sym (ap (λ (j : ℕ). get_or cells j 0) there) ∙ sym (get_or-drop at cells (k - at) 0) ∙ sym (get_or-take (at + 8 - at) (drop at cells) (k - at) 0 within)
            ∙ c.are_blank.ensures c.if-are_blank.true (k - at) (omega (arith, lt, after))
      ];
    }
