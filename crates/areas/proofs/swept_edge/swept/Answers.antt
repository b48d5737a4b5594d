use Rattle.std.proofs.Common.{pos, ◌*ℤ◌, ◌≤ℤ◌, ◌<ℤ◌, ◌⊎◌, inl, inr, subst, arith, rules, FitsSigned}
use mir.Syntax.{w32, w64}
use Rattle.std.proofs.lemmas.Int.{ints, to_z-of_z}
use Rattle.exact.proofs.Rounding.{lt_unscale}
use Rattle.areas.specs.Sweeps.{IsEdge, IsFar, IsWaiting}
use Rattle.areas.proofs.SweptEdges.{edge_down, edge_up, far}
use Rattle.areas.proofs.swept_edge.swept.Goals as goal
use Rattle.areas.proofs.swept_edge.swept.Goals.{else-first-last-via-then-first-last+then-first-top+else-bottom-last, else-first-last-via-then-first-last+else-first-top, else-first-last-via-else-first-last}
use Rattle.areas.proofs.swept_edge.swept.Goals.{else-last-first-via-then-last-first+then-last-top+else-bottom-first, else-last-first-via-then-last-first+else-last-top, else-last-first-via-else-last-first}

pub returns-then-bottom-last : goal.returns-then-bottom-last
returns-then-bottom-last c =
    let e = c.edge.inside in
    let r = c.args.dots.resolution in
    let ax : FitsSigned w32 e.ax = search rules in
    let ay : FitsSigned w32 e.ay = search rules in
    let bx : FitsSigned w32 e.bx = search rules in
    let by : FitsSigned w32 e.by = search rules in
    let first = simp to_z-of_z at c.scaled-first.ensures.value in
    let last = simp to_z-of_z at c.scaled-last.ensures.value in
    let less = c.if-first-last.true in
    let from = simp to_z-of_z at c.waiting-up.ensures in
    let rising = lt_unscale r e.ay e.by (omega (arith, ints, first, last, less)) in
    let waits : IsWaiting c.waiting-up.result = rw from (record {
      ax = search rules;
      ay = search rules;
      bx = search rules;
      by = search rules;
      rising = rising;
    }) in
    subst (λ s. IsEdge r s c.waiting-up.result) c.edge.view_is (edge_up r _ c.waiting-up.result waits from rising)

pub returns-then-bottom-first : goal.returns-then-bottom-first
returns-then-bottom-first c =
    let e = c.edge.inside in
    let r = c.args.dots.resolution in
    let ax : FitsSigned w32 e.ax = search rules in
    let ay : FitsSigned w32 e.ay = search rules in
    let bx : FitsSigned w32 e.bx = search rules in
    let by : FitsSigned w32 e.by = search rules in
    let first = simp to_z-of_z at c.scaled-first.ensures.value in
    let last = simp to_z-of_z at c.scaled-last.ensures.value in
    let less = c.if-last-first.true in
    let from = simp to_z-of_z at c.waiting-down.ensures in
    let rising = lt_unscale r e.by e.ay (omega (arith, ints, first, last, less)) in
    let waits : IsWaiting c.waiting-down.result = rw from (record {
      ax = search rules;
      ay = search rules;
      bx = search rules;
      by = search rules;
      rising = rising;
    }) in
    subst (λ s. IsEdge r s c.waiting-down.result) c.edge.view_is (edge_down r _ c.waiting-down.result waits from rising)

pub returns : goal.returns
returns c =
    let e = c.edge.inside in
    let r = c.args.dots.resolution in
    let fa : FitsSigned w32 e.ay = search rules in
    let fb : FitsSigned w32 e.by = search rules in
    let ft : FitsSigned w64 c.args.top = search rules in
    let fo : FitsSigned w64 c.args.bottom = search rules in
    let first = simp to_z-of_z at c.scaled-first.ensures.value in
    let last = simp to_z-of_z at c.scaled-last.ensures.value in
    let up : ((pos r *ℤ e.by) ≤ℤ (pos r *ℤ e.ay)) ⊎ ((c.args.top <ℤ (pos r *ℤ e.ay)) ⊎ ((pos r *ℤ e.by) ≤ℤ c.args.bottom)) = elim c.else-first-last.branch [
      | else-first-last-via-then-first-last+then-first-top+else-bottom-last w ↦ inr (inr (omega (arith, ints, last, w.if-bottom-last.false)))
      | else-first-last-via-then-first-last+else-first-top w ↦ inr (inl (omega (arith, ints, first, w.if-first-top.false)))
      | else-first-last-via-else-first-last w ↦ inl (omega (arith, ints, first, last, w.if-first-last.false))
    ] in
    let down : ((pos r *ℤ e.ay) ≤ℤ (pos r *ℤ e.by)) ⊎ ((c.args.top <ℤ (pos r *ℤ e.by)) ⊎ ((pos r *ℤ e.ay) ≤ℤ c.args.bottom)) = elim c.else-last-first.branch [
      | else-last-first-via-then-last-first+then-last-top+else-bottom-first w ↦ inr (inr (omega (arith, ints, first, w.if-bottom-first.false)))
      | else-last-first-via-then-last-first+else-last-top w ↦ inr (inl (omega (arith, ints, last, w.if-last-top.false)))
      | else-last-first-via-else-last-first w ↦ inl (omega (arith, ints, first, last, w.if-last-first.false))
    ] in
    subst (λ s. IsFar r c.args.bottom c.args.top s) c.edge.view_is (far r c.args.bottom c.args.top _ up down)
