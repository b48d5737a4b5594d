use Rattle.std.proofs.Common.{◌≡◌, ◌+◌, ◌<◌, ◌≤◌, ℕ, arith, refl, ◌∙◌}
use Rattle.stroke_raster.specs.Covers.{covers}
use Rattle.stroke_raster.specs.Edges.{way_to}
use Rattle.stroke_raster.specs.Traces.{is_met}
use Rattle.stroke_raster.proofs.EdgeLemmas.{unmet_before_span, unmet_after_span, met_in_span}
use Rattle.stroke_raster.proofs.RunLemmas.{covered_is_met}
use Rattle.stroke_raster.proofs.edges.beside_run.Goals as goal

-- each pixel is covered if and only if it is met
same : (c : goal.Then-span) → (i : ℕ) → i < c.args.length → covers c.args.trace.now.stroke.now c.args.page.now c.args.trace.now.dots c.args.row (c.args.from + i) ≡ is_met c.args.trace.now (way_to c.args.trace.now c.args.page.now c.args.row c.args.from) i
same c i u = covered_is_met c.args.trace.now c.args.page.now c.args.row c.args.from i (way_to c.args.trace.now c.args.page.now c.args.row c.args.from) refl (c.requires.boxed i u)

within : (c : goal.Then-span) → c.args.edges.now.width ≤ c.args.at
within c = let d = c.requires.edge in omega (arith, d.room_low, d.sure.width_in)

pub returns-then-span-clause-before : goal.returns-then-span-clause-before
returns-then-span-clause-before c = λ i u.
    let k = c.clear_span-span.ensures.clear c.if-span.true in
    same c i (omega (arith, u, k.low, k.end, c.if-span.true)) ∙ unmet_before_span _ _ _ _ _ _ c.args.length _ c.requires.edge (within c) k i u

pub returns-then-span-clause-inside : goal.returns-then-span-clause-inside
returns-then-span-clause-inside c = λ i u v.
    let k = c.clear_span-span.ensures.clear c.if-span.true in
    same c i (omega (arith, v, k.end)) ∙ met_in_span _ _ _ _ _ _ c.args.length _ c.requires.edge (within c) k i u v

pub returns-then-span-clause-after : goal.returns-then-span-clause-after
returns-then-span-clause-after c = λ i u v.
    let k = c.clear_span-span.ensures.clear c.if-span.true in
    same c i v ∙ unmet_after_span _ _ _ _ _ _ c.args.length _ c.requires.edge (within c) k i u v
