use Rattle.std.proofs.Common.{◌≡◌, ℕ, ◌+◌, ◌-◌, ◌≤◌, min, arith}
use Rattle.plot_page.specs.Segments.{Segment}
use Rattle.plot_page.specs.declared.dots.Dots.{Dots}
use Rattle.stroke_raster.specs.Covers.{covers}
use Rattle.stroke_raster.specs.Tests.{reached_pixels, MOST_TESTS}
use Rattle.stroke_raster.proofs.ReachedRows.{of_equals, parts_counted}
use Rattle.stroke_raster.proofs.Parts.{rows_joined}
use Rattle.stroke_raster.proofs.gauge.Exact.ink_long.Goals as goal

-- the tests of three parts
counted : (old all first rest mid last above inside beside sum new : ℕ) → all ≡ first + rest → rest ≡ mid + last → min (old + first) MOST_TESTS ≤ above → mid ≤ beside → inside ≡ above → sum ≡ min (inside + beside) MOST_TESTS
    → min (sum + last) MOST_TESTS ≤ new → min (old + all) MOST_TESTS ≤ new
counted old all first rest mid last above inside beside sum new a b first_in mid_in view is last_in = omega (arith, a, b, first_in, mid_in, view, is, last_in)

pub returns-clause-least : goal.returns-clause-least
returns-clause-least c =
    let edges = c.edges_of-edges.ensures in
    let trace = c.trace_of-trace.ensures in
    let covered = λ (r k : ℕ). covers c.args.stroke.now c.args.page.now c.args.dots r k in
    let many : ℕ = c.args.columns.end - c.args.columns.low in
    let a = parts_counted covered c.args.part.low c.edges_of-edges.result.rows.low c.args.part.end c.args.columns.low many edges.low (omega (arith, edges.order, edges.end)) in
    let b = parts_counted covered c.edges_of-edges.result.rows.low c.edges_of-edges.result.rows.end c.args.part.end c.args.columns.low many edges.order edges.end in
    let pixels = λ (s : Segment) (d : Dots) (low end : ℕ). reached_pixels (covers s c.args.page.now d) low (end - low) c.args.columns.low many in
    let above = of_equals (λ (s : Segment) (d : Dots). min (c.args.self.now + pixels s d c.args.part.low c.edges_of-edges.result.rows.low) MOST_TESTS ≤ c.ink_each.new.self) trace.stroke trace.dots c.ink_each.ensures.least in
    let beside = of_equals (λ (s : Segment) (d : Dots). pixels s d c.edges_of-edges.result.rows.low c.edges_of-edges.result.rows.end ≤ c.ink_beside-beside.result) trace.stroke trace.dots c.ink_beside-beside.ensures.least in
    let below = of_equals (λ (s : Segment) (d : Dots). min (c.saturating_add-self-inside.result + pixels s d c.edges_of-edges.result.rows.end c.args.part.end) MOST_TESTS ≤ c.ink_each-2.new.self) trace.stroke trace.dots c.ink_each-2.ensures.least in
    let view : c.self.inside.tests ≡ c.ink_each.new.self = c.self.view_is in
    let sum = c.saturating_add-self-inside.ensures in
    counted _ _ _ _ _ _ _ _ _ _ _ a b above beside view sum below

pub returns-clause-most : goal.returns-clause-most
returns-clause-most c =
    let edges = c.edges_of-edges.ensures in
    let a = rows_joined c.args.part.low c.edges_of-edges.result.rows.low c.edges_of-edges.result.rows.end (c.args.columns.end - c.args.columns.low) edges.low edges.order in
    let b = rows_joined c.args.part.low c.edges_of-edges.result.rows.end c.args.part.end (c.args.columns.end - c.args.columns.low) (omega (arith, edges.low, edges.order)) edges.end in
    omega (arith, a, b, c.ink_each.ensures.most, c.ink_beside-beside.ensures.most, c.saturating_add-self-inside.ensures, c.self.view_is, c.ink_each-2.ensures.most)
