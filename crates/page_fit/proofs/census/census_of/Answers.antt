use Rattle.std.proofs.Common.{◌≡◌, ◌∙◌, ◌+◌, List, ap, arith, flat_map, fold, length, length-append, sym}
use Rattle.areas.specs.Shapes.{Shape}
use Rattle.areas.specs.Walks.{shape_in, shapes_left}
use Rattle.areas.proofs.NextShapes.{few_strokes}
use Rattle.page_fit.specs.Shapes.{counted_all}
use Rattle.page_fit.specs.declared.census.Census.{Census}
use Rattle.page_fit.proofs.ShapeCounts.{none_counted}
use Rattle.page_fit.proofs.census.census_of.Goals as goal

pub shapes-init : goal.shapes-init
shapes-init c =
    let of = c.args.shapes in
    let all = c.new-rest.ensures in
    record {
      whole = ap (λ (ss : List Shape). fold (λ (census : Census) (shape : Shape). counted_all c.args.pens c.args.page.now census shape.strokes) (record { strokes = 0; off_page = 0; cut = 0 }) ss) all;
      few = rw all (omega (arith, few_strokes of.strokes.now of.areas));
      off_page = omega arith;
      cut = omega arith;
    }

pub shapes-preserved : goal.shapes-preserved
shapes-preserved c =
    let shape = shape_in c.in-Some.shape in
    let left = shapes_left c.next.new.self in
    let next = c.in-Some.ensures.some in
    let count : Census → Shape → Census = λ census s. counted_all c.args.pens c.args.page.now census s.strokes in
    let size : length (flat_map (λ s. s.strokes) (shapes_left c.shapes.rest)) ≡ length shape.strokes + length (flat_map (λ s. s.strokes) left) =
    ap (λ (ss : List Shape). length (flat_map (λ s. s.strokes) ss)) next ∙ length-append shape.strokes (flat_map (λ s. s.strokes) left) in
    let with = c.with_shape-census.ensures in
    record {
      whole = ap (λ (n : Census). fold count n left) with.value ∙ sym (ap (λ (ss : List Shape). fold count c.shapes.census ss) next) ∙ c.shapes.invariant.whole;
      few = omega (arith, c.shapes.invariant.few, size, with.strokes);
      off_page = with.off_page;
      cut = with.cut;
    }

pub returns : goal.returns
returns c = sym (none_counted c.args.pens c.args.page.now (shapes_left c.shapes.rest) c.shapes.census c.in_default.ensures.none) ∙ c.shapes.invariant.whole
