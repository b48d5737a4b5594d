use Rattle.std.proofs.Common.{◌≡◌, ◌∙◌, ◌++◌, ◌∷◌, [], Some, None, arith, subst, sym}
use Rattle.areas.specs.Shapes.{beginning_at, stroke_shape}
use Rattle.areas.specs.Views.{areas_in}
use Rattle.areas.proofs.Apart.{apart_in}
use Rattle.plot_page.specs.declared.stroke.TheConstants.{MOST_STROKES}
use Rattle.plot_page.specs.Segments.{Segment}
use Rattle.plot_report.specs.Summaries.{AreOf}
use Rattle.plot_report.proofs.Walk.{all_passed, area_passed, edges_within, ends_later, has_edge, none_passed, numbers_are_few, stroke_passed}
use Rattle.plot_report.proofs.pens.summarise.Goals as goal

pub shapes-init : goal.shapes-init
shapes-init c = none_passed c.args.of.strokes.now (areas_in c.args.of.areas) c.none-summaries.result (apart_in c.args.of.areas) c.none-summaries.ensures

pub add_area-requires : goal.add_area-requires
add_area-requires c =
    let strokes = c.args.of.strokes.now in
    let areas = areas_in c.args.of.areas in
    let a = c.in-Some.area in
    let found : beginning_at c.shapes.at areas ≡ Some a = sym c.beginning_at.ensures ∙ c.in-Some.is in
    record {
      room = numbers_are_few strokes areas c.shapes.at c.shapes.summaries (apart_in c.args.of.areas) c.shapes.invariant MOST_STROKES (omega (arith, c.shapes-test.true, c.requires.few));
      edges = rw c.edges.ensures (omega (arith, c.requires.few, edges_within strokes a));
      some = rw c.edges.ensures (has_edge strokes areas c.shapes.at a (apart_in c.args.of.areas) found c.shapes-test.true);
    }

pub shapes-smaller-in-Some : goal.shapes-smaller-in-Some
shapes-smaller-in-Some c =
    let found : beginning_at c.shapes.at (areas_in c.args.of.areas) ≡ Some c.in-Some.area = sym c.beginning_at.ensures ∙ c.in-Some.is in
    omega (arith, c.shapes-test.true, ends_later c.args.of.strokes.now (areas_in c.args.of.areas) c.shapes.at c.in-Some.area (apart_in c.args.of.areas) found)

pub shapes-preserved-in-Some : goal.shapes-preserved-in-Some
shapes-preserved-in-Some c =
    let strokes = c.args.of.strokes.now in
    let areas = areas_in c.args.of.areas in
    let s = c.shapes.summaries in
    let new = c.add_area.new.self in
    let a = c.in-Some.area in
    let found : beginning_at c.shapes.at areas ≡ Some a = sym c.beginning_at.ensures ∙ c.in-Some.is in
    area_passed strokes areas c.shapes.at s (apart_in c.args.of.areas) c.shapes.invariant new a found (λ before rule h. rw c.edges.ensures at (c.add_area.ensures before rule h))

pub add_stroke-requires : goal.add_stroke-requires
add_stroke-requires c = record {
  room = numbers_are_few c.args.of.strokes.now (areas_in c.args.of.areas) c.shapes.at c.shapes.summaries (apart_in c.args.of.areas) c.shapes.invariant MOST_STROKES (omega (arith, c.shapes-test.true, c.requires.few));
}

pub shapes-preserved : goal.shapes-preserved
shapes-preserved c =
    let strokes = c.args.of.strokes.now in
    let areas = areas_in c.args.of.areas in
    let none : beginning_at c.shapes.at areas ≡ None = sym c.beginning_at.ensures ∙ c.in-None.is in
    let new = c.add_stroke.new.self in
    stroke_passed strokes areas c.shapes.at c.shapes.summaries (apart_in c.args.of.areas) c.shapes.invariant new c.index-of-at.result c.shapes-test.true c.index-of-at.is none
    (λ before h. subst (λ (x : Segment). AreOf new (before ++ (stroke_shape x ∷ []))) (sym c.index-of-at.is) (c.add_stroke.ensures before h))

pub returns : goal.returns
returns c = all_passed c.args.of.strokes.now (areas_in c.args.of.areas) c.shapes.at c.shapes.summaries (apart_in c.args.of.areas) c.shapes.invariant c.shapes-test.false
