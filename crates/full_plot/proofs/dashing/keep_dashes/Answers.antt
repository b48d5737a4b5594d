use Rattle.std.proofs.Common.{◌∙◌, sym, ap, subst, arith, List, map, All}
use Rattle.std.proofs.lemmas.List.Elements.{All-head, All-tail}
use Rattle.exact.specs.declared.spot.Spot.{Spot}
use Rattle.plot_page.specs.Segments.{Segment}
use Rattle.hpgl_plot.specs.Machine.{World, seen, with_strokes}
use Rattle.full_plot.specs.Dashing.{dash_of, IsDash, with_one_more}
use Rattle.full_plot.proofs.Kept.{full_world, one_more}
use Rattle.full_plot.proofs.dashing.keep_dashes.Goals as goal

pub returns-then-len-ge-MOST_STROKES-clause-kept : goal.returns-then-len-ge-MOST_STROKES-clause-kept
returns-then-len-ge-MOST_STROKES-clause-kept c =
    let line = c.args.line.now in
    let v = seen c.dashes.plotter in
    let rest = c.next.new.self in
    sym (full_world v (dash_of line (c.in-Some.from, c.in-Some.to)) (map (dash_of line) rest) (omega (arith, c.len.ensures, c.if-len-ge-MOST_STROKES.true)))
    ∙ ap (λ (ds : List (Spot × Spot)). with_strokes v v.state (map (dash_of line) ds)) (sym c.in-Some.ensures.steps)
    ∙ c.dashes.invariant.same

pub part-requires-clause-from_in : goal.part-requires-clause-from_in
part-requires-clause-from_in c =
    (All-head IsDash (c.in-Some.from, c.in-Some.to) c.next.new.self (subst (All IsDash) c.in-Some.ensures.steps c.dashes.invariant.inside)).0

pub part-requires-clause-to_in : goal.part-requires-clause-to_in
part-requires-clause-to_in c =
    (All-head IsDash (c.in-Some.from, c.in-Some.to) c.next.new.self (subst (All IsDash) c.in-Some.ensures.steps c.dashes.invariant.inside)).1

pub dashes-preserved : goal.dashes-preserved
dashes-preserved c =
    let line = c.args.line.now in
    let v = seen c.dashes.plotter in
    let rest = c.next.new.self in
    record {
      inside = All-tail IsDash (c.in-Some.from, c.in-Some.to) rest (subst (All IsDash) c.in-Some.ensures.steps c.dashes.invariant.inside);
      same = ap (λ (u : World). with_strokes u u.state (map (dash_of line) rest)) c.in_ok-keep.ensures.kept
          ∙ ap (λ (s : Segment). with_strokes (with_one_more v s) v.state (map (dash_of line) rest)) c.part.ensures
          ∙ sym (one_more v (dash_of line (c.in-Some.from, c.in-Some.to)) (map (dash_of line) rest) (omega (arith, c.len.ensures, c.if-len-ge-MOST_STROKES.false)))
          ∙ ap (λ (ds : List (Spot × Spot)). with_strokes v v.state (map (dash_of line) ds)) (sym c.in-Some.ensures.steps)
          ∙ c.dashes.invariant.same;
    }
