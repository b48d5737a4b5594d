use Rattle.std.proofs.Common.{◌∙◌, ◌++◌, [], sym, ap₂, map}
use Rattle.polygons.specs.Fills.{is_inside, spans_after}
use Rattle.polygons.specs.Climbs.{bare}
use Rattle.polygons.proofs.Gaps.{more_in, next_is, upward_more, others_more, span_more, span_none}
use Rattle.polygons.proofs.spans.add_spans.Goals as goal
use Rattle.polygons.proofs.spans.add_spans.Goals.{then-is_inside+in_ok-push, else-is_inside}

pub loop-crossing-preserved : goal.loop-crossing-preserved
loop-crossing-preserved c =
    let m = c.loop-crossing.invariant in
    let cs = c.args.crossings.now in
    let k = c.loop-crossing.crossing-index in
    let last = c.loop-crossing.last.now in
    let item = c.crossing-item.result in
    let l = rw m.rest_is at c.loop-crossing-test.true in
    let i = rw m.rest_is at c.crossing-item.is in
    let more = more_in c.args.rule cs k last item l i m.last_is in
    let next = next_is c.args.rule cs k last item l i m.last_is in
    let up = upward_more c.args.rule cs k last item l i m.last_is c.loop-crossing.upward c.from-upward.result m.upward_is c.from-upward.ensures in
    let others = others_more c.args.rule cs k last item l i m.last_is c.loop-crossing.others c.from-others.result m.others_is c.from-others.ensures in
    let inside = c.is_inside.ensures ∙ ap₂ (is_inside c.args.rule) up others in
    elim c.if-is_inside.branch [
      | then-is_inside+in_ok-push w ↦ (
          let items = w.in_ok-push.ensures.items in
          rw (w.spans-is, w.last-is, items) (record {
            rest_is = m.rest_is;
            some = more;
            last_is = next;
            upward_is = up;
            others_is = others;
            spans_are = span_more c.args.rule cs k last item l i m.last_is c.loop-crossing.spans.items (c.args.spans.now.items ++ spans_after c.args.rule [] (map bare cs)) m.spans_are (sym w.if-is_inside.true ∙ inside);
          })
          )
      | else-is_inside w ↦ rw (w.spans-is, w.last-is) (record {
        rest_is = m.rest_is;
        some = more;
        last_is = next;
        upward_is = up;
        others_is = others;
        spans_are = span_none c.args.rule cs k last item l i m.last_is c.loop-crossing.spans.items (c.args.spans.now.items ++ spans_after c.args.rule [] (map bare cs)) m.spans_are (sym w.if-is_inside.false ∙ inside);
      })
    ]
