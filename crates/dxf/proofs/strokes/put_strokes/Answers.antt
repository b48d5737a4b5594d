use Rattle.std.proofs.Common.{◌≡◌, ◌∙◌, List, ap, arith, drop, length}
use Rattle.std.proofs.lemmas.List.{take_all}
use Rattle.areas.proofs.Apart.{apart_in}
use Rattle.areas.specs.Shapes.{areas_from, shapes_after}
use Rattle.areas.specs.Views.{areas_in}
use Rattle.pieces.proofs.Texts.{all_left, last_put, next_put}
use Rattle.plot_page.specs.Segments.{Segment}
use Rattle.stroke_runs.proofs.AreaOrder.{agree_on, apart_on}
use Rattle.stroke_runs.specs.Sheets.{sheet_areas}
use Rattle.dxf.proofs.Marks.{none_left}
use Rattle.dxf.proofs.Walks.{no_marks, one_shape}
use Rattle.dxf.specs.Chains.{Mark, marks}
use Rattle.dxf.specs.Steps.{left_text}
use Rattle.dxf.specs.declared.chains.Pending.TheVariants.{Nothing}
use Rattle.dxf.proofs.strokes.put_strokes.Goals as goal
use Rattle.dxf.proofs.strokes.put_strokes.Goals.{then-walk-i, else-walk-i}

pub loop-i-init : goal.loop-i-init
loop-i-init g c =
    let view = c.args.view.now in
    let at = c.args.at in
    let before = c.args.before in
    let rest = areas_from at (sheet_areas before (areas_in view.areas)) in
    record {
      rest = rest;
      ahead = omega arith;
      apart = apart_on before at (areas_in view.areas) (apart_in view.areas);
      agree = agree_on before at (areas_in view.areas) (apart_in view.areas);
      left = all_left c.requires.sound (ap (λ (ss : List Segment). left_text c.args.layers.now Nothing (marks view.pens.now (shapes_after at ss rest))) c.between-strokes.ensures);
    }

pub loop-i-preserved : goal.loop-i-preserved
loop-i-preserved g c =
    let view = c.args.view.now in
    let l = c.loop-i in
    let now = l.invariant in
    let strokes = c.between-strokes.result.now in
    elim c.if-walk-i.branch [
      | then-walk-i w ↦
          let same : l.walk.done ≡ l.i = omega (arith, now.ahead, w.if-walk-i.true) in
          let rest = w.between-rest.ensures ∙ ap (λ (ss : List Segment). drop l.i ss) (take_all (length strokes) strokes (omega arith)) in
          let next = one_shape c.args.layers.now view.pens.now view.areas c.args.before l.i strokes l.walk w.put_shape-walk.result now.rest w.between-rest.result.now
          now.apart now.agree same c.loop-i-test.true rest w.put_shape-walk.ensures.after in
          let put = next_put now.left w.put_shape-walk.ensures.puts next.is in
          record {
            rest = next.more;
            ahead = rw w.walk-is next.ahead;
            apart = rw w.walk-is next.apart;
            agree = rw w.walk-is next.agree;
            left = rw (w.text-is, w.walk-is) put;
          }
      | else-walk-i w ↦
          record {
            rest = now.rest;
            ahead = rw w.walk-is (omega (arith, w.if-walk-i.false));
            apart = rw w.walk-is now.apart;
            agree = rw w.walk-is now.agree;
            left = rw (w.text-is, w.walk-is) now.left;
          }
    ]

pub returns : goal.returns
returns g c =
    let view = c.args.view.now in
    let l = c.loop-i in
    let now = l.invariant in
    let strokes = c.between-strokes.result.now in
    let none = no_marks view.pens.now strokes l.walk.done now.rest now.apart (omega (arith, now.ahead, c.loop-i-test.false)) in
    record {
      puts = last_put now.left c.put_end.ensures.puts
          (ap (λ (ms : List Mark). left_text c.args.layers.now l.walk.pending ms) none ∙ none_left c.args.layers.now l.walk.pending);
    }
