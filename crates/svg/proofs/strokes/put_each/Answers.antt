use Rattle.std.proofs.Common.{◌+◌, ◌++◌, ◌∙◌, List, ap, arith, sym, drop}
use Rattle.std.proofs.lemmas.List.{drop_all}
use Rattle.plot_page.specs.Segments.{Segment}
use Rattle.stroke_runs.specs.declared.roles.Roles.{Roles}
use Rattle.stroke_runs.specs.declared.runs.Runs.{Runs}
use Rattle.pieces.proofs.Texts.{all_left, last_put, next_put}
use Rattle.svg.specs.Steps.{step_text, steps_text}
use Rattle.svg.proofs.Texts.{next_text, one_more}
use Rattle.svg.proofs.strokes.put_each.Goals as goal

pub loop-stroke-init : goal.loop-stroke-init
loop-stroke-init g c =
    let page = c.args.page.now in
    let pens = c.args.pens.now in
    let strokes = c.args.strokes.now in
    record {
      left = all_left c.requires.sound (ap (λ (r : Runs). steps_text page pens c.args.roles r strokes) c.new-runs.ensures);
      number = omega arith;
    }

pub loop-stroke-preserved : goal.loop-stroke-preserved
loop-stroke-preserved g c =
    let page = c.args.page.now in
    let pens = c.args.pens.now in
    let strokes = c.args.strokes.now in
    let l = c.loop-stroke in
    let s = c.stroke-item.result in
    let others = drop (l.stroke-index + 1) strokes in
    let roles = sym c.put_step.ensures.roles in
    let runs = sym c.put_step.ensures.runs in
    record {
      left = next_put l.invariant.left c.put_step.ensures.puts
          (next_text page pens l.roles l.runs strokes l.stroke-index s c.loop-stroke-test.true c.stroke-item.is
          ∙ (λ i. step_text page pens l.roles l.runs s ++ steps_text page pens (roles i) (runs i) others));
      number = ap (λ (r : Roles). r.before) c.put_step.ensures.roles ∙ one_more pens l.roles s ∙ omega (arith, l.invariant.number);
    }

pub returns : goal.returns
returns g c =
    let l = c.loop-stroke in
    let none = ap (λ (ss : List Segment). steps_text c.args.page.now c.args.pens.now l.roles l.runs ss) (drop_all l.stroke-index c.args.strokes.now c.loop-stroke-test.false) in
    record { puts = last_put l.invariant.left c.put_end.ensures.puts none }
