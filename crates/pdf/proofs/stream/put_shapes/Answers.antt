use Rattle.std.proofs.Common.{◌≡◌, ◌+◌, ◌++◌, ◌∙◌, List, Option, ap, refl, sym, drop, arith}
use Rattle.std.proofs.lemmas.List.{drop_all}
use Rattle.plot_page.specs.Segments.{Segment}
use Rattle.stroke_runs.specs.Roles.{member_if, members_from, roles_after}
use Rattle.stroke_runs.specs.declared.role.Role.{Role}
use Rattle.stroke_runs.specs.declared.roles.Roles.{Roles}
use Rattle.pdf.specs.RunTexts.{head_text}
use Rattle.pdf.specs.Steps.{step_text, steps_text}
use Rattle.pdf.proofs.Contained.{all_remain, last_filled, next_filled}
use Rattle.pdf.proofs.Contents.{next_of, one_before, step_taken, whole}
use Rattle.pdf.proofs.stream.put_shapes.Goals as goal

pub loop-stroke-init : goal.loop-stroke-init
loop-stroke-init g c =
    let sheet = c.args.sheet.now in
    let page = sheet.page.now in
    let pens = sheet.pens.now in
    let strokes = sheet.strokes.now in
    record {
      remains = next_filled (all_remain c.requires.open
          ((λ i. head_text page ++ steps_text page (c.new-path.ensures i) (members_from pens (c.new-roles.ensures i) strokes)) ∙ whole page pens sheet.areas sheet.from strokes)) c.put_head.ensures.fills refl;
      before = ap (λ (r : Roles). r.before) c.new-roles.ensures ∙ (let e : sheet.from ≡ sheet.from + 0 = omega arith in e);
    }

pub loop-stroke-preserved : goal.loop-stroke-preserved
loop-stroke-preserved g c =
    let sheet = c.args.sheet.now in
    let page = sheet.page.now in
    let pens = sheet.pens.now in
    let strokes = sheet.strokes.now in
    let l = c.loop-stroke in
    let i = l.stroke-index in
    let s = c.stroke-item.result in
    let role = c.next-role.ensures.role in
    let rest = members_from pens (roles_after pens l.roles s) (drop (i + 1) strokes) in
    record {
      remains = next_filled l.invariant.remains c.put_step.ensures.fills
          (ap (λ (ss : List Segment). steps_text page l.path (members_from pens l.roles ss)) (next_of strokes i s c.loop-stroke-test.true c.stroke-item.is)
          ∙ ap (λ (o : Option Role). steps_text page l.path (member_if o s ++ rest)) (sym role)
          ∙ step_taken page l.path c.next-role.result s rest
          ∙ (λ j. step_text page l.path c.next-role.result s ++ steps_text page (sym c.put_step.ensures.after j) (members_from pens (sym c.next-role.ensures.after j) (drop (i + 1) strokes))));
      before = ap (λ (r : Roles). r.before) c.next-role.ensures.after ∙ one_before pens l.roles s ∙ (let e : l.roles.before + 1 ≡ sheet.from + (i + 1) = omega (arith, l.invariant.before) in e);
    }

pub next-role-requires : goal.next-role-requires
next-role-requires g c =
    let l = c.loop-stroke in
    omega (arith, l.invariant.before, c.loop-stroke-test.true, c.args.sheet.now.few)

pub returns : goal.returns
returns g c =
    let sheet = c.args.sheet.now in
    let l = c.loop-stroke in
    record {
      fills = last_filled l.invariant.remains c.put_end.ensures.fills
          (ap (λ (ss : List Segment). steps_text sheet.page.now l.path (members_from sheet.pens.now l.roles ss)) (drop_all l.stroke-index sheet.strokes.now c.loop-stroke-test.false));
    }
