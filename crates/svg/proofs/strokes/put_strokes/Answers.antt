use Rattle.std.proofs.Common.{◌≡◌, ◌∙◌, List, ap, arith, length}
use Rattle.std.proofs.lemmas.Bool.Decides.{nat_tests}
use Rattle.pieces.proofs.Texts.{none_put, puts_as}
use Rattle.plot_page.specs.Segments.{Segment}
use Rattle.stroke_runs.specs.Links.{at_start}
use Rattle.stroke_runs.specs.Sheets.{between}
use Rattle.svg.specs.Steps.{steps_text}
use Rattle.svg.proofs.Texts.{all_steps, no_steps}
use Rattle.svg.proofs.strokes.put_strokes.Goals as goal

-- how many strokes they are
same_size : (ss ts : List Segment) → ss ≡ ts → length ss ≡ length ts
same_size ss ts h = ap (λ (zs : List Segment). length zs) h

pub returns-then-is_empty : goal.returns-then-is_empty
returns-then-is_empty g c =
    let view = c.args.view.now in
    let same = same_size c.between-strokes.result.now (between view.strokes.now c.args.at c.args.end) c.between-strokes.ensures in
    let none : length (between view.strokes.now c.args.at c.args.end) ≡ 0 = grind (arith, nat_tests, same, c.if-is_empty.true, c.is_empty.ensures) in
    record { puts = puts_as (none_put c.requires.sound) (no_steps view.page.now view.pens.now view.areas c.args.before c.args.at c.args.end view.strokes.now none) }

pub returns : goal.returns
returns g c =
    let view = c.args.view.now in
    record {
      puts = puts_as c.put_each.ensures.puts
          ((λ i. steps_text view.page.now view.pens.now (c.new-roles.ensures i) at_start (c.between-strokes.ensures i))
          ∙ all_steps view.page.now view.pens.now view.areas c.args.before c.args.at c.args.end view.strokes.now);
    }
