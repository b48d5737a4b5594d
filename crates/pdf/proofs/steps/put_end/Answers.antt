use Rattle.std.proofs.Common.{◌≡◌, ◌++◌, ◌∙◌, [], Bool, true, cond, Option, ap, rules, sym}
use Rattle.polygons.specs.declared.lines.Rule.{Rule}
use Rattle.stroke_runs.specs.Links.{has_begun}
use Rattle.pdf.specs.RunTexts.{end_text}
use Rattle.pdf.specs.Steps.{path_chain}
use Rattle.pdf.proofs.Contained.{fills_as, nothing, ◌next◌}
use Rattle.pdf.proofs.steps.put_end.Goals as goal

pub returns-then-not-has_begun : goal.returns-then-not-has_begun
returns-then-not-has_begun g c = record { fills = fills_as (nothing c.requires.open) (search rules) }

pub returns : goal.returns
returns g c =
    let path = c.args.path.now in
    let begun : has_begun path.runs ≡ true = search rules in
    record {
      fills = fills_as (c.put_chain.ensures.fills next c.put_paint.ensures.fills)
          (ap (λ (o : Option Rule). path_chain path ++ end_text o) c.rule.ensures ∙ ap (λ (b : Bool). cond b (path_chain path ++ end_text path.runs.rule) []) (sym begun));
    }
