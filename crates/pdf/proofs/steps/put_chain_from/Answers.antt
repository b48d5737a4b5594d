use Rattle.std.proofs.Common.{◌∙◌, Option, Some, ap, sym}
use Rattle.plot_page.specs.Segments.{Segment}
use Rattle.polygons.specs.declared.lines.Rule.{Rule}
use Rattle.pdf.specs.RunTexts.{chain_end_text}
use Rattle.pdf.specs.Steps.{open_chain}
use Rattle.pdf.proofs.Contained.{fills_as, nothing}
use Rattle.pdf.proofs.steps.put_chain_from.Goals as goal

pub returns-in-None : goal.returns-in-None
returns-in-None g c =
    let runs = c.args.path.now.runs in
    record {
      fills = fills_as (nothing c.requires.open) (ap (λ (o : Option Segment). open_chain runs.rule (Some c.args.first.now) o) (sym c.in-None.is ∙ c.last.ensures));
    }

pub returns-in-Some : goal.returns-in-Some
returns-in-Some g c =
    let runs = c.args.path.now.runs in
    let first = c.args.first.now in
    record {
      fills = fills_as c.put_chain_end.ensures.fills
          (ap (λ (o : Option Rule). chain_end_text o first c.in-Some.last) c.rule.ensures ∙ ap (λ (o : Option Segment). open_chain runs.rule (Some first) o) (sym c.in-Some.is ∙ c.last.ensures));
    }
