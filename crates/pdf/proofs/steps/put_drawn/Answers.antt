use Rattle.std.proofs.Common.{◌++◌, ◌∙◌, Option, ap, sym}
use Rattle.polygons.specs.declared.lines.Rule.{Rule}
use Rattle.stroke_runs.specs.declared.runs.Link.{Link}
use Rattle.stroke_runs.specs.Links.{runs_as}
use Rattle.pdf.specs.declared.path.Path.{Path}
use Rattle.pdf.specs.RunTexts.{begin_text}
use Rattle.pdf.specs.Steps.{link_text, open_end}
use Rattle.pdf.proofs.Contained.{fills_as, ◌next◌}
use Rattle.pdf.proofs.steps.put_drawn.Goals as goal

pub returns-in-Begins-clause-fills : goal.returns-in-Begins-clause-fills
returns-in-Begins-clause-fills g c =
    let page = c.args.page.now in
    let path = c.args.path.now in
    let stroke = c.args.stroke.now in
    let rule = c.rule.ensures ∙ ap (λ (p : Path). p.runs.rule) c.next.ensures.after in
    let link = sym c.in-Begins.is ∙ c.next.ensures.link in
    fills_as (c.put_end.ensures.fills next c.put_begun.ensures.fills)
    (ap (λ (o : Option Rule). open_end path ++ begin_text page o stroke) rule
    ∙ ap (λ (k : Link). link_text page path (runs_as path.runs stroke c.args.role).rule k stroke) link)

pub returns-in-Apart-clause-fills : goal.returns-in-Apart-clause-fills
returns-in-Apart-clause-fills g c =
    let page = c.args.page.now in
    let path = c.args.path.now in
    let stroke = c.args.stroke.now in
    let link = sym c.in-Apart.is ∙ c.next.ensures.link in
    fills_as (c.put_chain.ensures.fills next c.put_stroke.ensures.fills)
    (ap (λ (k : Link). link_text page path (runs_as path.runs stroke c.args.role).rule k stroke) link)
