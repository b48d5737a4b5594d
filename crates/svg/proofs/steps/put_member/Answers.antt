use Rattle.std.proofs.Common.{◌++◌, ◌∙◌, Option, ap, sym}
use Rattle.pieces.proofs.Texts.{◌then◌, puts_as}
use Rattle.polygons.specs.declared.lines.Rule.{Rule}
use Rattle.stroke_runs.specs.Links.{runs_as}
use Rattle.stroke_runs.specs.declared.runs.Link.{Link}
use Rattle.stroke_runs.specs.declared.runs.Runs.{Runs}
use Rattle.svg.specs.Steps.{begun_text, link_text, open_end}
use Rattle.svg.proofs.steps.put_member.Goals as goal

pub returns-in-Begins-clause-puts : goal.returns-in-Begins-clause-puts
returns-in-Begins-clause-puts g c =
    let page = c.args.page.now in
    let runs = c.args.runs.now in
    let stroke = c.args.stroke.now in
    let rule = c.rule.ensures ∙ ap (λ (r : Runs). r.rule) c.next_as.ensures.after in
    puts_as (c.put_end.ensures.puts then c.put_begun.ensures.puts)
    (ap (λ (o : Option Rule). open_end runs ++ begun_text page o stroke) rule
    ∙ ap (λ (k : Link). link_text page runs (runs_as runs stroke c.args.role).rule k stroke) (sym c.in-Begins.is ∙ c.next_as.ensures.link))
