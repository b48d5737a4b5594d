use Rattle.std.proofs.Common.{List, ℕ, Result, Ok, Err, IfErr, sym, subst}
use Rattle.hpgl_plot.specs.declared.fault.PlotFault.{PlotFault}
use Rattle.picture_job.specs.declared.page_choice.PageChoice.{PageChoice}
use Rattle.plot_page.specs.declared.page.Page.{Page}
use Rattle.conversion.specs.Drawings.{IsReason, IsReasonOnFirst}
use Rattle.conversion.specs.Placements.{IsDrawnOn}
use Rattle.conversion.specs.Rules.{Rules, rules_in}
use Rattle.conversion.specs.declared.place.Drawing.{Drawing}
use Rattle.conversion.specs.declared.placement.Placement.{Placement}
use Rattle.rows.proofs.Faults.{passed_on}
use Rattle.conversion.proofs.place.draw_placed.Goals as goal

-- a refusal for the page that the plot is drawn on first
on_first : (r : Result Drawing PlotFault) (choice : PageChoice) (rules : Rules) (given : Page) (plot : List ℕ) (placement : Placement) (page : Page)
    → IsDrawnOn choice.asked rules given plot placement page → IfErr r (λ fault. IsReason fault (rules.refusal page plot)) → IfErr r (IsReasonOnFirst choice rules given plot)
on_first (Ok drawn) choice rules given plot placement page begun reason = tt
on_first (Err fault) choice rules given plot placement page begun reason = (page, (placement, begun), reason)

pub returns-in_err-lines-clause-refused : goal.returns-in_err-lines-clause-refused
returns-in_err-lines-clause-refused c =
    let rules : Rules = rules_in c.args.setup in
    let first = c.first_page-placement.result in
    subst (λ (r : Result Drawing PlotFault). IfErr r (IsReasonOnFirst c.args.setup.choice rules c.args.page.now c.args.text.now)) (sym (passed_on _ _ c.from_residual.ensures.1))
    (first.1, (first.0, c.first_page-placement.ensures c.args.setup.carousel.now), c.in_err-lines.ensures.refused)
