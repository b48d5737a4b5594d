use Rattle.std.proofs.Common.{◌≡◌, ◌∙◌, ap, ap₂, subst, sym, ℕ, [], ◌∷◌, Option, Some, true, false}
use Rattle.plot_page.specs.Segments.{Segment}
use Rattle.hpgl_plot.specs.Inks.{draws_nothing}
use Rattle.hpgl_plot.specs.Machine as core
use Rattle.hpgl_plot.specs.Strokes.{pen_width, stroke}
use Rattle.hpgl_plot.specs.declared.state.State.{State}
use Rattle.hpgl_plot.proofs.Travels.{stopped}
use Rattle.full_plot.specs.Bold.{bold_line, bold_width, bolder}
use Rattle.full_plot.proofs.BoldLines.{bold_made, bold_out_first, bold_out_second}
use Rattle.full_plot.proofs.Solid.{same_stroke}
use Rattle.full_plot.proofs.bold.bold_line.Goals as goal

pub returns-in_err-begin : goal.returns-in_err-begin
returns-in_err-begin c =
    let w = core.seen c.args.plotter.now in
    stopped (core.travelled w true (c.args.from ∷ [])) (bold_line w (c.args.from ∷ (c.args.to ∷ []))) w w c.in_err-begin.field-0.0
    c.from_residual.result (bold_out_first w c.args.from c.args.to) (c.in_err-begin.ensures.runs true) c.from_residual.ensures.1

pub returns-in_err-begin-2 : goal.returns-in_err-begin-2
returns-in_err-begin-2 c =
    let w = core.seen c.args.plotter.now in
    stopped (core.travelled w true (c.args.to ∷ [])) (bold_line w (c.args.from ∷ (c.args.to ∷ []))) w w c.in_err-begin-2.field-0.0
    c.from_residual-in_err-begin-2.result (bold_out_second w c.args.from c.args.to) (c.in_err-begin-2.ensures.runs true)
    c.from_residual-in_err-begin-2.ensures.1

pub returns : goal.returns
returns c =
    let w = core.seen c.args.plotter.now in
    let v = core.seen c.keep_if_room.new.plotter in
    let s : State = w.state in
    let draws : draws_nothing s ≡ false = sym c.draws_nothing.ensures.value ∙ c.if-draws_nothing.false in
    let width : c.bold_width-width.result ≡ bold_width (pen_width s) = c.bold_width-width.ensures.value ∙ ap bold_width c.width_of.ensures.value in
    let same : c.line_of_width-stroke.result ≡ bolder (stroke s c.args.from c.args.to) =
    c.line_of_width-stroke.ensures
    ∙ ap₂ (λ (l : Segment) (n : ℕ). record l { width = n }) (same_stroke s c.args.from c.args.to draws) width in
    let made = bold_made w w w c.args.from c.args.to (c.in_ok-begin.ensures.runs true) (c.in_ok-begin-2.ensures.runs true) draws in
    subst (λ (o : Option core.World). core.Runs o v c.keep_if_room.result)
    (ap (λ (l : Segment). Some (core.with_strokes w s (l ∷ []))) same ∙ sym made) c.keep_if_room.ensures
