use Rattle.std.proofs.Common.{ℕ, max, subst}
use Rattle.plot_page.specs.Segments.{Segment}
use Rattle.pieces.specs.Texts.{Puts}
use Rattle.stroke_runs.specs.declared.shown.TheConstants.{LEAST_WIDTH}
use Rattle.svg.specs.Paths.{pen_text}
use Rattle.svg.proofs.paths.put_pen_of.Goals as goal

pub returns : goal.returns
returns g c =
    let inside = c.stroke.inside in
    let state = g.K.Sink.state in
    let text = c.args.text.now in
    let later = c.put_pen.new.text in
    let width = max LEAST_WIDTH c.args.stroke.now.width in
    let wide = subst (λ (wide : ℕ). Puts state text later (pen_text c.from-pen.result inside.colour wide)) c.shown_width.ensures c.put_pen.ensures.puts in
    let named = subst (λ (pen : ℕ). Puts state text later (pen_text pen inside.colour width)) c.from-pen.ensures wide in
    record { puts = subst (λ (stroke : Segment). Puts state text later (pen_text stroke.pen stroke.colour width)) c.stroke.view_is named }
