use Rattle.std.proofs.Common.{◌≡◌, ◌∙◌, ap, subst, List, None, Option, OnOk, IfOk, IfErr}
use Rattle.carousel.specs.declared.carousel.Carousel.{Carousel}
use Rattle.hpgl_text.specs.Cut.{cut}
use Rattle.plot_page.specs.Segments.{Segment}
use Rattle.hpgl_plot.specs.declared.fault.PlotFault.{PlotFault}
use Rattle.hpgl_plot.specs.Drawings.{IsRefusal}
use Rattle.hpgl_plot.specs.Strokes.{strokes, strokes_with, refusal, refusal_with}
use Rattle.hpgl_plot.proofs.ByCarousel.{strokes_with_none, refusal_with_none}
use Rattle.hpgl_plot.proofs.drawn.draw_plot.Goals as goal

pub returns-clause-accepted : goal.returns-clause-accepted
returns-clause-accepted c =
    let page = c.args.page.now in
    let items = cut c.args.text.now in
    let same : refusal_with c.empty.result page items ≡ refusal page items =
    ap (λ (k : Carousel). refusal_with k page items) c.empty.ensures ∙ refusal_with_none page items in
    subst (λ (o : Option PlotFault). OnOk c.draw_plot_with.result (o ≡ None)) same c.draw_plot_with.ensures.accepted

pub returns-clause-strokes : goal.returns-clause-strokes
returns-clause-strokes c =
    let page = c.args.page.now in
    let items = cut c.args.text.now in
    let same : strokes_with c.empty.result page items ≡ strokes page items =
    ap (λ (k : Carousel). strokes_with k page items) c.empty.ensures ∙ strokes_with_none page items in
    subst (λ (ss : List Segment). IfOk c.draw_plot_with.result (λ drawn. drawn.strokes.items ≡ ss)) same c.draw_plot_with.ensures.strokes

pub returns-clause-refused : goal.returns-clause-refused
returns-clause-refused c =
    let page = c.args.page.now in
    let items = cut c.args.text.now in
    let same : refusal_with c.empty.result page items ≡ refusal page items =
    ap (λ (k : Carousel). refusal_with k page items) c.empty.ensures ∙ refusal_with_none page items in
    subst (λ (o : Option PlotFault). IfErr c.draw_plot_with.result (λ fault. IsRefusal fault o)) same c.draw_plot_with.ensures.refused
