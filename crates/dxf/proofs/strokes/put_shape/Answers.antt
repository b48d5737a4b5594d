use Rattle.std.proofs.Common.{◌∙◌, ◌+◌, ◌-◌, ℕ, List, Option, ap, sym, take}
use Rattle.areas.specs.declared.area.Area.{Area}
use Rattle.pieces.proofs.Texts.{puts_as}
use Rattle.plot_page.specs.Segments.{Segment}
use Rattle.dxf.specs.Steps.{after_area, area_text, shape_after, shape_text}
use Rattle.dxf.proofs.strokes.put_shape.Goals as goal

pub returns-in-Some : goal.returns-in-Some
returns-in-Some g c =
    let layers = c.args.layers.now in
    let pens = c.args.view.now.pens.now in
    let before = c.args.before in
    let i = c.args.i in
    let pending = c.args.pending in
    let rest = c.args.rest.now in
    let found = sym c.in-Some.is ∙ c.beginning_at.ensures in
    let size = c.saturating_sub.ensures ∙ ap (λ (n : ℕ). n - i) c.saturating_sub-done.ensures in
    let edges = c.between-edges.ensures ∙ ap (λ (n : ℕ). take n rest) size in
    let after = c.put_area.ensures.after ∙ ap (λ (es : List Segment). after_area pens pending es) edges in
    record {
      puts = puts_as c.put_area.ensures.puts
          (ap (λ (es : List Segment). area_text layers pens pending es) edges
          ∙ ap (λ (o : Option Area). shape_text layers pens before i pending rest o) found);
      after = (λ j. record { pending = after j; done = c.saturating_sub-done.ensures j })
          ∙ ap (λ (o : Option Area). shape_after pens before i pending rest o) found;
    }

pub returns-in-None : goal.returns-in-None
returns-in-None g c =
    let layers = c.args.layers.now in
    let pens = c.args.view.now.pens.now in
    let before = c.args.before in
    let i = c.args.i in
    let pending = c.args.pending in
    let rest = c.args.rest.now in
    let found = sym c.in-None.is ∙ c.beginning_at.ensures in
    record {
      puts = puts_as c.put_first.ensures.puts (ap (λ (o : Option Area). shape_text layers pens before i pending rest o) found);
      after = (λ j. record { pending = c.put_first.ensures.after j; done = i + 1 })
          ∙ ap (λ (o : Option Area). shape_after pens before i pending rest o) found;
    }
