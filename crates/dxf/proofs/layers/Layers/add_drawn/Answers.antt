use Rattle.std.proofs.Common.{◌∙◌, Bool, ap, cond, sym}
use Rattle.plot_page.specs.Segments.{Segment}
use Rattle.dxf.specs.Layers.{with_stroke}
use Rattle.dxf.proofs.layers.Layers.add_drawn.Goals as goal

pub returns-then-is_drawn-clause-colours : goal.returns-then-is_drawn-clause-colours
returns-then-is_drawn-clause-colours c =
    let colours = c.args.self.now.colours in
    c.add.ensures.colours
    ∙ ap (λ (s : Segment). with_stroke colours s) c.stroke.view_is
    ∙ ap (λ (b : Bool). cond b (with_stroke colours c.args.stroke.now) colours) (sym (sym c.is_drawn.ensures ∙ c.if-is_drawn.true))
