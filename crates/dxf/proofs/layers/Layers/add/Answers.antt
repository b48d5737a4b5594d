use Rattle.std.proofs.Common.{◌∙◌, Option, Some, ap, cond, is_some, slice_set, sym}
use Rattle.plot_page.specs.declared.colour.Colour.{Colour}
use Rattle.dxf.proofs.layers.Layers.add.Goals as goal

pub returns-in-Some-clause-colours : goal.returns-in-Some-clause-colours
returns-in-Some-clause-colours c =
    let colours = c.args.self.now.colours in
    ap (λ (o : Option Colour). cond (is_some o) colours (slice_set colours c.args.pen (Some c.args.colour))) (sym c.in-Some.is ∙ c.colour_of.ensures)

pub returns-in-None-clause-colours : goal.returns-in-None-clause-colours
returns-in-None-clause-colours c =
    let colours = c.args.self.now.colours in
    (λ i. slice_set colours (c.from.ensures i) (Some c.args.colour))
    ∙ ap (λ (o : Option Colour). cond (is_some o) colours (slice_set colours c.args.pen (Some c.args.colour))) (sym c.in-None.is ∙ c.colour_of.ensures)
