use Rattle.std.proofs.Common.{Option, ap}
use Rattle.pieces.proofs.Texts.{◌then◌, puts_as}
use Rattle.plot_page.specs.declared.colour.Colour.{Colour}
use Rattle.dxf.specs.Layers.{colour_group}
use Rattle.dxf.proofs.layers.put_layer_groups.Goals as goal

pub returns : goal.returns
returns g c =
    let colour = puts_as c.put_colour.ensures.puts (ap (λ (o : Option Colour). colour_group c.args.colour o) c.colour_of.ensures) in
    record { puts = c.put_layer.ensures.puts then colour }
