use Rattle.std.proofs.Common.{◌∙◌, ℕ, Option, ap, sym}
use Rattle.pieces.proofs.Texts.{puts_as}
use Rattle.plot_page.specs.declared.colour.Colour.{Colour}
use Rattle.dxf.specs.Groups.{count_group}
use Rattle.dxf.specs.Layers.{colour_group}
use Rattle.dxf.proofs.layers.put_colour.Goals as goal

pub returns-in-Some : goal.returns-in-Some
returns-in-Some g c = record { puts = puts_as c.put_other.ensures.puts (ap (λ (o : Option Colour). colour_group c.args.own o) (sym c.in-Some.is)) }

pub returns-in-None : goal.returns-in-None
returns-in-None g c =
    record {
      puts = puts_as c.put_count.ensures.puts
          (ap (λ (n : ℕ). count_group 62 n) c.colour_number.ensures ∙ ap (λ (o : Option Colour). colour_group c.args.own o) (sym c.in-None.is));
    }
