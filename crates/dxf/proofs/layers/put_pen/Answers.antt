use Rattle.std.proofs.Common.{◌≡◌, ◌++◌, ◌∙◌, ℕ, Option, ap, append_assoc, codes, sym}
use Rattle.pieces.proofs.Texts.{◌then◌, puts_as}
use Rattle.plot_page.specs.declared.colour.Colour.{Colour}
use Rattle.dxf.specs.Groups.{count_group, group}
use Rattle.dxf.specs.Layers.{entry_if, layer_entry, layer_name}
use Rattle.dxf.specs.declared.layers.Layers.{Layers}
use Rattle.dxf.proofs.layers.put_pen.Goals as goal

-- the entry of a pen that has a layer
entry : (layers : Layers) (pen n : ℕ)
    → (group 0 (codes "LAYER") ++ group 2 (layer_name layers pen)) ++ (count_group 70 0 ++ count_group 62 n ++ group 6 (codes "CONTINUOUS"))
    ≡ layer_entry (layer_name layers pen) n
entry layers pen n = simp append_assoc

pub returns : goal.returns
returns g c =
    let layers = c.args.layers.now in
    let pen = c.args.pen in
    let name = layer_name layers pen in
    let found = sym c.in-Some.is ∙ c.colour_of.ensures in
    record {
      puts = puts_as (c.put_group.ensures.puts then c.put_layer.ensures.puts then c.put_rest.ensures.puts)
          (entry layers pen c.colour_number.result
          ∙ ap (λ (n : ℕ). layer_entry name n) c.colour_number.ensures
          ∙ ap (λ (o : Option Colour). entry_if name o) found);
    }
