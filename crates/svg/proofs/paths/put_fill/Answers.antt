use Rattle.std.proofs.Common.{◌∙◌, Option, Some, ap, sym}
use Rattle.pieces.proofs.Texts.{◌then◌, puts_as}
use Rattle.polygons.specs.declared.lines.Rule.{Rule}
use Rattle.svg.specs.Numbers.{colour_digits}
use Rattle.svg.specs.Paths.{fill_text}
use Rattle.svg.proofs.paths.put_fill.Goals as goal

pub returns-in-OddCounts : goal.returns-in-OddCounts
returns-in-OddCounts g c =
    let colour = puts_as c.put-2.ensures.puts c.colour_digits.ensures in
    let rule = sym (c.in-Some.is ∙ ap (λ (r : Rule). Some r) c.in-OddCounts.is) in
    record { puts = puts_as (c.put.ensures.puts then colour then c.put-in-OddCounts.ensures.puts) (ap (λ (o : Option Rule). fill_text o (colour_digits c.args.colour)) rule) }

pub returns-in-Winding : goal.returns-in-Winding
returns-in-Winding g c =
    let colour = puts_as c.put-2.ensures.puts c.colour_digits.ensures in
    let rule = sym (c.in-Some.is ∙ ap (λ (r : Rule). Some r) c.in-Winding.is) in
    record { puts = puts_as (c.put.ensures.puts then colour then c.put-in-Winding.ensures.puts) (ap (λ (o : Option Rule). fill_text o (colour_digits c.args.colour)) rule) }
