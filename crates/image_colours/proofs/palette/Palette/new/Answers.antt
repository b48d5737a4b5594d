use Rattle.std.proofs.Common.{◌∙◌, arith, length-set}
use Rattle.std.proofs.lemmas.List.{length-replicate}
use Rattle.std.proofs.lemmas.List.FromFn.{fill_by_all}
use Rattle.image_colours.specs.Palettes.{black, starting, start}
use Rattle.image_colours.proofs.Indices.{set_more}
use Rattle.image_colours.proofs.palette.Palette.new.Goals as goal

pub loop-index-init : goal.loop-index-init
loop-index-init c = record { sized = length-replicate 256 black; filled = λ k h. absurd (omega arith) }

pub loop-index-preserved : goal.loop-index-preserved
loop-index-preserved c = record {
  sized = length-set _ _ _ ∙ c.loop-index.invariant.sized;
  filled = set_more (starting c.args.coding) c.loop-index.colours c.loop-index.index c.starting.result (omega
      (arith, c.loop-index.invariant.sized, c.loop-index-test.true)) c.starting.ensures c.loop-index.invariant.filled;
}

pub returns : goal.returns
unfolding start
returns c = fill_by_all (starting c.args.coding) c.loop-index.colours 256 black c.loop-index.invariant.sized
    (λ k h. c.loop-index.invariant.filled k (omega (arith, c.loop-index-test.false, h)))
