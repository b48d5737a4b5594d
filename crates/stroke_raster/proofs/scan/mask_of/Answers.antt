use Rattle.std.proofs.Common.{◌≡◌, ◌∙◌, ap}
use Rattle.stroke_raster.specs.declared.vector.Vector.{Vector}
use Rattle.stroke_raster.specs.Shorts.{is_short_met}
use Rattle.stroke_raster.specs.Traces.{rightward}
use Rattle.stroke_raster.proofs.ScanLemmas.{mask_step}
use Rattle.stroke_raster.proofs.scan.mask_of.Goals as goal

pub loop-i-preserved : goal.loop-i-preserved
loop-i-preserved c =
    let met : c.short_stroke_meets-is_met.result ≡ is_short_met c.args.short.now (rightward c.args.start c.loop-i.i) =
    c.short_stroke_meets-is_met.ensures ∙ ap (λ (w : Vector). is_short_met c.args.short.now w) c.pixel_at.ensures.value in
    let s = mask_step c.args.short.now c.args.start c.loop-i.i c.loop-i.mask c.short_stroke_meets-is_met.result met c.loop-i.invariant.small c.loop-i.invariant.bits in
    rw c.from.ensures record { small = s.0; bits = s.1 }
