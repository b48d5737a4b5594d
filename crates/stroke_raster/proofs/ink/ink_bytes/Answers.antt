use Rattle.std.proofs.Common.{◌≡◌, ◌-◌, ◌*◌, ◌/◌, arith, max, min}
use Rattle.stroke_raster.specs.Inks.{IsInked}
use Rattle.stroke_raster.proofs.Inks.{ink_all, ink_none, ink_step, whole_mask}
use Rattle.stroke_raster.proofs.ink.ink_bytes.Goals as goal

pub loop-place-init : goal.loop-place-init
loop-place-init c = ink_step c.args.span.low c.args.span.end (c.args.span.low / 8) c.mask_of-head.result c.args.line.now c.args.line.now (omega arith) (omega arith) (omega arith) c.mask_of-head.ensures (ink_none c.args.span.low c.args.span.end c.args.line.now (omega arith))

pub loop-place-preserved : goal.loop-place-preserved
loop-place-preserved c = ink_step c.args.span.low c.args.span.end c.loop-place.place 255 c.args.line.now c.loop-place.line (omega arith) (omega arith) (omega arith) (whole_mask c.args.span.low c.args.span.end c.loop-place.place (omega arith) (omega arith)) c.loop-place.invariant

pub returns-after-loop-place : goal.returns-after-loop-place
returns-after-loop-place c =
    let e : c.loop-place.place ≡ (c.args.span.end - 1) / 8 = omega arith in
    let inv : IsInked c.args.span.low (min c.args.span.end (max c.args.span.low (8 * ((c.args.span.end - 1) / 8)))) c.args.line.now c.loop-place.line = rw e at c.loop-place.invariant in
    ink_all c.args.span.low _ c.args.span.end _ _ (omega arith) (ink_step c.args.span.low c.args.span.end ((c.args.span.end - 1) / 8) c.mask_of-tail.result c.args.line.now c.loop-place.line (omega arith) (omega arith) (omega arith) c.mask_of-tail.ensures inv)

pub returns-else-first-last : goal.returns-else-first-last
returns-else-first-last c =
    ink_all c.args.span.low _ c.args.span.end _ _ (omega arith) (ink_step c.args.span.low c.args.span.end (c.args.span.low / 8) c.mask_of-head.result c.args.line.now c.args.line.now (omega arith) (omega arith) (omega arith) c.mask_of-head.ensures (ink_none c.args.span.low c.args.span.end c.args.line.now (omega arith)))
