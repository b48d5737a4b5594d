use Rattle.std.proofs.Common.{◌≡◌, ◌∙◌, ap, arith, [], length, get_or}
use Rattle.std.proofs.lemmas.List.{take_all}
use Rattle.raster_graphics.specs.Lengths.{longest}
use Rattle.raster_graphics.proofs.Lengths.{longest_more, longest_none}
use Rattle.raster_graphics.proofs.planes.Planes.longest.Goals as goal

pub loop-number-init : goal.loop-number-init
loop-number-init c = record { end = c.len-number-end.ensures; most = longest_none c.args.self.now }

pub loop-number-preserved : goal.loop-number-preserved
loop-number-preserved c =
    let more = longest_more c.args.self.now c.loop-number.number (omega
    (arith, c.loop-number-test.true, c.loop-number.invariant.end)) in
    let here : length c.get.result.now ≡ length (get_or c.args.self.now c.loop-number.number []) = ap length c.get.ensures.plane in
    record { end = c.loop-number.invariant.end; most = grind (arith, more, here, c.loop-number.invariant.most) }

pub returns : goal.returns
returns c =
    c.loop-number.invariant.most ∙ ap longest (take_all c.loop-number.number c.args.self.now (omega
    (arith, c.loop-number-test.false, c.loop-number.invariant.end)))
