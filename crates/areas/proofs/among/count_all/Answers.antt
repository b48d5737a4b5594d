use Rattle.std.proofs.Common.{◌≡◌, ◌<◌, ◌∙◌, ap, get_or, length, set, arith}
use Rattle.std.proofs.lemmas.List.{get_or_default}
use Rattle.std.proofs.lemmas.List.Edits.{map_over_more}
use Rattle.areas.specs.Shapes.{counted}
use Rattle.areas.specs.declared.area.Area.{Area}
use Rattle.areas.proofs.Apart.{nothing}
use Rattle.areas.proofs.among.count_all.Goals as goal

pub loop-area-preserved : goal.loop-area-preserved
loop-area-preserved c =
    let i = c.loop-area.area-index in
    let areas = c.loop-area.areas in
    let f : Area → Area = counted c.args.before in
    let area : Area = get_or areas i nothing in
    let within : i < length areas = omega (arith, c.loop-area-test.true, c.loop-area.auto.areas) in
    let read : c.counted.result ≡ f area = c.counted.ensures ∙ ap f (get_or_default areas i _ nothing within) in
    ap (set areas i) read
    ∙ map_over_more f c.args.areas.now areas i area c.loop-area-test.true c.loop-area.invariant (get_or_default areas i nothing area within)
