use Rattle.std.proofs.Common.{◌∙◌, ◌<◌, sym, ap, arith, ℕ, [], length, Vec, Global}
use Rattle.std.proofs.lemmas.List.{get_or-map, length-map}
use Rattle.raster_graphics.proofs.planes.Planes.get.Goals as goal

pub returns-then-number-len-clause-short : goal.returns-then-number-len-clause-short
returns-then-number-len-clause-short c =
    let within : c.args.number < length c.self.inside.planes.items = omega arith in
    let short = c.self.invariant c.args.number [] (omega (arith, length-map c.self.inside.planes.items (λ plane. plane.items))) in
    let same = get_or-map (λ plane. plane.items) c.self.inside.planes.items c.args.number c.index.result.now [] within in
    omega (arith, short, ap length (c.as_slice.ensures.value ∙ ap (λ (v : Vec ℕ Global). v.items) c.index.ensures ∙ sym same))
