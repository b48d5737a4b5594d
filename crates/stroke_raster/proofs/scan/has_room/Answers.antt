use Rattle.std.proofs.lemmas.Bool.{leb-true}
use Rattle.std.proofs.Common.{◌+◌, ◌-◌, ◌*◌, ◌/◌, ◌≤◌, arith}
use Rattle.std.proofs.Math.Nat.{mul-le-mul_right}
use Rattle.stroke_raster.proofs.scan.has_room.Goals as goal

pub returns : goal.returns
returns c = λ t row from to.
    let u : c.from-4.result + 8 ≤ (c.from.result + c.from-2.result - c.from-3.result + 1) * c.from-stride.result = leb-true (c.from-4.result + 8) ((c.from.result + c.from-2.result - c.from-3.result + 1) * c.from-stride.result) t in
    let h : c.args.columns.low / 8 + 8 ≤ (c.args.layout.first + c.args.layout.rows - c.args.part.end + 1) * c.args.layout.stride =
    rw (c.from-4.ensures, c.from.ensures, c.from-2.ensures, c.from-3.ensures, c.from-stride.ensures) at u in
    let k : (row - c.args.layout.first + (c.args.layout.first + c.args.layout.rows - c.args.part.end + 1)) * c.args.layout.stride ≤ c.args.layout.rows * c.args.layout.stride =
    mul-le-mul_right c.args.layout.stride (omega (arith, from, to, c.requires.from, c.requires.to)) in
    omega (arith, h, k)
