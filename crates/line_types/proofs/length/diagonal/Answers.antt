use Rattle.std.proofs.Common.{arith, ◌^◌, ◌<◌}
use Rattle.std.proofs.lemmas.Int.{ints}
use Rattle.line_types.proofs.Sizes.{root_in}
use Rattle.line_types.proofs.length.diagonal.Goals as goal

pub returns-clause-most : goal.returns-clause-most
returns-clause-most c =
    let b : c.root.result < 2 ^ 40 = root_in c.root.result 16777216 c.from-d.result c.from-e.result (2 ^ 26) c.root.ensures.square_in (omega (arith, ints)) (omega (arith, ints)) (2 ^ 40) (omega arith) in
    omega arith
