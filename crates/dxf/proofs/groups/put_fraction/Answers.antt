use Rattle.std.proofs.Common.{◌≡◌, ◌++◌, [], Bool, false, ap, arith, codes, cond, nat_eq, sym}
use Rattle.std.proofs.lemmas.Bool.Decides.{nat_tests}
use Rattle.pieces.proofs.Texts.{◌then◌, puts_as}
use Rattle.dxf.specs.Groups.{decimals}
use Rattle.dxf.proofs.groups.put_fraction.Goals as goal

pub returns : goal.returns
returns g c =
    let parts = c.args.parts in
    let some : nat_eq parts 0 ≡ false = grind (arith, nat_tests, c.if-parts-eq0.false) in
    record {
      puts = puts_as (c.put.ensures.puts then c.put_decimals.ensures.puts)
          (ap (λ (b : Bool). cond b [] (codes "." ++ decimals 7 parts)) (sym some));
    }
