use Rattle.std.proofs.Common.{◌≡◌, ◌+◌, ◌-◌, ◌++◌, ◌∙◌, ℕ, suc, ap, arith, refl, sym}
use Rattle.pieces.proofs.Texts.{all_left, all_put, next_put}
use Rattle.dxf.specs.Groups.{decimals, next_decimal}
use Rattle.dxf.proofs.groups.put_decimals.Goals as goal

pub loop-place-init : goal.loop-place-init
loop-place-init g c = record { left = all_left c.requires.sound refl; few = c.requires.few }

pub loop-place-preserved : goal.loop-place-preserved
loop-place-preserved g c =
    let l = c.loop-place in
    let less : 7 - l.place ≡ suc (7 - (l.place + 1)) = omega (arith, c.loop-place-test.true) in
    record {
      left = next_put l.invariant.left c.put_decimal.ensures.puts
          (ap (λ (k : ℕ). decimals k l.rest) less
          ∙ ap (λ (n : ℕ). next_decimal l.rest ++ decimals (7 - (l.place + 1)) n) (sym c.after_decimal-rest.ensures.value));
      few = c.after_decimal-rest.ensures.few;
    }

pub returns : goal.returns
returns g c =
    let l = c.loop-place in
    let none : 7 - l.place ≡ 0 = omega (arith, c.loop-place-test.false) in
    record { puts = all_put l.invariant.left (ap (λ (k : ℕ). decimals k l.rest) none) }
