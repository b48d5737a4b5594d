use Rattle.std.proofs.Common.{◌≡◌, ◌∙◌, ◌+◌, ◌-◌, ℕ, take, drop, refl, sym, ap, arith}
use Rattle.std.proofs.Math.Seq.{take-add}
use Rattle.crc32.specs.Crc.{remainder}
use Rattle.crc32.proofs.Division.{remainder_twice}
use Rattle.crc32.proofs.crc.after_eights.Goals as goal

pub loop-at-init : goal.loop-at-init
unfolding remainder
loop-at-init c = record { within = omega arith; whole = refl; so_far = refl }

pub loop-at-preserved : goal.loop-at-preserved
loop-at-preserved c = record {
  within = omega (arith, c.loop-at.invariant.whole, c.requires);
  whole = omega (arith, c.loop-at.invariant.whole);
  so_far = c.after_eight-result.ensures ∙ ap (λ (z : ℕ). remainder z (take (c.loop-at.at + 8 - c.loop-at.at) (drop c.loop-at.at c.args.bytes.now))) c.loop-at.invariant.so_far
      ∙ remainder_twice c.args.remainder (take (c.loop-at.at + 8) c.args.bytes.now) (take c.loop-at.at c.args.bytes.now) (take (c.loop-at.at + 8 - c.loop-at.at) (drop c.loop-at.at c.args.bytes.now))
      (sym (take-add c.loop-at.at (c.loop-at.at + 8 - c.loop-at.at) c.args.bytes.now) ∙ ap (λ (n : ℕ). take n c.args.bytes.now) (let e : c.loop-at.at + (c.loop-at.at + 8 - c.loop-at.at) ≡ c.loop-at.at + 8 = omega arith in e));
}
