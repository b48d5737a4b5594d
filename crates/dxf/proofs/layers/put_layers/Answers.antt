use Rattle.std.proofs.Common.{◌≡◌, ◌+◌, ◌-◌, ℕ, suc, ap, arith, refl}
use Rattle.pieces.proofs.Texts.{all_left, all_put, next_put, puts_as}
use Rattle.dxf.specs.Layers.{pen_entries, pen_entry}
use Rattle.dxf.proofs.layers.put_layers.Goals as goal

pub loop-place-init : goal.loop-place-init
loop-place-init g c = record { left = all_left c.requires.sound refl; pen = refl }

pub loop-place-preserved : goal.loop-place-preserved
loop-place-preserved g c =
    let l = c.loop-place in
    let layers = c.args.layers.now in
    let less : 255 - l.place ≡ suc (255 - (l.place + 1)) = omega (arith, c.loop-place-test.true) in
    record {
      left = next_put l.invariant.left (puts_as c.put_pen.ensures.puts (ap (λ (n : ℕ). pen_entry layers (n + 1)) l.invariant.pen))
          (ap (λ (k : ℕ). pen_entries layers (l.place + 1) k) less);
      pen = ap (λ (n : ℕ). n + 1) l.invariant.pen;
    }

pub returns : goal.returns
returns g c =
    let l = c.loop-place in
    let none : 255 - l.place ≡ 0 = omega (arith, c.loop-place-test.false) in
    record { puts = all_put l.invariant.left (ap (λ (k : ℕ). pen_entries c.args.layers.now (l.place + 1) k) none) }
