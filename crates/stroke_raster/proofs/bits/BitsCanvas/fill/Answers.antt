use Rattle.std.proofs.Common.{rules, ◌≡◌, ◌+◌, ◌-◌, ◌*◌, ◌<◌, ◌≤◌, ◌&&◌, ℕ, List, Bool, true, false, cond, min, nat_eq, length, refl, ap, ◌∙◌, arith}
use Rattle.std.proofs.lemmas.Nat.{mul-le}
use borrow.Rule.Slice.PartMut.{put_mid}
use Rattle.stroke_raster.specs.Inks.{ink_at}
use Rattle.stroke_raster.specs.Spans.{holds}
use Rattle.stroke_raster.proofs.Middle.{mid_length}
use Rattle.stroke_raster.proofs.RowFills.{row_filled}
use Rattle.stroke_raster.proofs.Spans.{holds_after}
use Rattle.stroke_raster.proofs.Written.{whole}
use Rattle.stroke_raster.proofs.bits.BitsCanvas.fill.Goals as goal

-- what each bit of the rows is then
inked : (c : goal.After-self-1) (r k : ℕ) → r < c.args.self.now.rows → k < 8 * c.args.self.now.stride
    → ink_at c.args.self.now.stride (put_mid (c.args.row * c.args.self.now.stride) (length c.as_mut_slice.result.now - c.args.row * c.args.self.now.stride) c.as_mut_slice.result.now c.ink_run.new.line) r k
    ≡ cond (nat_eq r c.args.row && holds c.args.span k) 1 (ink_at c.args.self.now.stride c.args.self.now.bytes.items r k)
inked c r k u v =
    let b = c.args.self.now in
    let sound = c.requires.sound in
    let fits : c.args.span.end ≤ 8 * c.args.self.now.stride = omega (arith, c.requires.wide, sound.stride_is) in
    let len : length c.as_mut_slice.result.now ≡ c.args.self.now.rows * c.args.self.now.stride = ap length c.as_mut_slice.ensures.value ∙ sound.size in
    let p : (c.args.row + 1) * c.args.self.now.stride ≤ c.args.self.now.rows * c.args.self.now.stride = mul-le (c.args.row + 1) c.args.self.now.stride c.args.self.now.rows c.args.self.now.stride (omega (arith, c.requires.tall)) (omega arith) in
    let K : ℕ = length c.as_mut_slice.result.now - c.args.row * c.args.self.now.stride in
    let long : length c.ink_run.new.line ≡ length c.as_mut_slice.result.now - c.args.row * c.args.self.now.stride =
    c.ink_run.auto.line ∙ mid_length (c.args.row * c.args.self.now.stride) (length c.as_mut_slice.result.now - c.args.row * c.args.self.now.stride) c.as_mut_slice.result.now (omega (arith, p, len)) in
    row_filled c.args.self.now.rows c.args.self.now.stride c.args.row c.args.span.low c.args.span.end (c.args.row * c.args.self.now.stride) (length c.as_mut_slice.result.now - c.args.row * c.args.self.now.stride)
    c.as_mut_slice.result.now c.ink_run.new.line c.requires.tall c.requires.order fits len refl refl long c.ink_run.ensures r k u v
    ∙ ap (λ (bytes : List ℕ). cond (nat_eq r c.args.row && holds c.args.span k) 1 (ink_at c.args.self.now.stride bytes r k)) c.as_mut_slice.ensures.value

pub returns-clause-sound : goal.returns-clause-sound
returns-clause-sound c =
    let sound = c.requires.sound in
    rw (whole (put_mid (c.args.row * c.args.self.now.stride) (length c.as_mut_slice.result.now - c.args.row * c.args.self.now.stride) c.as_mut_slice.result.now c.ink_run.new.line) _ c.args.self.now.bytes.len (search rules))
    (record {
      stride_is = sound.stride_is;
      stride_small = sound.stride_small;
      size = search rules;
      after = λ r k u v w. let e = holds_after c.args.span k (omega (arith, c.requires.wide, v)) in
          inked c r k u w ∙ rw e (either (nat_eq r c.args.row) _) ∙ sound.after r k u v w;
    })
  where
    either : (b : Bool) (x : ℕ) → cond (b && false) 1 x ≡ x
    either true x = refl
    either false x = refl

pub returns-clause-pixels : goal.returns-clause-pixels
returns-clause-pixels c = λ r k u v.
    let one : min 1 c.args.position ≡ 1 = omega (arith, c.requires.counted) in
    rw (whole (put_mid (c.args.row * c.args.self.now.stride) (length c.as_mut_slice.result.now - c.args.row * c.args.self.now.stride) c.as_mut_slice.result.now c.ink_run.new.line) _ c.args.self.now.bytes.len (search rules), one)
    (inked c r k u (omega (arith, v, c.requires.sound.stride_is)))
