use Rattle.std.proofs.Common.{rules, ◌≡◌, ◌+◌, ◌-◌, ◌*◌, ◌/◌, ◌%◌, ◌<◌, ◌≤◌, ◌&&◌, ℕ, List, cond, nat_eq, length, get_or, set, refl, ap, ◌∙◌, arith}
use Rattle.std.proofs.lemmas.Nat.{div-mul-add, mod-mul-add, mul-le}
use borrow.Rule.Slice.PartMut.{put_mid}
use Rattle.stroke_raster.specs.Spans.{Spanned, holds, none}
use Rattle.stroke_raster.proofs.Canvases.{held}
use Rattle.stroke_raster.proofs.Middle.{mid_length}
use Rattle.stroke_raster.proofs.Spans.{holds_after, holds_before, part_step, spanned_painted}
use Rattle.stroke_raster.proofs.Written.{whole}
use Rattle.stroke_raster.proofs.cells.CellsCanvas.fill.Goals as goal

-- what each cell is then
written : (c : goal.After-self-2-1) (q : ℕ) → q < length c.as_mut_slice-cells.result.now
    → get_or (put_mid (c.args.row * c.args.self.now.columns + c.args.span.low) (c.args.row * c.args.self.now.columns + c.args.span.end - (c.args.row * c.args.self.now.columns + c.args.span.low)) c.as_mut_slice-cells.result.now c.fill.new.cells) q 0
    ≡ cond (nat_eq (q / c.args.self.now.columns) c.args.row && holds c.args.span (q % c.args.self.now.columns)) c.args.position (get_or c.as_mut_slice-cells.result.now q 0)
written c q u =
    let sound = c.requires.sound in
    let p : (c.args.row + 1) * c.args.self.now.columns ≤ c.args.self.now.rows * c.args.self.now.columns = mul-le (c.args.row + 1) c.args.self.now.columns c.args.self.now.rows c.args.self.now.columns (omega (arith, c.requires.tall)) (omega arith) in
    let len : length c.as_mut_slice-cells.result.now ≡ c.args.self.now.rows * c.args.self.now.columns = ap length c.as_mut_slice-cells.ensures.value ∙ sound.wide in
    let fit : c.args.row * c.args.self.now.columns + c.args.span.end ≤ length c.as_mut_slice-cells.result.now = omega (arith, p, len, c.requires.wide) in
    let A : ℕ = c.args.row * c.args.self.now.columns + c.args.span.low in
    let K : ℕ = c.args.row * c.args.self.now.columns + c.args.span.end - (c.args.row * c.args.self.now.columns + c.args.span.low) in
    let eK : c.args.row * c.args.self.now.columns + c.args.span.end - (c.args.row * c.args.self.now.columns + c.args.span.low) ≡ c.args.span.end - c.args.span.low = omega arith in
    let long : length c.fill.new.cells ≡ c.args.row * c.args.self.now.columns + c.args.span.end - (c.args.row * c.args.self.now.columns + c.args.span.low) =
    c.fill.auto.cells ∙ mid_length (c.args.row * c.args.self.now.columns + c.args.span.low) (c.args.row * c.args.self.now.columns + c.args.span.end - (c.args.row * c.args.self.now.columns + c.args.span.low)) c.as_mut_slice-cells.result.now (omega (arith, fit, c.requires.order)) in
    part_step (λ k. holds c.args.span k) c.args.position c.args.row c.args.self.now.columns c.args.span.low c.args.span.end (c.args.row * c.args.self.now.columns + c.args.span.low)
    (c.args.row * c.args.self.now.columns + c.args.span.end - (c.args.row * c.args.self.now.columns + c.args.span.low)) c.as_mut_slice-cells.result.now c.fill.new.cells
    sound.some c.requires.order c.requires.wide fit refl eK (λ k l. holds_before c.args.span k l) (λ k l m. holds_after c.args.span k l) long
    (λ i l. let t = held c.args.span (c.args.span.low + i) (omega arith) (omega (arith, l, eK)) in rw t (c.fill.ensures.inside i (omega arith) (omega (arith, l, eK))))
    q u

pub returns-clause-sound : goal.returns-clause-sound
returns-clause-sound c =
    let sound = c.requires.sound in
    let spanned : Spanned c.args.self.now.columns c.as_mut_slice-spans.result.now c.as_mut_slice-cells.result.now = rw (c.as_mut_slice-spans.ensures.value, c.as_mut_slice-cells.ensures.value) sound.spanned in
    let tall : length c.as_mut_slice-spans.result.now ≡ c.args.self.now.rows = ap length c.as_mut_slice-spans.ensures.value ∙ sound.tall in
    let in_ : c.args.row < length c.as_mut_slice-spans.result.now = omega (arith, tall, c.requires.tall) in
    let high = spanned.high c.args.row in_ in
    let set_length : length (set c.as_mut_slice-spans.result.now c.args.row c.joined.result) ≡ length c.as_mut_slice-spans.result.now = search rules in
    rw (
      whole (set c.as_mut_slice-spans.result.now c.args.row c.joined.result) _ c.args.self.now.spans.len (search rules),
      whole (put_mid (c.args.row * c.args.self.now.columns + c.args.span.low) (c.args.row * c.args.self.now.columns + c.args.span.end - (c.args.row * c.args.self.now.columns + c.args.span.low)) c.as_mut_slice-cells.result.now c.fill.new.cells) _ c.args.self.now.cells.len (search rules),
    )
    (record {
      some = sound.some;
      tall = set_length ∙ tall;
      wide = search rules;
      spanned = spanned_painted (λ k. holds c.args.span k) c.args.self.now.columns c.args.row c.args.position c.as_mut_slice-spans.result.now (get_or c.as_mut_slice-spans.result.now c.args.row none) c.joined.result c.args.span
          c.as_mut_slice-cells.result.now _ sound.some spanned in_ refl c.joined.ensures.order (omega (arith, c.joined.ensures.high, high, c.requires.wide)) (search rules)
          (λ q u. written c q u) c.joined.ensures.first c.joined.ensures.second (λ k u e. e) set_length;
    })

pub returns-clause-pixels : goal.returns-clause-pixels
returns-clause-pixels c = λ r k u v.
    let w : (r + 1) * c.args.self.now.columns ≤ c.args.self.now.rows * c.args.self.now.columns = mul-le (r + 1) c.args.self.now.columns c.args.self.now.rows c.args.self.now.columns (omega (arith, u)) (omega arith) in
    let len : length c.as_mut_slice-cells.result.now ≡ c.args.self.now.rows * c.args.self.now.columns = ap length c.as_mut_slice-cells.ensures.value ∙ c.requires.sound.wide in
    let d = div-mul-add r c.args.self.now.columns k v in
    let m = mod-mul-add r c.args.self.now.columns k v in
    let p = rw (d, m) at (written c (r * c.args.self.now.columns + k) (omega (arith, w, v, len))) in
    rw (whole (put_mid (c.args.row * c.args.self.now.columns + c.args.span.low) (c.args.row * c.args.self.now.columns + c.args.span.end - (c.args.row * c.args.self.now.columns + c.args.span.low)) c.as_mut_slice-cells.result.now c.fill.new.cells) _ c.args.self.now.cells.len (search rules))
    (p ∙ ap (λ (cells : List ℕ). cond (nat_eq r c.args.row && holds c.args.span k) c.args.position (get_or cells (r * c.args.self.now.columns + k) 0)) c.as_mut_slice-cells.ensures.value)
