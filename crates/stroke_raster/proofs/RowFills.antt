-- A row of bits in which a span is inked.
use Rattle.std.proofs.Common.{◌≡◌, ℕ, ◌+◌, ◌-◌, ◌*◌, ◌<◌, ◌≤◌, Bool, true, false, ◌&&◌, cond, nat_eq, List, length, refl, ap, ◌∙◌, arith}
use borrow.Rule.Slice.PartMut.{put_mid, mid_of}
use Rattle.stroke_raster.specs.declared.layout.Layout.{Layout}
use Rattle.stroke_raster.specs.Inks.{ink_at, IsInked}
use Rattle.stroke_raster.specs.Spans.{holds}
use Rattle.stroke_raster.proofs.Filled.{one_row}
use Rattle.stroke_raster.proofs.Parts.{row_inked, run_reached}

and_true : (b : Bool) → (b && true) ≡ b
and_true true = refl
and_true false = refl

pub row_filled : (rows stride row low end A K : ℕ) (bits line : List ℕ) → row < rows → low ≤ end → end ≤ 8 * stride → length bits ≡ rows * stride
    → A ≡ row * stride → K ≡ length bits - A → length line ≡ K → IsInked low end (mid_of A K bits) line
    → (r k : ℕ) → r < rows → k < 8 * stride
    → ink_at stride (put_mid A K bits line) r k ≡ cond (nat_eq r row && holds (record { low = low; end = end }) k) 1 (ink_at stride bits r k)
row_filled rows stride row low end A K bits line high order fit len eA eK long inked r k u v =
    let all : low + (end - low) ≡ end = omega (arith, order) in
    let none : low + 0 ≡ low = omega arith in
    let layout : Layout = record { first = 0; rows = rows; stride = stride } in
    let zero : row - 0 ≡ row = omega arith in
    let part : IsInked (low + 0) (low + (end - low)) (mid_of A K bits) line = rw (none, all) inked in
    let reached = run_reached (λ i. true) low (end - low) 0 (end - low) (mid_of A K bits) line (omega arith) (omega arith)
    (λ i l. absurd (omega (arith, l))) (λ i l m. refl) (λ i l m. absurd (omega (arith, l, m))) part in
    let one = row_inked (λ r k. true) (record { first = 0; rows = rows; stride = stride }) row low (end - low) A K bits line (omega arith) (omega (arith, high)) (omega (arith, all, fit)) len
    (rw zero eA) eK long reached r k u v in
    one
    ∙ ap (λ (b : Bool). cond (b && (holds (record { low = low; end = low + (end - low) }) k && true)) 1 (ink_at stride bits r k)) (one_row row r)
    ∙ ap (λ (b : Bool). cond (nat_eq r row && b) 1 (ink_at stride bits r k)) (and_true (holds (record { low = low; end = low + (end - low) }) k))
    ∙ ap (λ (n : ℕ). cond (nat_eq r row && holds (record { low = low; end = n }) k) 1 (ink_at stride bits r k)) all
