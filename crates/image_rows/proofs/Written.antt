-- Bytes that are written into a part of a row.
use Rattle.std.proofs.Common.{◌≡◌, ℕ, ◌+◌, ◌-◌, ◌≤◌, ◌<◌, List, ◌++◌, length, take, drop, replicate, sym, ap, ap₂, ◌∙◌, arith, length-append, length-take, length-drop}
use Rattle.std.proofs.lemmas.List.{take_at, drop_all, drop-drop, append-nil, length-replicate}
use Rattle.std.proofs.lemmas.Bool.{cases_lt}
use Rattle.std.proofs.Common.{◌⊎◌, inl, inr}
use borrow.Rule.Slice.PartMut.{put_mid}
use Rattle.image_rows.specs.Rows.{fitted}
use Rattle.image_rows.specs.Views.{with_bytes}
use Rattle.image_rows.proofs.Fitted.{fitted_is, with_zeros}

-- zeros at the end change nothing after them
past_zeros : (end : ℕ) (row : List ℕ) → drop end (row ++ replicate (end - length row) 0) ≡ drop end row
past_zeros end row = by_length (cases_lt (length row) end)
  where
    by_length : (length row < end) ⊎ (end ≤ length row) → drop end (row ++ replicate (end - length row) 0) ≡ drop end row
    by_length (inl h) =
        drop_all end (row ++ replicate (end - length row) 0) (omega (arith, length-append row (replicate (end - length row) 0), length-replicate {A = ℕ} (end - length row) 0, h))
        ∙ sym (drop_all end row (omega arith))
    by_length (inr h) =
        let none : end - length row ≡ 0 = omega arith in
        ap (λ (n : ℕ). drop end (row ++ replicate n 0)) none ∙ ap (drop end) (append-nil row)

-- a row after bytes were written into it, which was filled up to their end
pub written : (n at end : ℕ) (row xs items ys bytes : List ℕ) → xs ≡ row ++ replicate (end - length row) 0 → at ≤ end → ys ≡ take (end - at) bytes → end ≤ at + length bytes → n ≡ length xs
    → take n (put_mid at (end - at) xs ys ++ drop (length (put_mid at (end - at) xs ys)) items) ≡ with_bytes at end bytes row
written n at end row xs items ys bytes is order new some size =
    let long : end ≤ length xs = omega (arith, ap length is, length-append row (replicate (end - length row) 0), length-replicate {A = ℕ} (end - length row) 0) in
    let part : length ys ≡ end - at = ap length new ∙ omega (arith, length-take (end - at) bytes, some) in
    let whole : length (put_mid at (end - at) xs ys) ≡ n =
    length-append (take at xs) (ys ++ drop (end - at) (drop at xs))
    ∙ omega (arith, length-append ys (drop (end - at) (drop at xs)), length-take at xs, length-drop (end - at) (drop at xs), length-drop at xs, part, long, order, size) in
    take_at (put_mid at (end - at) xs ys) (drop (length (put_mid at (end - at) xs ys)) items) n whole
    ∙ ap₂ (λ (front rest : List ℕ). front ++ (ys ++ rest))
    (ap (take at) is ∙ with_zeros at (end - length row) row (omega arith) ∙ sym (fitted_is at row))
    (drop-drop (end - at) at xs ∙ ap (λ (m : ℕ). drop m xs) (let same : at + (end - at) ≡ end = omega arith in same) ∙ ap (drop end) is ∙ past_zeros end row)
    ∙ ap (λ (z : List ℕ). fitted at row ++ (z ++ drop end row)) new

-- how many bytes are written
pub part_is : (at end : ℕ) (row xs part bytes : List ℕ) → xs ≡ row ++ replicate (end - length row) 0 → at ≤ end → part ≡ take (length (take (end - at) (drop at xs))) bytes → part ≡ take (end - at) bytes
part_is at end row xs part bytes is order new =
    let long : end ≤ length xs = omega (arith, ap length is, length-append row (replicate (end - length row) 0), length-replicate {A = ℕ} (end - length row) 0) in
    let size : length (take (end - at) (drop at xs)) ≡ end - at = length-take (end - at) (drop at xs) ∙ omega (arith, length-drop at xs, long, order) in
    new ∙ ap (λ (n : ℕ). take n bytes) size
