-- The mask of eight lanes in reversed order is their byte.
use Rattle.std.proofs.Common.{◌≡◌, ℕ, ◌%◌, ◌≤◌, ◌^◌, List, ◌++◌, ◌∷◌, [], Bool, true, false, cond, not, nat_eq, length, get_or, map, replicate, w32, ap, ◌∙◌, arith, refl}
use Rattle.std.specs.Simd.Lanes.{zip2, mask_l, pick_l, top}
use Rattle.std.proofs.lemmas.Simd.{bitmask_splat, pick_l_left}
use Rattle.bit_rows.specs.Bits.{byte_of}

abbrev pub reversed : List ℕ
reversed = 7 ∷ 6 ∷ 5 ∷ 4 ∷ 3 ∷ 2 ∷ 1 ∷ 0 ∷ []

flipped : (b : Bool) → (cond {A = ℕ} b 0 1 ≤ 1) × (cond {A = ℕ} (not b) 1 0 ≡ cond {A = ℕ} b 0 1)
flipped true = (omega arith, refl)
flipped false = (omega arith, refl)

eight_bits : (v : List ℕ) → mask_l (map (λ x. not (nat_eq x 0)) (pick_l 0 v reversed)) ≡ byte_of v
eight_bits v =
    let b0 = flipped (nat_eq (get_or v 0 0) 0) in
    let b1 = flipped (nat_eq (get_or v 1 0) 0) in
    let b2 = flipped (nat_eq (get_or v 2 0) 0) in
    let b3 = flipped (nat_eq (get_or v 3 0) 0) in
    let b4 = flipped (nat_eq (get_or v 4 0) 0) in
    let b5 = flipped (nat_eq (get_or v 5 0) 0) in
    let b6 = flipped (nat_eq (get_or v 6 0) 0) in
    let b7 = flipped (nat_eq (get_or v 7 0) 0) in
    omega (arith, b0.0, b0.1, b1.0, b1.1, b2.0, b2.1, b3.0, b3.1, b4.0, b4.1, b5.0, b5.1, b6.0, b6.1, b7.0, b7.1)

pub mask_is_byte : (v : List ℕ) → length v ≡ 8 → mask_l (map (top 31) (zip2 (λ a b. cond (not (nat_eq a b)) 4294967295 0) (pick_l 0 (v ++ v) reversed) (replicate 8 0))) % 2 ^ 64 ≡ byte_of v
mask_is_byte v long =
    bitmask_splat w32 (λ a b. not (nat_eq a b)) (pick_l 0 (v ++ v) reversed) 8 0 refl (omega arith)
    ∙ ap (λ zs. mask_l (map (λ x. not (nat_eq x 0)) zs)) (pick_l_left 0 v v 8 reversed long tt)
    ∙ eight_bits v
