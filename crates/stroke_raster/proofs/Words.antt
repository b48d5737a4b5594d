-- Eight bytes of a row as one word.
use Rattle.std.proofs.Common.{◌≡◌, ℕ, zero, suc, ◌+◌, ◌-◌, ◌*◌, ◌/◌, ◌%◌, ◌<◌, ◌≤◌, ◌^◌, arith, refl, sym, ap, ◌∙◌, inl, inr, max}
use Rattle.std.proofs.Common.{length, get_or, List, bit_or}
use Rattle.std.specs.Int.{w64, bit_at, to_be_bytes, to_le_bytes, from_le_bytes}
use Rattle.std.proofs.lemmas.Bool.{cases_lt}
use Rattle.std.proofs.lemmas.List.{get_or_past}
use Rattle.std.proofs.lemmas.Nat.{le_bytes_8, div-add-mod', div-mul-add, pow-add, pow_pos, shr-shr}
use Rattle.std.proofs.lemmas.Nat.Bits.{bit_at_above, bit_at_cat_high, bit_at_cat_low, bit_at_mask_above, bit_at_mask_below, bit_at_mask_inside, bit_at_or, bit_at-lt, bit_at-zero}
use Rattle.std.proofs.Math.Nat.{mul-le-mul_right, pow-le-pow_right}
use borrow.Rule.Slice.PartMut.{put_mid, mid_of, same_len_mid}
use Rattle.stroke_raster.specs.Inks.{ink, AreMaskInked, IsInked, IsWordInked}
use Rattle.stroke_raster.proofs.Middle.{mid_above, mid_at, mid_below, mid_length, mid_old}

-- the shifted ones of a word
pub ones_right : (a b : ℕ) → a + b ≡ 64 → 18446744073709551615 / 2 ^ a ≡ 2 ^ b - 1
ones_right a b h =
    let p : 2 ^ (b + a) ≡ 2 ^ b * 2 ^ a = pow-add 2 b a in
    let e : b + a ≡ 64 = omega (arith, h) in
    let q : 2 ^ b * 2 ^ a ≡ 18446744073709551616 = sym p ∙ ap (λ (n : ℕ). 2 ^ n) e in
    let pa = pow_pos a in
    let pb = pow_pos b in
    let s : 2 ^ b * 2 ^ a ≡ (2 ^ b - 1 + 1) * 2 ^ a = ap (λ (n : ℕ). n * 2 ^ a) (omega (arith, pb)) in
    let t : (2 ^ b - 1) * 2 ^ a + (2 ^ a - 1) ≡ 18446744073709551615 = omega (arith, s, q, pa) in
    ap (λ (n : ℕ). n / 2 ^ a) (sym t) ∙ div-mul-add (2 ^ b - 1) (2 ^ a) (2 ^ a - 1) (omega (arith, pa))

-- a word with ones from bit `low` up to bit `end`, counted from the highest
pub word_mask : (low end : ℕ) → low ≤ end → end ≤ 63 → 18446744073709551615 / 2 ^ low - 18446744073709551615 / 2 ^ end ≡ 2 ^ (64 - low) - 2 ^ (64 - end)
word_mask low end order fit =
    let a = ones_right low (64 - low) (omega (arith, order, fit)) in
    let b = ones_right end (64 - end) (omega (arith, fit)) in
    let p = pow_pos (64 - end) in
    omega (arith, a, b, p)

-- a mask that begins later is no greater
pub mask_order : (low end : ℕ) → low ≤ end → end ≤ 63 → 18446744073709551615 / 2 ^ end ≤ 18446744073709551615 / 2 ^ low
mask_order low end order fit =
    let a = ones_right low (64 - low) (omega (arith, order, fit)) in
    let b = ones_right end (64 - end) (omega (arith, fit)) in
    let le : 2 ^ (64 - end) ≤ 2 ^ (64 - low) = pow-le-pow_right (omega arith) (omega (arith, order)) in
    omega (arith, a, b, le)

-- a bit of a byte of a number
byte_bit : (v s i : ℕ) → i < 8 → bit_at (v / 2 ^ s % 256) i ≡ bit_at v (s + i)
byte_bit v s i h =
    let q = v / 2 ^ s in
    sym (ap (λ (n : ℕ). bit_at n i) (sym (div-add-mod' (v / 2 ^ s) 256)) ∙ bit_at_cat_low (v / 2 ^ s / 256) 8 (v / 2 ^ s % 256) i h)
    ∙ ap (λ (n : ℕ). n % 2) (shr-shr v s i)

-- the bytes of a word, the highest first
high_byte : (v j : ℕ) → j < 8 → get_or (to_be_bytes w64 v) j 0 ≡ v / 2 ^ (8 * (7 - j)) % 256
high_byte v zero h = refl
high_byte v (suc zero) h = refl
high_byte v (suc (suc zero)) h = refl
high_byte v (suc (suc (suc zero))) h = refl
high_byte v (suc (suc (suc (suc zero)))) h = refl
high_byte v (suc (suc (suc (suc (suc zero))))) h = refl
high_byte v (suc (suc (suc (suc (suc (suc zero)))))) h = refl
high_byte v (suc (suc (suc (suc (suc (suc (suc zero))))))) h = omega arith
high_byte v (suc (suc (suc (suc (suc (suc (suc (suc j)))))))) h = absurd (omega (arith, h))

-- the bytes of a word, the lowest first
low_byte : (v j : ℕ) → j < 8 → get_or (to_le_bytes w64 v) j 0 ≡ v / 2 ^ (8 * j) % 256
low_byte v zero h = omega arith
low_byte v (suc zero) h = refl
low_byte v (suc (suc zero)) h = refl
low_byte v (suc (suc (suc zero))) h = refl
low_byte v (suc (suc (suc (suc zero)))) h = refl
low_byte v (suc (suc (suc (suc (suc zero))))) h = refl
low_byte v (suc (suc (suc (suc (suc (suc zero)))))) h = refl
low_byte v (suc (suc (suc (suc (suc (suc (suc zero))))))) h = refl
low_byte v (suc (suc (suc (suc (suc (suc (suc (suc j)))))))) h = absurd (omega (arith, h))

-- where pixel i is in a word whose first byte is its lowest
abbrev place : ℕ → ℕ
place i = 8 * (i / 8) + (7 - i % 8)

-- pixel i of the bytes of a word, the highest first
high_ink : (v i : ℕ) → i < 64 → ink (to_be_bytes w64 v) i ≡ bit_at v (63 - i)
high_ink v i h =
    ap (λ (n : ℕ). bit_at n (7 - i % 8)) (high_byte v (i / 8) (omega (arith, h)))
    ∙ byte_bit v (8 * (7 - i / 8)) (7 - i % 8) (omega arith)
    ∙ ap (bit_at v) (omega (arith, h))

-- pixel i of the bytes of a word, the lowest first
low_ink : (v i : ℕ) → i < 64 → ink (to_le_bytes w64 v) i ≡ bit_at v (place i)
low_ink v i h =
    ap (λ (n : ℕ). bit_at n (7 - i % 8)) (low_byte v (i / 8) (omega (arith, h)))
    ∙ byte_bit v (8 * (i / 8)) (7 - i % 8) (omega arith)

-- pixel i of eight bytes
pub read_ink : (bs : List ℕ) (i : ℕ) → length bs ≡ 8 → ((k : ℕ) → get_or bs k 0 < 256) → i < 64 → ink bs i ≡ bit_at (from_le_bytes w64 bs) (8 * (i / 8) + (7 - i % 8))
read_ink bs i len small h =
    ap (λ (z : List ℕ). ink z i) (sym (le_bytes_8 bs (from_le_bytes w64 bs) len small refl)) ∙ low_ink (from_le_bytes w64 bs) i h

-- the bytes of a word are bytes
high_small : (v k : ℕ) → get_or (to_be_bytes w64 v) k 0 < 256
high_small v k = elim (cases_lt k 8) [
  | inl l ↦ (let e = high_byte v k l in omega (arith, e))
  | inr g ↦ (let e = get_or_past (to_be_bytes w64 v) k 0 g in omega (arith, e))
]

-- a word whose bytes are turned round
pub turned_ink : (t v i : ℕ) → t ≡ from_le_bytes w64 (to_be_bytes w64 v) → i < 64 → bit_at t (place i) ≡ bit_at v (63 - i)
turned_ink t v i e h = ap (λ (n : ℕ). bit_at n (place i)) e ∙ sym (read_ink (to_be_bytes w64 v) i refl (high_small v) h) ∙ high_ink v i h

-- a pixel outside the word
beside_word : (old new : List ℕ) (at i : ℕ) → at + 8 ≤ length old → length new ≡ 8 → (at ≤ i / 8 → at + 8 ≤ i / 8) → ink (put_mid at 8 old new) i ≡ ink old i
beside_word old new at i fit len out =
    ap (λ (n : ℕ). bit_at n (7 - i % 8)) (elim (cases_lt (i / 8) at) [
      | inl l ↦ mid_below at 8 old new (i / 8) l fit len
      | inr g ↦ elim (cases_lt (i / 8) (length old)) [
        | inl u ↦ mid_above at 8 old new (i / 8) (out g) u len
        | inr u ↦ (let same = same_len_mid at 8 old new (len ∙ sym (mid_length at 8 old fit)) in
            get_or_past (put_mid at 8 old new) (i / 8) 0 (omega (arith, same, u)) ∙ sym (get_or_past old (i / 8) 0 u))
      ]
    ])

-- a pixel of the word
in_word : (old new : List ℕ) (at i : ℕ) → at + 8 ≤ length old → length new ≡ 8 → at ≤ i / 8 → i / 8 < at + 8 → ink (put_mid at 8 old new) i ≡ ink new (i - 8 * at)
in_word old new at i fit len from to =
    let e : i / 8 ≡ at + (i - 8 * at) / 8 = omega (arith, from) in
    let m : i % 8 ≡ (i - 8 * at) % 8 = omega (arith, from) in
    ap (λ (n : ℕ). bit_at (get_or (put_mid at 8 old new) n 0) (7 - i % 8)) e
    ∙ ap (λ (n : ℕ). bit_at n (7 - i % 8)) (mid_at at 8 old new ((i - 8 * at) / 8) (omega (arith, e, to)) fit len)
    ∙ ap (λ (n : ℕ). bit_at (get_or new ((i - 8 * at) / 8) 0) (7 - n)) m

-- a pixel of the word that was there
in_old : (old : List ℕ) (at i : ℕ) → at + 8 ≤ length old → at ≤ i / 8 → i / 8 < at + 8 → ink (mid_of at 8 old) (i - 8 * at) ≡ ink old i
in_old old at i fit from to =
    let e : at + (i - 8 * at) / 8 ≡ i / 8 = omega (arith, from) in
    let m : (i - 8 * at) % 8 ≡ i % 8 = omega (arith, from) in
    ap (λ (n : ℕ). bit_at n (7 - (i - 8 * at) % 8)) (mid_old at 8 old ((i - 8 * at) / 8) (omega (arith, e, to)) fit)
    ∙ ap (λ (n : ℕ). bit_at (get_or old n 0) (7 - (i - 8 * at) % 8)) e
    ∙ ap (λ (n : ℕ). bit_at (get_or old (i / 8) 0) (7 - n)) m

-- the bytes of a word or-ed with a mask
abbrev pub masked : ℕ → ℕ → List ℕ
masked w t = to_le_bytes w64 (bit_or w t)

-- what a pixel of the word becomes
joined : (old : List ℕ) (at w t m i : ℕ) → t ≡ from_le_bytes w64 (to_be_bytes w64 m) → at + 8 ≤ length old → ((k : ℕ) → k < 64 → bit_at w (8 * (k / 8) + (7 - k % 8)) ≡ ink (mid_of at 8 old) k) → at ≤ i / 8 → i / 8 < at + 8
    → ink (put_mid at 8 old (masked w t)) i ≡ max (ink old i) (bit_at m (63 - (i - 8 * at)))
joined old at w t m i et fit read from to =
    let j : i - 8 * at < 64 = omega (arith, to) in
    in_word old (masked w t) at i fit refl from to
    ∙ low_ink (bit_or w t) (i - 8 * at) j
    ∙ bit_at_or w t (place (i - 8 * at))
    ∙ ap (λ (n : ℕ). max (bit_at w (place (i - 8 * at))) n) (turned_ink t m (i - 8 * at) et j)
    ∙ ap (λ (n : ℕ). max n (bit_at m (63 - (i - 8 * at)))) (read (i - 8 * at) j ∙ in_old old at i fit from to)

-- a word that was inked
pub word_inked : (at w t m : ℕ) (old : List ℕ) → at + 8 ≤ length old
    → ((k : ℕ) → k < 64 → bit_at w (8 * (k / 8) + (7 - k % 8)) ≡ ink (mid_of at 8 old) k) → t ≡ from_le_bytes w64 (to_be_bytes w64 m)
    → IsWordInked at m old (put_mid at 8 old (masked w t))
word_inked at w t m old fit read et =
    let eight : length (masked w t) ≡ 8 = refl in
    record {
      length = same_len_mid at 8 old (masked w t) (eight ∙ sym (mid_length at 8 old fit));
      within = λ i from to. joined old at w t m i et fit read from to;
      before = λ i u. beside_word old (masked w t) at i fit eight (λ g. absurd (omega (arith, g, u)));
      after = λ i u. beside_word old (masked w t) at i fit eight (λ _. u);
    }

-- a run that was inked by one word
pub few_inked : (low end at a b m : ℕ) (old new : List ℕ) → at ≡ low / 8 → a ≡ low % 8 → b ≡ low % 8 + (end - low) → low ≤ end → end ≤ low + 56
    → m ≡ 2 ^ (64 - a) - 2 ^ (64 - b) → IsWordInked at m old new → IsInked low end old new
few_inked low end at a b m old new e ea eb order few em word =
    let bit : (k : ℕ) → bit_at m k ≡ bit_at (2 ^ (64 - a) - 2 ^ (64 - b)) k = λ k. ap (λ (n : ℕ). bit_at n k) em in
    record {
      length = word.length;
      before = λ i u. elim (cases_lt (i / 8) at) [
        | inl l ↦ word.before i l
        | inr g ↦ (let to : i / 8 < at + 8 = omega (arith, u, e) in
            let s = word.within i g to in
            let z = bit (63 - (i - 8 * at)) ∙ bit_at_mask_above (64 - b) (64 - a) (63 - (i - 8 * at)) (omega (arith, u, e, ea, g)) in
            omega (arith, s, z))
      ];
      inside = λ i u v. (let from : at ≤ i / 8 = omega (arith, u, e) in
          let to : i / 8 < at + 8 = omega (arith, v, e, few) in
          let s = word.within i from to in
          let z = bit (63 - (i - 8 * at)) ∙ bit_at_mask_inside (64 - b) (64 - a) (63 - (i - 8 * at)) (omega (arith, v, e, ea, eb, order, few)) (omega (arith, u, e, ea)) in
          let o = bit_at-lt (get_or old (i / 8) 0) (7 - i % 8) in
          omega (arith, s, z, o));
      after = λ i u. elim (cases_lt (i / 8) (at + 8)) [
        | inl l ↦ (let from : at ≤ i / 8 = omega (arith, u, e, order) in
            let s = word.within i from l in
            let z = bit (63 - (i - 8 * at)) ∙ bit_at_mask_below (64 - b) (64 - a) (63 - (i - 8 * at)) (omega (arith, u, l, e, ea, eb, order, few)) in
            omega (arith, s, z))
        | inr g ↦ word.after i g
      ];
    }

-- a bit of a number times a power of 2
moved_bit : (m k j : ℕ) → k ≤ j → bit_at (m * 2 ^ k) j ≡ bit_at m (j - k)
moved_bit m k j h = ap (λ (n : ℕ). bit_at n j) (omega arith) ∙ bit_at_cat_high m k 0 j (pow_pos k) h

no_bit : (m k j : ℕ) → j < k → bit_at (m * 2 ^ k) j ≡ 0
no_bit m k j h = ap (λ (n : ℕ). bit_at n j) (omega arith) ∙ bit_at_cat_low m k 0 j h ∙ bit_at-zero j

-- a small number times a power of 2 fits in a word
fits_word : (m n k : ℕ) → m < 2 ^ n → n + k ≤ 64 → m * 2 ^ k % 18446744073709551616 ≡ m * 2 ^ k
fits_word m n k small fit =
    let p : 2 ^ (n + k) ≡ 2 ^ n * 2 ^ k = pow-add 2 n k in
    let q : 2 ^ (n + k) ≤ 2 ^ 64 = pow-le-pow_right (omega arith) fit in
    let pk = pow_pos k in
    let l : (m + 1) * 2 ^ k ≤ 2 ^ n * 2 ^ k = mul-le-mul_right (2 ^ k) (omega (arith, small)) in
    omega (arith, p, q, l, pk)

-- a mask that was inked by one word
pub mask_inked : (low many m v : ℕ) (old new : List ℕ) → many ≤ 56 → m < 2 ^ many → v ≡ m * 2 ^ (64 - low % 8 - many) % 18446744073709551616 → IsWordInked (low / 8) v old new
    → AreMaskInked low many m old new
mask_inked low many m v old new few small ev' word =
    let ev : v ≡ m * 2 ^ (64 - low % 8 - many) = ev' ∙ fits_word m many (64 - low % 8 - many) small (omega (arith, few)) in
    let bit : (j : ℕ) → bit_at v j ≡ bit_at (m * 2 ^ (64 - low % 8 - many)) j = λ j. ap (λ (n : ℕ). bit_at n j) ev in
    record {
      length = word.length;
      within = λ i u. (let from : low / 8 ≤ (low + i) / 8 = omega arith in
          let to : (low + i) / 8 < low / 8 + 8 = omega (arith, u, few) in
          let s = word.within (low + i) from to in
          let z = bit (63 - (low + i - 8 * (low / 8))) ∙ moved_bit m (64 - low % 8 - many) (63 - (low + i - 8 * (low / 8))) (omega (arith, u, few)) in
          let e : 63 - (low + i - 8 * (low / 8)) - (64 - low % 8 - many) ≡ many - 1 - i = omega (arith, u, few) in
          s ∙ ap (λ (n : ℕ). max (ink old (low + i)) n) (z ∙ ap (bit_at m) e));
      before = λ i u. elim (cases_lt (i / 8) (low / 8)) [
        | inl l ↦ word.before i l
        | inr g ↦ (let to : i / 8 < low / 8 + 8 = omega (arith, u) in
            let s = word.within i g to in
            let z = bit (63 - (i - 8 * (low / 8))) ∙ moved_bit m (64 - low % 8 - many) (63 - (i - 8 * (low / 8))) (omega (arith, u, few, g))
            ∙ bit_at_above m many (63 - (i - 8 * (low / 8)) - (64 - low % 8 - many)) small (omega (arith, u, few, g)) in
            omega (arith, s, z))
      ];
      after = λ i u. elim (cases_lt (i / 8) (low / 8 + 8)) [
        | inl l ↦ (let from : low / 8 ≤ i / 8 = omega (arith, u) in
            let s = word.within i from l in
            let z = bit (63 - (i - 8 * (low / 8))) ∙ no_bit m (64 - low % 8 - many) (63 - (i - 8 * (low / 8))) (omega (arith, u, l, few)) in
            omega (arith, s, z))
        | inr g ↦ word.after i g
      ];
    }
