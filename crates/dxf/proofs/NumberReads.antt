-- The reader reads numbers as they were written.
use Rattle.std.proofs.Common.{◌≡◌, ◌∙◌, ℕ, zero, suc, ◌+◌, ◌*◌, ◌/◌, ◌%◌, ◌^◌, ◌<◌, ◌==◌, ◌&&◌, nat_le, ℤ, pos, neg_ℤ, int_lt, nat_abs, Bool, true, false, cond, List, [], ◌∷◌, ◌++◌, length, Option, Some, codes, decimal, refl, ap, arith, append-nil}
use Rattle.std.proofs.lemmas.Bool.{and_parts, or_parts}
use Rattle.std.proofs.lemmas.Bool.Decides.{nat_tests}
use Rattle.std.proofs.lemmas.Int.{ints}
use Rattle.std.specs.Char.{digit_value, is_digit}
use Rattle.std.specs.List.{list_all, list_any}
use Rattle.std.specs.Option.{option_map}
use Rattle.pieces.proofs.Scans.{Lacks, PassesDigits, decimal_lacks, lacks_both, number_read, split_last, split_more}
use Rattle.pieces.specs.Fractions.{digit}
use Rattle.pieces.specs.Readings.{given, ◌>>=◌}
use Rattle.dxf.specs.Groups.{after_decimal, decimals, fraction, sign_text, signed_text, size_text}
use Rattle.dxf.specs.Reader.{are_decimals, signed, size, sized, weighed}

-- a decimal
digit_read : (d : ℕ) → d < 10 → digit_value (digit d) ≡ d
digit_read d h = grind (arith, nat_tests)

is_decimal : (d : ℕ) → d < 10 → is_digit (digit d) 10 ≡ true
is_decimal d h = grind (arith, nat_tests)

-- no part is left
none : (n : ℕ) → (n == 0) ≡ true → n ≡ 0
none n h = grind (arith, nat_tests, h)

-- the decimals of no parts
no_decimals : (most : ℕ) → decimals most 0 ≡ []
no_decimals zero = refl
no_decimals (suc most) = no_decimals most

-- decimals, of which the first one counts ten times as much as the next one
decimals_step : (b : Bool) (most n weight : ℕ) → (n == 0) ≡ b → weighed weight (cond b [] (digit (n / 1000000) ∷ []) ++ decimals most (after_decimal n)) ≡ cond b 0 (weight * digit_value (digit (n / 1000000)) + weighed (weight / 10) (decimals most (after_decimal n)))
decimals_step true most n weight h =
    let zero_is : after_decimal n ≡ 0 = (let e = none n h in omega (arith, e)) in
    ap (λ (m : ℕ). weighed weight (decimals most m)) zero_is ∙ ap (λ (z : List ℕ). weighed weight z) (no_decimals most)
decimals_step false most n weight h = refl

-- one decimal more, which counts w: W is what the others come to
sum_step : (w W q r p n : ℕ) → n ≡ 1000000 * q + r → W * (10 * p) ≡ 10 * r → w * p ≡ 1000000 → (w * q + W) * p ≡ n
sum_step w W q r p n h k m =
    let a : (w * q + W) * p ≡ (w * p) * q + W * p = omega arith in
    let b : W * (10 * p) ≡ 10 * (W * p) = omega arith in
    let c : W * p ≡ r = omega (arith, b, k) in
    let d : (w * p) * q ≡ 1000000 * q = ap (λ (z : ℕ). z * q) m in
    omega (arith, a, c, d, h)

-- what these decimals of n come to, of which the first counts w, times p is n
abbrev Comes : ℕ → ℕ → ℕ → ℕ → Type 0
Comes most w p n = weighed w (decimals most n) * p ≡ n

either_comes : (b : Bool) (most w p n : ℕ) → (n == 0) ≡ b → n < 10000000 → w * p ≡ 1000000 → Comes most (w / 10) (10 * p) (after_decimal n)
    → cond b 0 (w * digit_value (digit (n / 1000000)) + weighed (w / 10) (decimals most (after_decimal n))) * p ≡ n
either_comes true most w p n e h m k = (let z = none n e in omega (arith, z))
either_comes false most w p n e h m k =
    let d = digit_read (n / 1000000) (omega (arith, h)) in
    let W = weighed (w / 10) (decimals most (after_decimal n)) in
    let tens : after_decimal n ≡ 10 * (n % 1000000) = omega arith in
    let parts : n ≡ 1000000 * (n / 1000000) + n % 1000000 = omega arith in
    ap (λ (z : ℕ). (w * z + W) * p) d ∙ sum_step w W (n / 1000000) (n % 1000000) p n parts (k ∙ tens) m

comes_step : (most w p n : ℕ) → n < 10000000 → w * p ≡ 1000000 → Comes most (w / 10) (10 * p) (after_decimal n) → Comes (suc most) w p n
comes_step most w p n h m k = ap (λ (z : ℕ). z * p) (decimals_step (n == 0) most n w refl) ∙ either_comes (n == 0) most w p n refl h m k

below : (n : ℕ) → after_decimal n < 10000000
below n = omega arith

-- no decimals, if no part is left
comes_0 : (n : ℕ) → n < 10000000 → n % 10000000 ≡ 0 → Comes 0 0 10000000 n
comes_0 n h m = omega (arith, h, m)

comes_1 : (n : ℕ) → n < 10000000 → n % 1000000 ≡ 0 → Comes 1 1 1000000 n
comes_1 n h m = comes_step 0 1 1000000 n h (omega arith) (comes_0 (after_decimal n) (below n) (omega (arith, m)))

comes_2 : (n : ℕ) → n < 10000000 → n % 100000 ≡ 0 → Comes 2 10 100000 n
comes_2 n h m = comes_step 1 10 100000 n h (omega arith) (comes_1 (after_decimal n) (below n) (omega (arith, m)))

comes_3 : (n : ℕ) → n < 10000000 → n % 10000 ≡ 0 → Comes 3 100 10000 n
comes_3 n h m = comes_step 2 100 10000 n h (omega arith) (comes_2 (after_decimal n) (below n) (omega (arith, m)))

comes_4 : (n : ℕ) → n < 10000000 → n % 1000 ≡ 0 → Comes 4 1000 1000 n
comes_4 n h m = comes_step 3 1000 1000 n h (omega arith) (comes_3 (after_decimal n) (below n) (omega (arith, m)))

comes_5 : (n : ℕ) → n < 10000000 → n % 100 ≡ 0 → Comes 5 10000 100 n
comes_5 n h m = comes_step 4 10000 100 n h (omega arith) (comes_4 (after_decimal n) (below n) (omega (arith, m)))

comes_6 : (n : ℕ) → n < 10000000 → n % 10 ≡ 0 → Comes 6 100000 10 n
comes_6 n h m = comes_step 5 100000 10 n h (omega arith) (comes_5 (after_decimal n) (below n) (omega (arith, m)))

-- seven decimals are all parts
all_decimals : (n : ℕ) → n < 10000000 → weighed 1000000 (decimals 7 n) ≡ n
all_decimals n h =
    let c = comes_step 6 1000000 1 n h (omega arith) (comes_6 (after_decimal n) (below n) (omega arith)) in
    omega (arith, c)

-- decimals are digits, and not more of them
either_digits : (b : Bool) (most d : ℕ) (others : List ℕ) → d < 10 → (nat_le (length others) most && list_all (λ c. is_digit c 10) others) ≡ true
    → (nat_le (length (cond b [] (digit d ∷ []) ++ others)) (suc most) && list_all (λ c. is_digit c 10) (cond b [] (digit d ∷ []) ++ others)) ≡ true
either_digits true most d others h k =
    let both = and_parts (nat_le (length others) most) (list_all (λ c. is_digit c 10) others) k in
    let few : nat_le (length others) (suc most) ≡ true = grind (arith, nat_tests, both.0) in
    rw (few, both.1) refl
either_digits false most d others h k =
    let both = and_parts (nat_le (length others) most) (list_all (λ c. is_digit c 10) others) k in
    let few : nat_le (suc (length others)) (suc most) ≡ true = grind (arith, nat_tests, both.0) in
    rw (few, is_decimal d h, both.1) refl

are_digits : (most n : ℕ) → n < 10000000 → (nat_le (length (decimals most n)) most && list_all (λ c. is_digit c 10) (decimals most n)) ≡ true
are_digits zero n h = refl
are_digits (suc most) n h = either_digits (n == 0) most (n / 1000000) (decimals most (after_decimal n)) (omega (arith, h)) (are_digits most (after_decimal n) (below n))

-- what a mark that is no digit does not cut
digit_lacks : (is_mark : ℕ → Bool) → PassesDigits is_mark → (d : ℕ) → d < 10 → is_mark (digit d) ≡ false
digit_lacks is_mark free d h = free (48 + d) (omega arith) (omega (arith, h))

either_lack : (b : Bool) (is_mark : ℕ → Bool) (d : ℕ) (others : List ℕ) → is_mark (digit d) ≡ false → Lacks is_mark others → Lacks is_mark (cond b [] (digit d ∷ []) ++ others)
either_lack true is_mark d others h k = k
either_lack false is_mark d others h k = cc

decimals_lack : (is_mark : ℕ → Bool) → PassesDigits is_mark → (most n : ℕ) → n < 10000000 → Lacks is_mark (decimals most n)
decimals_lack is_mark free zero n h = refl
decimals_lack is_mark free (suc most) n h =
    either_lack (n == 0) is_mark (n / 1000000) (decimals most (after_decimal n)) (digit_lacks is_mark free (n / 1000000) (omega (arith, h))) (decimals_lack is_mark free most (after_decimal n) (below n))

-- a number, by its whole and its other parts
point_passes : PassesDigits (λ c. c == 46)
point_passes c low high = grind (arith, nat_tests)

minus_passes : PassesDigits (λ c. c == 45)
minus_passes c low high = grind (arith, nat_tests)

either_read : (b : Bool) (w f : ℕ) → (f == 0) ≡ b → w < 2 ^ 64 → f < 10000000 → size (decimal w ++ cond b [] (codes "." ++ decimals 7 f)) ≡ Some (10000000 * w + f)
either_read true w f e h k =
    let d = decimal w in
    let z = none f e in
    let sum : 10000000 * w ≡ 10000000 * w + f = omega (arith, z) in
    ap (λ (z : List ℕ). size z) (append-nil d)
    ∙ ap (λ (z : List (List ℕ)). sized z) (split_last 46 d (decimal_lacks (λ c. c == 46) point_passes w))
    ∙ ap (λ (o : Option ℕ). option_map (λ n. 10000000 * n) o) (number_read w h)
    ∙ ap (λ (n : ℕ). Some n) sum
either_read false w f e h k =
    let d = decimal w in
    let ds = decimals 7 f in
    ap (λ (z : List (List ℕ)). sized z) (split_more 46 d ds (decimal_lacks (λ c. c == 46) point_passes w) ∙ ap (λ (z : List (List ℕ)). d ∷ z) (split_last 46 ds (decimals_lack (λ c. c == 46) point_passes 7 f k)))
    ∙ ap (λ (o : Option ℕ). o >>= (λ n. given (are_decimals ds) (Some (10000000 * n + weighed 1000000 ds)))) (number_read w h)
    ∙ ap (λ (b : Bool). given b (Some (10000000 * w + weighed 1000000 ds))) (are_digits 7 f k)
    ∙ ap (λ (n : ℕ). Some (10000000 * w + n)) (all_decimals f k)

pub size_read : (n : ℕ) → n < 10000000 * 2 ^ 64 → size (size_text n) ≡ Some n
size_read n h =
    let w = n / 10000000 in
    let f = n % 10000000 in
    let sum : 10000000 * w + f ≡ n = omega arith in
    either_read (f == 0) w f refl (omega (arith, h)) (omega arith) ∙ ap (λ (m : ℕ). Some m) sum

-- numbers without a mark
fraction_lacks : (b : Bool) (is_mark : ℕ → Bool) → PassesDigits is_mark → is_mark 46 ≡ false → (f : ℕ) → f < 10000000 → Lacks is_mark (cond b [] (codes "." ++ decimals 7 f))
fraction_lacks true is_mark free point f h = refl
fraction_lacks false is_mark free point f h = (let ds = decimals_lack is_mark free 7 f h in cc)

pub size_lacks : (is_mark : ℕ → Bool) → PassesDigits is_mark → is_mark 46 ≡ false → (n : ℕ) → Lacks is_mark (size_text n)
size_lacks is_mark free point n =
    let f = n % 10000000 in
    lacks_both is_mark (decimal (n / 10000000)) (fraction f) (decimal_lacks is_mark free (n / 10000000)) (fraction_lacks (f == 0) is_mark free point f (omega arith))

-- a number with a sign
unsigned : (text : List ℕ) (n : ℕ) → Lacks (λ c. c == 45) text → size text ≡ Some n → signed text ≡ Some (pos n)
unsigned [] n h e = cc
unsigned (c ∷ cs) n h e =
    let one = (or_parts (c == 45) (list_any (λ c. c == 45) cs) h).0 in
    ap (λ (b : Bool). cond b (option_map (λ n. neg_ℤ (pos n)) (size cs)) (option_map pos (size (c ∷ cs)))) one ∙ ap (λ (o : Option ℕ). option_map pos o) e

-- by its sign and its size
pub signed_is : (b : Bool) (n : ℕ) → n < 10000000 * 2 ^ 64 → signed (signed_text b n) ≡ Some (cond b (neg_ℤ (pos n)) (pos n))
signed_is true n h = ap (λ (o : Option ℕ). option_map (λ n. neg_ℤ (pos n)) o) (size_read n h)
signed_is false n h = unsigned (size_text n) n (size_lacks (λ c. c == 45) minus_passes refl n) (size_read n h)

either_signed : (b : Bool) (z : ℤ) → int_lt z (pos 0) ≡ b → nat_abs z < 10000000 * 2 ^ 64 → signed (cond b (codes "-") [] ++ size_text (nat_abs z)) ≡ Some z
either_signed true z e h =
    let negative : neg_ℤ (pos (nat_abs z)) ≡ z = grind (arith, ints, e) in
    ap (λ (o : Option ℕ). option_map (λ n. neg_ℤ (pos n)) o) (size_read (nat_abs z) h) ∙ ap (λ (y : ℤ). Some y) negative
either_signed false z e h =
    let positive : pos (nat_abs z) ≡ z = grind (arith, ints, e) in
    unsigned (size_text (nat_abs z)) (nat_abs z) (size_lacks (λ c. c == 45) minus_passes refl (nat_abs z)) (size_read (nat_abs z) h) ∙ ap (λ (y : ℤ). Some y) positive

pub signed_read : (z : ℤ) → nat_abs z < 10000000 * 2 ^ 64 → signed (signed_text (int_lt z (pos 0)) (nat_abs z)) ≡ Some z
signed_read z h = either_signed (int_lt z (pos 0)) z refl h

either_sign : (b : Bool) (is_mark : ℕ → Bool) → is_mark 45 ≡ false → Lacks is_mark (sign_text b)
either_sign true is_mark h = cc
either_sign false is_mark h = refl

pub signed_lack : (is_mark : ℕ → Bool) → PassesDigits is_mark → is_mark 46 ≡ false → is_mark 45 ≡ false → (b : Bool) (n : ℕ) → Lacks is_mark (signed_text b n)
signed_lack is_mark free point minus b n =
    lacks_both is_mark (sign_text b) (size_text n) (either_sign b is_mark minus) (size_lacks is_mark free point n)
