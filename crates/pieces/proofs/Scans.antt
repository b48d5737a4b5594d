-- What the reader finds in texts that are written: parts between marks, numbers and places.
use Rattle.std.proofs.Common.{◌≡◌, ◌∙◌, ℕ, zero, suc, ◌+◌, ◌/◌, ◌%◌, ◌^◌, ◌<◌, ◌≤◌, ℤ, pos, negsuc, neg_ℤ, nat_abs, ◌==◌, ◌&&◌, ◌||◌, nat_lt, Bool, true, false, cond, List, [], ◌∷◌, ◌++◌, length, map, drop, take, Option, Some, decimal, refl, ap, sym, arith, append-nil, append_assoc}
use Rattle.std.proofs.lemmas.Bool.{or_parts}
use Rattle.std.proofs.lemmas.Bool.Decides.{nat_tests}
use Rattle.std.proofs.lemmas.Fmt.{decimal_is_IsNumeral}
use Rattle.std.proofs.lemmas.List.Folds.{list_any-append}
use Rattle.std.specs.Char.{digit_value, is_digit}
use Rattle.std.specs.Fmt.{digit_glyph, digits, digits_onto, signed_decimal}
use Rattle.std.specs.List.{join_with_byte, list_all, list_any}
use Rattle.std.specs.Option.{option_map}
use Rattle.std.specs.Str.Parse.{AllDigits, digits_value}
use Rattle.pieces.specs.Fractions.{decimals, fraction}
use Rattle.pieces.specs.Readings.{Cut, byte, cut, given, integer, number, split, with_byte}

-- a text without a mark
abbrev pub Lacks : (ℕ → Bool) → List ℕ → Type 0
Lacks is_mark text = list_any is_mark text ≡ false

or_false : (a b : Bool) → a ≡ false → b ≡ false → (a || b) ≡ false
or_false a b h k = cc

pub lacks_both : (is_mark : ℕ → Bool) (xs ys : List ℕ) → Lacks is_mark xs → Lacks is_mark ys → Lacks is_mark (xs ++ ys)
lacks_both is_mark xs ys h k = list_any-append is_mark xs ys ∙ or_false (list_any is_mark xs) (list_any is_mark ys) h k

-- a text without a mark, and what follows
pub cut_plain : (is_mark : ℕ → Bool) (xs ys : List ℕ) → Lacks is_mark xs → cut is_mark (xs ++ ys) ≡ record { front = xs ++ (cut is_mark ys).front; parts = (cut is_mark ys).parts }
cut_plain is_mark [] ys h = refl
cut_plain is_mark (x ∷ xs) ys h =
    let both = or_parts (is_mark x) (list_any is_mark xs) h in
    ap (λ (b : Bool). with_byte b x (cut is_mark (xs ++ ys))) both.0 ∙ ap (λ (t : Cut). with_byte false x t) (cut_plain is_mark xs ys both.1)

-- a text of parts: each begins with a mark and has no other one
pub record Cuts (is_mark : ℕ → Bool) (text : List ℕ) (parts : List (List ℕ)) : Type 0 where
  pub then : (rest : List ℕ) → (cut is_mark rest).front ≡ [] → cut is_mark (text ++ rest) ≡ record { front = []; parts = parts ++ (cut is_mark rest).parts }

pub one_part : (is_mark : ℕ → Bool) (m : ℕ) (xs : List ℕ) → is_mark m ≡ true → Lacks is_mark xs → Cuts is_mark (m ∷ xs) ((m ∷ xs) ∷ [])
one_part is_mark m xs h k = record {
  then = λ rest e.
      ap (λ (b : Bool). with_byte b m (cut is_mark (xs ++ rest))) h
      ∙ ap (λ (t : Cut). with_byte true m t) (cut_plain is_mark xs rest k)
      ∙ ap (λ (z : List ℕ). with_byte true m (record { front = xs ++ z; parts = (cut is_mark rest).parts })) e
      ∙ ap (λ (z : List ℕ). with_byte true m (record { front = z; parts = (cut is_mark rest).parts })) (append-nil xs);
}

pub no_parts : (is_mark : ℕ → Bool) → Cuts is_mark [] []
no_parts is_mark = record { then = λ rest e. ap (λ (z : List ℕ). record { front = z; parts = (cut is_mark rest).parts }) e }

pub more_parts : (is_mark : ℕ → Bool) (xs ys : List ℕ) (ps qs : List (List ℕ)) → Cuts is_mark xs ps → Cuts is_mark ys qs → Cuts is_mark (xs ++ ys) (ps ++ qs)
more_parts is_mark xs ys ps qs h k = record {
  then = λ rest e.
      let inner = k.then rest e in
      ap (λ (z : List ℕ). cut is_mark z) (append_assoc xs ys rest)
      ∙ h.then (ys ++ rest) (ap (λ (t : Cut). t.front) inner)
      ∙ ap (λ (t : Cut). record { front = []; parts = ps ++ t.parts }) inner
      ∙ ap (λ (z : List (List ℕ)). record { front = []; parts = z }) (sym (append_assoc ps qs (cut is_mark rest).parts));
}

-- all of a text
pub all_parts : (is_mark : ℕ → Bool) (text : List ℕ) (parts : List (List ℕ)) → Cuts is_mark text parts → cut is_mark text ≡ record { front = []; parts = parts }
all_parts is_mark text parts h =
    ap (λ (z : List ℕ). cut is_mark z) (sym (append-nil text)) ∙ h.then [] refl ∙ ap (λ (z : List (List ℕ)). record { front = []; parts = z }) (append-nil parts)

-- what lies before a byte, and what follows
pub split_more : (byte : ℕ) (xs ys : List ℕ) → Lacks (λ c. c == byte) xs → split byte (xs ++ byte ∷ ys) ≡ xs ∷ split byte ys
split_more byte xs ys h =
    let is_mark : ℕ → Bool = λ c. c == byte in
    let same : (byte == byte) ≡ true = grind (arith, nat_tests) in
    let plain = cut_plain is_mark xs (byte ∷ ys) h in
    let marked = ap (λ (b : Bool). with_byte b byte (cut is_mark ys)) same in
    ap (λ (t : Cut). t.front ∷ map (drop 1) t.parts) plain
    ∙ ap (λ (t : Cut). (xs ++ t.front) ∷ map (drop 1) t.parts) marked
    ∙ ap (λ (z : List ℕ). z ∷ split byte ys) (append-nil xs)

pub split_last : (byte : ℕ) (xs : List ℕ) → Lacks (λ c. c == byte) xs → split byte xs ≡ xs ∷ []
split_last byte xs h =
    let is_mark : ℕ → Bool = λ c. c == byte in
    ap (λ (z : List ℕ). split byte z) (sym (append-nil xs))
    ∙ ap (λ (t : Cut). t.front ∷ map (drop 1) t.parts) (cut_plain is_mark xs [] h)
    ∙ ap (λ (z : List ℕ). z ∷ []) (append-nil xs)

-- each of these words is without a byte
abbrev pub AreWords : ℕ → List (List ℕ) → Type 0
AreWords byte [] = Unit {0}
AreWords byte (w ∷ ws) = Lacks (λ c. c == byte) w × AreWords byte ws

pub split_words : (byte : ℕ) (w : List ℕ) (ws : List (List ℕ)) → AreWords byte (w ∷ ws) → split byte (join_with_byte byte (w ∷ ws)) ≡ w ∷ ws
split_words byte w [] h = split_last byte w h.0
split_words byte w (v ∷ ws) h = split_more byte w (join_with_byte byte (v ∷ ws)) h.0 ∙ ap (λ (zs : List (List ℕ)). w ∷ zs) (split_words byte v ws h.1)

-- no digit is a mark
abbrev pub PassesDigits : (ℕ → Bool) → Type 0
PassesDigits is_mark = (c : ℕ) → 48 ≤ c → c ≤ 57 → is_mark c ≡ false

glyph : (d : ℕ) → d < 10 → digit_glyph false d ≡ 48 + d
glyph d h = grind (arith, nat_tests)

digit_passes : (is_mark : ℕ → Bool) → PassesDigits is_mark → (n : ℕ) → is_mark (digit_glyph false (n % 10)) ≡ false
digit_passes is_mark free n =
    let small : n % 10 < 10 = omega arith in
    ap is_mark (glyph (n % 10) small) ∙ free (48 + n % 10) (omega arith) (omega arith)

onto_step : (b : Bool) (is_mark : ℕ → Bool) (c : ℕ) (acc more : List ℕ) → is_mark c ≡ false → Lacks is_mark acc → Lacks is_mark more → Lacks is_mark (cond b (c ∷ acc) more)
onto_step true is_mark c acc more h k m = or_false (is_mark c) (list_any is_mark acc) h k
onto_step false is_mark c acc more h k m = m

onto_lacks : (is_mark : ℕ → Bool) → PassesDigits is_mark → (k n : ℕ) (acc : List ℕ) → Lacks is_mark acc → Lacks is_mark (digits_onto k 10 false n acc)
onto_lacks is_mark free zero n acc h = h
onto_lacks is_mark free (suc k) n acc h =
    let c = digit_glyph false (n % 10) in
    let d = digit_passes is_mark free n in
    onto_step (n / 10 == 0) is_mark c acc (digits_onto k 10 false (n / 10) (c ∷ acc)) d h (onto_lacks is_mark free k (n / 10) (c ∷ acc) (or_false (is_mark c) (list_any is_mark acc) d h))

pub decimal_lacks : (is_mark : ℕ → Bool) → PassesDigits is_mark → (n : ℕ) → Lacks is_mark (decimal n)
unfolding digits
decimal_lacks is_mark free n = onto_lacks is_mark free 64 n [] refl

pub signed_lacks : (is_mark : ℕ → Bool) → PassesDigits is_mark → is_mark 45 ≡ false → (z : ℤ) → Lacks is_mark (signed_decimal z)
signed_lacks is_mark free minus (pos n) = decimal_lacks is_mark free n
signed_lacks is_mark free minus (negsuc n) = or_false (is_mark 45) (list_any is_mark (decimal (suc n))) minus (decimal_lacks is_mark free (suc n))

-- a number is read as it was written
all_digits : (radix : ℕ) (ds : List ℕ) → AllDigits radix ds → list_all (λ c. is_digit c radix) ds ≡ true
all_digits radix [] h = refl
all_digits radix (d ∷ ds) h =
    let one : is_digit d radix ≡ true = grind (arith, nat_tests, h.0) in
    ap (λ (b : Bool). b && list_all (λ c. is_digit c radix) ds) one ∙ all_digits radix ds h.1

pub number_read : (n : ℕ) → n < 2 ^ 64 → number (decimal n) ≡ Some n
number_read n h =
    let good = decimal_is_IsNumeral n h in
    let some : nat_lt 0 (length (decimal n)) ≡ true = grind (arith, nat_tests, good.0.0) in
    ap (λ (b : Bool). given (b && list_all (λ c. is_digit c 10) (decimal n)) (Some (digits_value 10 (decimal n)))) some
    ∙ ap (λ (b : Bool). given b (Some (digits_value 10 (decimal n)))) (all_digits 10 (decimal n) good.0.1)
    ∙ ap (λ (k : ℕ). Some k) good.1

abbrev minus_of : Option ℕ → Option ℤ
minus_of o = option_map (λ n. neg_ℤ (pos n)) o

abbrev plus_of : Option ℕ → Option ℤ
plus_of o = option_map pos o

-- digits have no sign
unsigned : (ds : List ℕ) (n : ℕ) → Lacks (λ c. c == 45) ds → number ds ≡ Some n → integer ds ≡ Some (pos n)
unsigned [] n h e = cc
unsigned (d ∷ ds) n h e =
    let one = (or_parts (d == 45) (list_any (λ c. c == 45) ds) h).0 in
    ap (λ (b : Bool). cond b (minus_of (number ds)) (plus_of (number (d ∷ ds)))) one ∙ ap plus_of e

pub integer_read : (z : ℤ) → nat_abs z < 2 ^ 63 → integer (signed_decimal z) ≡ Some z
integer_read (pos n) h = unsigned (decimal n) n (decimal_lacks (λ c. c == 45) (λ c low high. grind (arith, nat_tests)) n) (number_read n (omega (arith, h)))
integer_read (negsuc n) h = ap minus_of (number_read (suc n) (omega (arith, h)))

-- hexadecimal digits
pub hex_digit : (d : ℕ) → d < 16 → is_digit (digit_glyph false d) 16 ≡ true
hex_digit d h = grind (arith, nat_tests)

pub hex_value : (d : ℕ) → d < 16 → digit_value (digit_glyph false d) ≡ d
hex_value d h = grind (arith, nat_tests)

pub byte_value : (n : ℕ) → n < 256 → byte (digit_glyph false (n / 16)) (digit_glyph false (n % 16)) ≡ n
byte_value n h =
    let high = hex_value (n / 16) (omega (arith, h)) in
    let low = hex_value (n % 16) (omega arith) in
    omega (arith, high, low)

-- thousandths without a mark
either_lacks : (b : Bool) (is_mark : ℕ → Bool) (xs ys : List ℕ) → Lacks is_mark xs → Lacks is_mark ys → Lacks is_mark (cond b xs ys)
either_lacks true is_mark xs ys h k = h
either_lacks false is_mark xs ys h k = k

front_lacks : (is_mark : ℕ → Bool) (n : ℕ) (xs : List ℕ) → Lacks is_mark xs → Lacks is_mark (take n xs)
front_lacks is_mark zero xs h = refl
front_lacks is_mark (suc n) [] h = refl
front_lacks is_mark (suc n) (x ∷ xs) h =
    let both = or_parts (is_mark x) (list_any is_mark xs) h in
    or_false (is_mark x) (list_any is_mark (take n xs)) both.0 (front_lacks is_mark n xs both.1)

-- the first digits of some thousandths
pub digits_lack : (is_mark : ℕ → Bool) → PassesDigits is_mark → (k n : ℕ) → n < 1000 → Lacks is_mark (take k ((48 + n / 100) ∷ (48 + n / 10 % 10) ∷ (48 + n % 10) ∷ []))
digits_lack is_mark free k n h =
    let a = free (48 + n / 100) (omega arith) (omega (arith, h)) in
    let b = free (48 + n / 10 % 10) (omega arith) (omega arith) in
    let c = free (48 + n % 10) (omega arith) (omega arith) in
    let ds = (48 + n / 100) ∷ (48 + n / 10 % 10) ∷ (48 + n % 10) ∷ [] in
    let last = or_false (is_mark (48 + n % 10)) false c refl in
    let two = or_false (is_mark (48 + n / 10 % 10)) (is_mark (48 + n % 10) || false) b last in
    front_lacks is_mark k ds (or_false (is_mark (48 + n / 100)) (is_mark (48 + n / 10 % 10) || (is_mark (48 + n % 10) || false)) a two)

pub fraction_lacks : (is_mark : ℕ → Bool) → PassesDigits is_mark → is_mark 46 ≡ false → (n : ℕ) → n < 1000 → Lacks is_mark (fraction n)
fraction_lacks is_mark free point n h =
    let front = take (decimals n) ((48 + n / 100) ∷ (48 + n / 10 % 10) ∷ (48 + n % 10) ∷ []) in
    either_lacks (n == 0) is_mark [] (46 ∷ front) refl (or_false (is_mark 46) (list_any is_mark front) point (digits_lack is_mark free (decimals n) n h))
