-- The reader reads the letters of a text as they were written.
use Rattle.std.proofs.Common.{◌≡◌, ◌∙◌, ℕ, ◌+◌, ◌*◌, ◌/◌, ◌%◌, ◌<◌, ◌==◌, ◌⊎◌, inl, inr, Bool, true, false, cond, List, [], ◌∷◌, ◌++◌, map, Option, Some, None, codes, refl, ap, sym, arith}
use Rattle.std.proofs.lemmas.Bool.{and_parts}
use Rattle.std.proofs.lemmas.Bool.Decides.{nat_tests}
use Rattle.std.specs.Char.{digit_value, is_digit}
use Rattle.std.specs.Fmt.{digit_glyph}
use Rattle.std.specs.Int.{is_in_range}
use Rattle.std.specs.List.{concat, list_all}
use Rattle.std.specs.Option.{option_map}
use Rattle.pieces.proofs.Scans.{Lacks, cut_plain, lacks_both}
use Rattle.pieces.specs.Readings.{Cut, after, byte, cut, each, given, with_byte, ◌>>=◌}
use Rattle.dxf.specs.Letters.{four_digits, is_letter, is_plain, letter, letter_text, letters_text}
use Rattle.dxf.specs.Reader.{letter_then, letters}
use Rattle.dxf.proofs.GroupReads.{is_newline}

-- hexadecimal digits, in capitals
hex_digit : (d : ℕ) → d < 16 → is_digit (digit_glyph true d) 16 ≡ true
hex_digit d h = grind (arith, nat_tests)

hex_value : (d : ℕ) → d < 16 → digit_value (digit_glyph true d) ≡ d
hex_value d h = grind (arith, nat_tests)

four_are : (a b c d : ℕ) → a < 16 → b < 16 → c < 16 → d < 16
    → list_all (λ h. is_digit h 16) (digit_glyph true a ∷ digit_glyph true b ∷ digit_glyph true c ∷ digit_glyph true d ∷ []) ≡ true
four_are a b c d h i j k = rw (hex_digit a h, hex_digit b i, hex_digit c j, hex_digit d k) refl

-- four digits, and what follows
four_read : (n : ℕ) (text : List ℕ) → n < 65536 → letter_then (four_digits n ++ text) ≡ Some (n ∷ text)
four_read n text h =
    let a = n / 4096 % 16 in
    let b = n / 256 % 16 in
    let c = n / 16 % 16 in
    let d = n % 16 in
    let small : (a < 16) × (b < 16) × (c < 16) × (d < 16) = (omega arith, omega arith, omega arith, omega arith) in
    let sum : 256 * byte (digit_glyph true a) (digit_glyph true b) + byte (digit_glyph true c) (digit_glyph true d) ≡ n = (
    let va = hex_value a small.0 in
    let vb = hex_value b small.1 in
    let vc = hex_value c small.2 in
    let vd = hex_value d small.3 in
    omega (arith, va, vb, vc, vd, h)) in
    ap (λ (t : Bool). given t (Some ((256 * byte (digit_glyph true a) (digit_glyph true b) + byte (digit_glyph true c) (digit_glyph true d)) ∷ text))) (four_are a b c d small.0 small.1 small.2 small.3)
    ∙ ap (λ (m : ℕ). Some (m ∷ text)) sum

-- letters are of four digits
letter_by : (b : Bool) (c : ℕ) → is_letter c ≡ b → cond b c 65533 < 65536
letter_by true c h = grind (arith, nat_tests, h)
letter_by false c h = omega arith

letter_small : (c : ℕ) → letter c < 65536
letter_small c = letter_by (is_letter c) c refl

plain_letter : (c : ℕ) → is_plain c ≡ true → letter c ≡ c
plain_letter c h =
    let in_range = (and_parts (is_in_range 32 126 c) _ h).0 in
    let is : is_letter c ≡ true = rw in_range refl in
    ap (λ (b : Bool). cond b c 65533) is

plain_mark : (c : ℕ) → is_plain c ≡ true → (c == 92) ≡ false
plain_mark c h = grind (arith, nat_tests, h)

plain_line : (c : ℕ) → is_plain c ≡ true → is_newline c ≡ false
plain_line c h = grind (arith, nat_tests, h)

abbrev is_mark : ℕ → Bool
is_mark c = c == 92

digit_is_no : (mark : ℕ) (d : ℕ) → (mark ≡ 92) ⊎ (mark ≡ 10) → d < 16 → (digit_glyph true d == mark) ≡ false
digit_is_no mark d (inl e) h = grind (arith, nat_tests, e)
digit_is_no mark d (inr e) h = grind (arith, nat_tests, e)

four_lack : (mark : ℕ) (n : ℕ) → (mark ≡ 92) ⊎ (mark ≡ 10) → Lacks (λ c. c == mark) (four_digits n)
four_lack mark n e =
    rw (digit_is_no mark (n / 4096 % 16) e (omega arith), digit_is_no mark (n / 256 % 16) e (omega arith), digit_is_no mark (n / 16 % 16) e (omega arith), digit_is_no mark (n % 16) e (omega arith)) refl

-- what is read of a text that is cut
abbrev decoded : List ℕ → Option (List ℕ)
decoded part = after (codes "\\U+") part >>= letter_then

abbrev read_cut : Cut → Option (List ℕ)
read_cut t = each decoded t.parts >>= (λ rest. Some (t.front ++ concat rest))

abbrev with_letter : ℕ → Option (List ℕ) → Option (List ℕ)
with_letter c o = option_map (λ text. c ∷ text) o

plain_then : (o : Option (List (List ℕ))) (c : ℕ) (front : List ℕ) → o >>= (λ rest. Some ((c ∷ front) ++ concat rest)) ≡ with_letter c (o >>= (λ rest. Some (front ++ concat rest)))
plain_then None c front = refl
plain_then (Some rest) c front = refl

marked_then : (o : Option (List (List ℕ))) (n : ℕ) (front : List ℕ) → (o >>= (λ others. Some ((n ∷ front) ∷ others))) >>= (λ rest. Some ([] ++ concat rest)) ≡ with_letter n (o >>= (λ rest. Some (front ++ concat rest)))
marked_then None n front = refl
marked_then (Some rest) n front = refl

by_letter : (b : Bool) (c : ℕ) (text : List ℕ) → is_plain c ≡ b → letters (cond b (c ∷ []) (codes "\\U+" ++ four_digits (letter c)) ++ text) ≡ with_letter (letter c) (letters text)
by_letter true c text h =
    ap (λ (b : Bool). read_cut (with_byte b c (cut is_mark text))) (plain_mark c h)
    ∙ plain_then (each decoded (cut is_mark text).parts) c (cut is_mark text).front
    ∙ ap (λ (n : ℕ). with_letter n (letters text)) (sym (plain_letter c h))
by_letter false c text h =
    let n = letter c in
    let t = cut is_mark text in
    ap (λ (u : Cut). read_cut (with_byte true 92 u)) (cut_plain is_mark (codes "U+" ++ four_digits n) text (lacks_both is_mark (codes "U+") (four_digits n) refl (four_lack 92 n (inl refl))))
    ∙ ap (λ (o : Option (List ℕ)). (o >>= (λ y. each decoded t.parts >>= (λ ys. Some (y ∷ ys)))) >>= (λ rest. Some ([] ++ concat rest))) (four_read n t.front (letter_small c))
    ∙ marked_then (each decoded t.parts) n t.front

pub letters_read : (text : List ℕ) → letters (letters_text text) ≡ Some (map letter text)
letters_read [] = refl
letters_read (c ∷ cs) = by_letter (is_plain c) c (letters_text cs) refl ∙ ap (λ (o : Option (List ℕ)). with_letter (letter c) o) (letters_read cs)

-- a text is on one line
either_lacks : (b : Bool) (c : ℕ) → is_plain c ≡ b → Lacks is_newline (cond b (c ∷ []) (codes "\\U+" ++ four_digits (letter c)))
either_lacks true c h = (let e = plain_line c h in cc)
either_lacks false c h = lacks_both is_newline (codes "\\U+") (four_digits (letter c)) refl (four_lack 10 (letter c) (inr refl))

pub letters_lack : (text : List ℕ) → Lacks is_newline (letters_text text)
letters_lack [] = refl
letters_lack (c ∷ cs) = lacks_both is_newline (letter_text c) (letters_text cs) (either_lacks (is_plain c) c refl) (letters_lack cs)
