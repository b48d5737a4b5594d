-- The text of a title has no start of a tag.
use Rattle.std.proofs.Common.{◌≡◌, ℕ, ◌+◌, ◌/◌, ◌%◌, ◌≤◌, ◌==◌, nat_lt, Bool, true, false, cond, List, [], ◌∷◌, codes, refl, arith}
use Rattle.std.proofs.lemmas.Bool.Decides.{nat_tests}
use Rattle.std.specs.Char.{encode_utf8}
use Rattle.svg.specs.Titles.{character, character_text, text_bytes}
use Rattle.svg.proofs.PathReads.{is_less}
use Rattle.pieces.proofs.Scans.{Lacks, lacks_both}

either_lacks : (is_mark : ℕ → Bool) (b : Bool) (xs ys : List ℕ) → Lacks is_mark xs → Lacks is_mark ys → Lacks is_mark (cond b xs ys)
either_lacks is_mark true xs ys h k = h
either_lacks is_mark false xs ys h k = k

-- no byte of characters of more than one byte is a mark
abbrev PassesHigh : (ℕ → Bool) → Type 0
PassesHigh is_mark = (n : ℕ) → 128 ≤ n → is_mark n ≡ false

first_byte : (is_mark : ℕ → Bool) (a : ℕ) (bs : List ℕ) → is_mark a ≡ false → Lacks is_mark bs → Lacks is_mark (a ∷ bs)
first_byte is_mark a bs h k = cc

pub utf8_lacks : (is_mark : ℕ → Bool) → PassesHigh is_mark → (c : ℕ) → is_mark c ≡ false → Lacks is_mark (encode_utf8 c)
unfolding encode_utf8
utf8_lacks is_mark high c e =
    let more = λ (a : ℕ) (bs : List ℕ) (h : 128 ≤ a) (k : Lacks is_mark bs). first_byte is_mark a bs (high a h) k in
    let last = λ (n : ℕ). more (128 + n % 64) [] (omega arith) refl in
    let one = λ (n : ℕ). (128 + n % 64) ∷ [] in
    let two = λ (n m : ℕ). (128 + n % 64) ∷ (128 + m % 64) ∷ [] in
    let three = λ (n m k : ℕ). (128 + n % 64) ∷ (128 + m % 64) ∷ (128 + k % 64) ∷ [] in
    let last_two = λ (n m : ℕ). more (128 + n % 64) (one m) (omega arith) (last m) in
    let last_three = λ (n m k : ℕ). more (128 + n % 64) (two m k) (omega arith) (last_two m k) in
    either_lacks is_mark (nat_lt c 128) (c ∷ []) _ (first_byte is_mark c [] e refl)
    (either_lacks is_mark (nat_lt c 2048) ((192 + c / 64) ∷ one c) _ (more (192 + c / 64) (one c) (omega arith) (last c))
    (either_lacks is_mark (nat_lt c 65536) ((224 + c / 4096) ∷ two (c / 64) c) _ (more (224 + c / 4096) (two (c / 64) c) (omega arith) (last_two (c / 64) c))
    (more (240 + c / 262144) (three (c / 4096) (c / 64) c) (omega arith) (last_three (c / 4096) (c / 64) c))))

character_step : (b : Bool) (c : ℕ) → is_less c ≡ b → Lacks is_less (cond b (codes "&lt;") (cond (c == 62) (codes "&gt;") (encode_utf8 c)))
character_step true c e = refl
character_step false c e = either_lacks is_less (c == 62) (codes "&gt;") (encode_utf8 c) refl (utf8_lacks is_less (λ n h. grind (arith, nat_tests)) c e)

character_lacks : (c : ℕ) → Lacks is_less (character_text c)
character_lacks c = either_lacks is_less (c == 38) (codes "&amp;") _ refl (character_step (is_less c) c refl)

pub text_lacks : (text : List ℕ) → Lacks is_less (text_bytes text)
text_lacks [] = refl
text_lacks (c ∷ cs) = lacks_both is_less (character_text (character c)) (text_bytes cs) (character_lacks (character c)) (text_lacks cs)
