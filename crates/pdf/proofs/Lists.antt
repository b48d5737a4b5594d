-- References and layers that are written one after another.
use Rattle.std.proofs.Common.{◌≡◌, ℕ, suc, ◌≤◌, ◌-◌, ◌/◌, ◌%◌, nat_lt, false, Bool, cond, ◌+◌, List, [], ◌∷◌, ◌++◌, length, take, drop, get_or, refl, ap, sym, ◌∙◌, append_assoc, codes, decimal, arith, length-append, drop-cons, add-one, ◌<◌}
use Rattle.std.proofs.lemmas.Bool.Decides.{nat_tests}
use Rattle.std.proofs.lemmas.List.{length-take-le, take_more}
use Rattle.pdf.specs.Numbers.{character_text, four_digits, utf_16_text}
use Rattle.pdf.proofs.Contents.{next_of}
use Rattle.pdf.specs.Documents.{kids_text, layer_object, layer_objects, layers_text, properties_text}
use Rattle.pdf.specs.Objects.{reference_text}

pub layers_next : (number next : ℕ) (xs ys : List ℕ) (x : ℕ) → xs ≡ x ∷ ys → next ≡ number + 1 → layers_text number xs ≡ reference_text number ++ layers_text next ys
layers_next number next xs ys x is after =
    ap (layers_text number) is ∙ ap (λ (k : ℕ). reference_text number ++ layers_text k ys) (sym after)

pub properties_next : (number next : ℕ) (xs ys : List ℕ) (x : ℕ) → xs ≡ x ∷ ys → next ≡ number + 1
    → properties_text number xs ≡ (codes "/P" ++ decimal x ++ reference_text number) ++ properties_text next ys
properties_next number next xs ys x is after =
    ap (properties_text number) is ∙ ap (λ (k : ℕ). codes "/P" ++ decimal x ++ reference_text number ++ properties_text k ys) (sym after) ∙ simp append_assoc

pub kids_next : (number next : ℕ) (xs ys : List ℕ) (x : ℕ) → xs ≡ x ∷ ys → next ≡ number + 3 → kids_text number xs ≡ reference_text number ++ kids_text next ys
kids_next number next xs ys x is after =
    ap (kids_text number) is ∙ ap (λ (k : ℕ). reference_text number ++ kids_text k ys) (sym after)

pub layer_objects_join : (xs : List ℕ) (x : ℕ) → layer_objects (xs ++ x ∷ []) ≡ layer_objects xs ++ layer_object x ∷ []
layer_objects_join [] x = refl
layer_objects_join (y ∷ ys) x = ap (λ (z : List (List ℕ)). layer_object y ∷ z) (layer_objects_join ys x)

pub layer_objects_size : (xs : List ℕ) → length (layer_objects xs) ≡ length xs
layer_objects_size [] = refl
layer_objects_size (x ∷ xs) = ap (λ (k : ℕ). suc k) (layer_objects_size xs)

-- the next of those that are left
pub next_at : (xs : List ℕ) (i : ℕ) → i < length xs → drop i xs ≡ get_or xs i 0 ∷ drop (i + 1) xs
next_at xs i lt = drop-cons xs i 0 lt ∙ ap (λ (n : ℕ). get_or xs i 0 ∷ drop n xs) (sym (add-one i))

pub layer_objects_more : (xs : List ℕ) (i : ℕ) (body : List ℕ) → i < length xs → body ≡ layer_object (get_or xs i 0)
    → layer_objects (take i xs) ++ body ∷ [] ≡ layer_objects (take (i + 1) xs)
layer_objects_more xs i body lt is =
    ap (λ (z : List ℕ). layer_objects (take i xs) ++ z ∷ []) is ∙ sym (layer_objects_join (take i xs) (get_or xs i 0))
    ∙ ap layer_objects (sym (take_more xs i 0 lt))

pub layers_so_far : (xs : List ℕ) (i : ℕ) → i < length xs → i ≡ length (layer_objects (take i xs))
layers_so_far xs i lt = sym (layer_objects_size (take i xs) ∙ length-take-le i xs (omega (arith, lt)))

-- the next character of those that are left
pub next_character : (cs ys : List ℕ) (c : ℕ) → length ys < length cs → c ≡ get_or cs (length ys) c
    → utf_16_text (drop (length ys) cs) ≡ character_text c ++ utf_16_text (drop (length (ys ++ c ∷ [])) cs)
next_character cs ys c lt is =
    let size : length ys + 1 ≡ length (ys ++ c ∷ []) = omega (arith, length-append ys (c ∷ [])) in
    ap utf_16_text (next_of cs (length ys) c lt is) ∙ ap (λ (n : ℕ). character_text c ++ utf_16_text (drop n cs)) size

-- a character of two numbers of 16 bits
pub character_apart : (c : ℕ) → 65536 ≤ c → four_digits (55296 + (c - 65536) / 1024) ++ four_digits (56320 + (c - 65536) % 1024) ≡ character_text c
character_apart c h =
    let test : nat_lt c 65536 ≡ false = grind (arith, nat_tests, h) in
    ap (λ (b : Bool). cond b (four_digits c) (four_digits (55296 + (c - 65536) / 1024) ++ four_digits (56320 + (c - 65536) % 1024))) (sym test)
