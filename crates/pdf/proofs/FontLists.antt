-- Fonts that are written one after another.
use Rattle.std.proofs.Common.{◌≡◌, ℕ, zero, suc, false, nat_eq, ◌+◌, ◌*◌, ◌<◌, ◌≤◌, List, [], ◌∷◌, ◌++◌, length, take, get_or, refl, ap, sym, ◌∙◌, append_assoc, codes, decimal, arith}
use Rattle.std.proofs.lemmas.List.{length-take-le, take_more}
use Rattle.std.specs.Fmt.{digits}
use Rattle.pdf.specs.Documents.{encoding_text, font_count, font_object, font_objects, fonts_text, names_text, resources_text, row_objects, unicode_object}
use Rattle.pdf.specs.Numbers.{two_digits}
use Rattle.pdf.specs.Objects.{reference_text}

pub fonts_next : (number next : ℕ) (xs ys : List ℕ) (x : ℕ) → xs ≡ x ∷ ys → next ≡ number + 2
    → fonts_text number xs ≡ (codes "/F" ++ decimal x ++ reference_text number) ++ fonts_text next ys
fonts_next number next xs ys x is after =
    ap (fonts_text number) is ∙ ap (λ (k : ℕ). codes "/F" ++ decimal x ++ reference_text number ++ fonts_text k ys) (sym after) ∙ simp append_assoc

-- one name more
pub names_next : (n : ℕ) → names_text n ++ codes "/a" ≡ names_text (suc n)
names_next zero = refl
names_next (suc n) = ap (λ (z : List ℕ). codes "/a" ++ z) (names_next n)

-- one row more
pub rows_join : (encoding before : ℕ) (xs : List ℕ) (x : ℕ)
    → row_objects encoding before (xs ++ x ∷ []) ≡ row_objects encoding before xs ++ font_object encoding (before + 2 * length xs + 2) ∷ unicode_object x ∷ []
rows_join encoding before [] x =
    ap (λ (k : ℕ). font_object encoding (k + 2) ∷ unicode_object x ∷ []) (let e : before ≡ before + 2 * 0 = omega arith in e)
rows_join encoding before (y ∷ ys) x =
    ap (λ (z : List (List ℕ)). font_object encoding (before + 2) ∷ unicode_object y ∷ z) (rows_join encoding (before + 2) ys x)
    ∙ ap (λ (k : ℕ). font_object encoding (before + 2) ∷ unicode_object y ∷ (row_objects encoding (before + 2) ys ++ font_object encoding (k + 2) ∷ unicode_object x ∷ []))
    (let e : before + 2 + 2 * length ys ≡ before + 2 * length (y ∷ ys) = omega arith in e)

pub rows_size : (encoding before : ℕ) (xs : List ℕ) → length (row_objects encoding before xs) ≡ 2 * length xs
rows_size encoding before [] = refl
rows_size encoding before (x ∷ xs) =
    ap (λ (k : ℕ). suc (suc k)) (rows_size encoding (before + 2) xs) ∙ (let e : suc (suc (2 * length xs)) ≡ 2 * length (x ∷ xs) = omega arith in e)

pub rows_more : (encoding : ℕ) (xs : List ℕ) (i x : ℕ) → i < length xs → x ≡ get_or xs i 0
    → row_objects encoding encoding (take i xs) ++ font_object encoding (encoding + 2 * i + 2) ∷ unicode_object x ∷ [] ≡ row_objects encoding encoding (take (i + 1) xs)
rows_more encoding xs i x lt is =
    let size : i ≡ length (take i xs) = sym (length-take-le i xs (omega (arith, lt))) in
    ap (λ (k : ℕ). row_objects encoding encoding (take i xs) ++ font_object encoding (encoding + 2 * k + 2) ∷ unicode_object x ∷ []) size
    ∙ ap (λ (k : ℕ). row_objects encoding encoding (take i xs) ++ font_object encoding (encoding + 2 * length (take i xs) + 2) ∷ unicode_object k ∷ []) is
    ∙ sym (rows_join encoding encoding (take i xs) (get_or xs i 0)) ∙ ap (row_objects encoding encoding) (sym (take_more xs i 0 lt))

pub rows_so_far : (encoding : ℕ) (xs : List ℕ) (i : ℕ) → i < length xs → encoding + 2 * i ≡ encoding + length (row_objects encoding encoding (take i xs))
rows_so_far encoding xs i lt =
    ap (λ (k : ℕ). encoding + k) (sym (rows_size encoding encoding (take i xs) ∙ ap (λ (k : ℕ). 2 * k) (length-take-le i xs (omega (arith, lt)))))

pub fonts_size : (before : ℕ) (xs : List ℕ) → length (font_objects before xs) ≡ font_count xs
fonts_size before [] = refl
fonts_size before (x ∷ xs) =
    ap suc (rows_size (before + 1) (before + 1) (x ∷ xs)) ∙ (let e : suc (2 * length (x ∷ xs)) ≡ 1 + 2 * length (x ∷ xs) = omega arith in e)

-- the parts of the Unicode of a row
abbrev pub first_part : List ℕ
first_part = codes "<</Length 313>>stream\n/CIDInit /ProcSet findresource begin\n12 dict begin\nbegincmap\n"

abbrev pub second_part : List ℕ
second_part = codes "/CIDSystemInfo<</Registry(Adobe)/Ordering(UCS)/Supplement 0>>def\n/CMapName/Row"

abbrev pub third_part : List ℕ
third_part = codes " def\n/CMapType 2 def\n1 begincodespacerange\n<00><ff>\nendcodespacerange\n1 beginbfrange\n<00><ff><"

abbrev pub last_part : List ℕ
last_part = codes "00>\nendbfrange\nendcmap\nCMapName currentdict/CMap defineresource pop\nend\nend\n\nendstream"

pub unicode_whole : (row : ℕ) → ((((first_part ++ second_part) ++ two_digits row) ++ third_part) ++ two_digits row) ++ last_part ≡ unicode_object row
unfolding digits
unicode_whole row = refl

pub fonts_whole : (before : ℕ) (xs : List ℕ) → 1 ≤ length xs → encoding_text ∷ row_objects (before + 1) (before + 1) xs ≡ font_objects before xs
fonts_whole before [] h = absurd (omega (arith, h))
fonts_whole before (x ∷ xs) h = refl

pub fonts_most : (xs : List ℕ) → length xs ≤ 256 → font_count xs ≤ 513
fonts_most [] h = omega arith
fonts_most (x ∷ xs) h = omega (arith, h)

pub some_rows : (xs : List ℕ) → false ≡ nat_eq (length xs) 0 → 1 ≤ length xs
some_rows [] h = absurd (cc)
some_rows (x ∷ xs) h = omega arith

pub resources_whole : (encoding : ℕ) (xs : List ℕ) → 1 ≤ length xs → (codes "/Font<<" ++ fonts_text (encoding + 1) xs) ++ codes ">>" ≡ resources_text encoding xs
resources_whole encoding [] h = absurd (omega (arith, h))
resources_whole encoding (x ∷ xs) h = refl
