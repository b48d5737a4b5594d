-- The sequences that texts begin with are the encodings of code points from 0x80 on.
use Rattle.std.proofs.Common.{◌≡◌, ◌<◌, ◌≤◌, ◌+◌, ◌/◌, ◌%◌, ℕ, Bool, true, false, List, [], ◌∷◌, ◌++◌, Option, Some, None, length, take, drop, find, option_map, if◌then◌else◌, refl, sym, ap, ◌∙◌, subst, arith, inl, inr}
use Rattle.std.proofs.lemmas.Bool.{cases_lt}
use Rattle.std.proofs.lemmas.Bool.Decides.{nat_tests}
use Rattle.std.specs.Char.{encode_utf8, IsScalar}
use Rattle.std.proofs.lemmas.List.{take-append-drop}
use Rattle.character_sets.specs.Laws.{BeginsWithCharacter}
use Rattle.character_sets.specs.Utf8.{begins_in, decoded_sequence, rows, sequence, tail}

-- these bytes are the encoding of a scalar value from 0x80 on
record IsEncoding (text : List ℕ) (code : ℕ) : Type 0 where
  is_scalar : IsScalar code
  wide : 0x80 ≤ code
  bytes : encode_utf8 code ≡ text

of_two : (a b : ℕ) → 0xC2 ≤ a → a ≤ 0xDF → 0x80 ≤ b → b ≤ 0xBF → IsEncoding (a ∷ b ∷ []) (decoded_sequence (a ∷ b ∷ []))
unfolding encode_utf8
of_two a b p q r s = record {
  is_scalar = grind (arith, nat_tests);
  wide = omega arith;
  bytes = grind (arith, nat_tests);
}

of_three : (a b d : ℕ) → 0xE0 ≤ a → a ≤ 0xEF → 0x80 ≤ b → b ≤ 0xBF → 0x80 ≤ d → d ≤ 0xBF
    → 0x800 ≤ decoded_sequence (a ∷ b ∷ d ∷ []) → IsScalar (decoded_sequence (a ∷ b ∷ d ∷ [])) → IsEncoding (a ∷ b ∷ d ∷ []) (decoded_sequence (a ∷ b ∷ d ∷ []))
unfolding encode_utf8
of_three a b d p q r s t u least scalar = record {
  is_scalar = scalar;
  wide = omega arith;
  bytes = grind (arith, nat_tests);
}

of_four : (a b d e : ℕ) → 0xF0 ≤ a → a ≤ 0xF4 → 0x80 ≤ b → b ≤ 0xBF → 0x80 ≤ d → d ≤ 0xBF → 0x80 ≤ e → e ≤ 0xBF
    → 0x10000 ≤ decoded_sequence (a ∷ b ∷ d ∷ e ∷ []) → decoded_sequence (a ∷ b ∷ d ∷ e ∷ []) < 0x110000 → IsEncoding (a ∷ b ∷ d ∷ e ∷ []) (decoded_sequence (a ∷ b ∷ d ∷ e ∷ []))
unfolding encode_utf8
of_four a b d e p q r s t u v w least most = record {
  is_scalar = grind (arith, nat_tests);
  wide = omega arith;
  bytes = grind (arith, nat_tests);
}

encoded_two : (c : ℕ) (text : List ℕ) → 0x80 ≤ c → c < 0x800 → sequence ((192 + c / 64) ∷ (128 + c % 64) ∷ text) ≡ Some c
unfolding sequence
encoded_two c text least most = grind (arith, nat_tests)

encoded_three : (c : ℕ) (text : List ℕ) → 0x800 ≤ c → c < 0x10000 → IsScalar c → sequence ((224 + c / 4096) ∷ (128 + c / 64 % 64) ∷ (128 + c % 64) ∷ text) ≡ Some c
unfolding sequence
encoded_three c text least most scalar = grind (arith, nat_tests)

encoded_four : (c : ℕ) (text : List ℕ) → 0x10000 ≤ c → c < 0x110000 → sequence ((240 + c / 262144) ∷ (128 + c / 4096 % 64) ∷ (128 + c / 64 % 64) ∷ (128 + c % 64) ∷ text) ≡ Some c
unfolding sequence
encoded_four c text least most = grind (arith, nat_tests)

-- a fact of the sequence that is found holds if it holds of the first row that fits, whichever it is
pick : {X : Type 0} (P : X → Type 0) (fits : Bool) (here : X) (others : Option X) (found : X)
    → (fits ≡ true → P here) → (others ≡ Some found → P found)
    → (if fits then Some here else others) ≡ Some found → P found
pick P true here others found p q e = let same : here ≡ found = cc in subst P same (p refl)
pick P false here others found p q e = q e

abbrev Row : Type 0
Row = List (ℕ × ℕ)

-- what holds of a row that a text fits
abbrev IsRowOf : List ℕ → Row → Type 0
IsRowOf text row = IsEncoding (take (length row) text) (decoded_sequence (take (length row) text))

row_of_two : (text : List ℕ) → begins_in text ((0xC2, 0xDF) ∷ tail ∷ []) ≡ true → IsRowOf text ((0xC2, 0xDF) ∷ tail ∷ [])
row_of_two [] h = cc
row_of_two (a ∷ []) h = grind (arith, nat_tests)
row_of_two (a ∷ b ∷ text) h = of_two a b (grind (arith, nat_tests)) (grind (arith, nat_tests)) (grind (arith, nat_tests)) (grind (arith, nat_tests))

abbrev three : ℕ → ℕ → ℕ → ℕ
three a b d = decoded_sequence (a ∷ b ∷ d ∷ [])

abbrev four : ℕ → ℕ → ℕ → ℕ → ℕ
four a b d e = decoded_sequence (a ∷ b ∷ d ∷ e ∷ [])

module _ (first last low high : ℕ) where
  row_of_three : (text : List ℕ) → 0xE0 ≤ first → last ≤ 0xEF → 0x80 ≤ low → high ≤ 0xBF
      → ((a b d : ℕ) → first ≤ a → a ≤ last → low ≤ b → b ≤ high → 0x80 ≤ d → d ≤ 0xBF → (0x800 ≤ three a b d) × IsScalar (three a b d))
      → begins_in text ((first, last) ∷ (low, high) ∷ tail ∷ []) ≡ true → IsRowOf text ((first, last) ∷ (low, high) ∷ tail ∷ [])
  row_of_three [] p q r s all h = cc
  row_of_three (a ∷ []) p q r s all h = grind (arith, nat_tests)
  row_of_three (a ∷ b ∷ []) p q r s all h = grind (arith, nat_tests)
  row_of_three (a ∷ b ∷ d ∷ text) p q r s all h =
      let a_least : first ≤ a = grind (arith, nat_tests) in
      let a_most : a ≤ last = grind (arith, nat_tests) in
      let b_least : low ≤ b = grind (arith, nat_tests) in
      let b_most : b ≤ high = grind (arith, nat_tests) in
      let d_least : 0x80 ≤ d = grind (arith, nat_tests) in
      let d_most : d ≤ 0xBF = grind (arith, nat_tests) in
      let fits = all a b d a_least a_most b_least b_most d_least d_most in
      of_three a b d (omega arith) (omega arith) (omega arith) (omega arith) d_least d_most fits.0 fits.1

  row_of_four : (text : List ℕ) → 0xF0 ≤ first → last ≤ 0xF4 → 0x80 ≤ low → high ≤ 0xBF
      → ((a b d e : ℕ) → first ≤ a → a ≤ last → low ≤ b → b ≤ high → 0x80 ≤ d → d ≤ 0xBF → 0x80 ≤ e → e ≤ 0xBF → (0x10000 ≤ four a b d e) × (four a b d e < 0x110000))
      → begins_in text ((first, last) ∷ (low, high) ∷ tail ∷ tail ∷ []) ≡ true → IsRowOf text ((first, last) ∷ (low, high) ∷ tail ∷ tail ∷ [])
  row_of_four [] p q r s all h = cc
  row_of_four (a ∷ []) p q r s all h = grind (arith, nat_tests)
  row_of_four (a ∷ b ∷ []) p q r s all h = grind (arith, nat_tests)
  row_of_four (a ∷ b ∷ d ∷ []) p q r s all h = grind (arith, nat_tests)
  row_of_four (a ∷ b ∷ d ∷ e ∷ text) p q r s all h =
      let a_least : first ≤ a = grind (arith, nat_tests) in
      let a_most : a ≤ last = grind (arith, nat_tests) in
      let b_least : low ≤ b = grind (arith, nat_tests) in
      let b_most : b ≤ high = grind (arith, nat_tests) in
      let d_least : 0x80 ≤ d = grind (arith, nat_tests) in
      let d_most : d ≤ 0xBF = grind (arith, nat_tests) in
      let e_least : 0x80 ≤ e = grind (arith, nat_tests) in
      let e_most : e ≤ 0xBF = grind (arith, nat_tests) in
      let fits = all a b d e a_least a_most b_least b_most d_least d_most e_least e_most in
      of_four a b d e (omega arith) (omega arith) (omega arith) (omega arith) d_least d_most e_least e_most fits.0 fits.1

found_row : (text : List ℕ) (row : Row) → find (λ row. begins_in text row) rows ≡ Some row → IsRowOf text row
found_row text row =
    pick (IsRowOf text) _ _ _ row (row_of_two text)
    (pick (IsRowOf text) _ _ _ row (row_of_three 0xE0 0xE0 0xA0 0xBF text (omega arith) (omega arith) (omega arith) (omega arith) (λ a b d p q r s t u. (omega arith, grind (arith, nat_tests))))
    (pick (IsRowOf text) _ _ _ row (row_of_three 0xE1 0xEC 0x80 0xBF text (omega arith) (omega arith) (omega arith) (omega arith) (λ a b d p q r s t u. (omega arith, grind (arith, nat_tests))))
    (pick (IsRowOf text) _ _ _ row (row_of_three 0xED 0xED 0x80 0x9F text (omega arith) (omega arith) (omega arith) (omega arith) (λ a b d p q r s t u. (omega arith, grind (arith, nat_tests))))
    (pick (IsRowOf text) _ _ _ row (row_of_three 0xEE 0xEF 0x80 0xBF text (omega arith) (omega arith) (omega arith) (omega arith) (λ a b d p q r s t u. (omega arith, grind (arith, nat_tests))))
    (pick (IsRowOf text) _ _ _ row (row_of_four 0xF0 0xF0 0x90 0xBF text (omega arith) (omega arith) (omega arith) (omega arith) (λ a b d e p q r s t u v w. (omega arith, omega arith)))
    (pick (IsRowOf text) _ _ _ row (row_of_four 0xF1 0xF3 0x80 0xBF text (omega arith) (omega arith) (omega arith) (omega arith) (λ a b d e p q r s t u v w. (omega arith, omega arith)))
    (pick (IsRowOf text) _ _ _ row (row_of_four 0xF4 0xF4 0x80 0x8F text (omega arith) (omega arith) (omega arith) (omega arith) (λ a b d e p q r s t u v w. (omega arith, omega arith)))
    (λ none. cc))))))))

begins : (text : List ℕ) (count code : ℕ) → IsEncoding (take count text) code → BeginsWithCharacter text code
begins text count code e = record {
  is_scalar = e.is_scalar;
  wide = e.wide;
  rest = drop count text;
  bytes = sym (take-append-drop count text) ∙ ap (λ (front : List ℕ). front ++ drop count text) (sym e.bytes);
}

abbrev code_of : List ℕ → Row → ℕ
code_of text row = decoded_sequence (take (length row) text)

found_of : (text : List ℕ) (found : Option Row) (code : ℕ) → ((row : Row) → found ≡ Some row → IsRowOf text row)
    → option_map (λ row. code_of text row) found ≡ Some code → BeginsWithCharacter text code
found_of text None code h e = cc
found_of text (Some row) code h e =
    let same : code_of text row ≡ code = cc in
    subst (λ (c : ℕ). BeginsWithCharacter text c) same (begins text (length row) (code_of text row) (h row refl))

pub sound : (text : List ℕ) (code : ℕ) → sequence text ≡ Some code → BeginsWithCharacter text code
unfolding sequence
sound text code e = found_of text (find (λ row. begins_in text row) rows) code (found_row text) e

encode_two : (code : ℕ) → 0x80 ≤ code → code < 0x800 → encode_utf8 code ≡ (192 + code / 64) ∷ (128 + code % 64) ∷ []
unfolding encode_utf8
encode_two code least most = grind (arith, nat_tests)

encode_three : (code : ℕ) → 0x800 ≤ code → code < 0x10000 → encode_utf8 code ≡ (224 + code / 4096) ∷ (128 + code / 64 % 64) ∷ (128 + code % 64) ∷ []
unfolding encode_utf8
encode_three code least most = grind (arith, nat_tests)

encode_four : (code : ℕ) → 0x10000 ≤ code → encode_utf8 code ≡ (240 + code / 262144) ∷ (128 + code / 4096 % 64) ∷ (128 + code / 64 % 64) ∷ (128 + code % 64) ∷ []
unfolding encode_utf8
encode_four code least = grind (arith, nat_tests)

below_end : (code : ℕ) → IsScalar code → code < 0x110000
below_end code scalar = grind (arith, nat_tests)

encoded : (text : List ℕ) (code : ℕ) → IsScalar code → 0x80 ≤ code → sequence (encode_utf8 code ++ text) ≡ Some code
encoded text code scalar wide = elim (cases_lt code 0x800) [
  | inl low ↦ rw (encode_two code wide low) (encoded_two code text wide low)
  | inr high ↦ elim (cases_lt code 0x10000) [
    | inl low ↦ rw (encode_three code high low) (encoded_three code text high low scalar)
    | inr higher ↦ rw (encode_four code higher) (encoded_four code text higher (below_end code scalar))
  ]
]

pub complete : (text : List ℕ) (code : ℕ) → BeginsWithCharacter text code → sequence text ≡ Some code
complete text code e = ap (λ (bytes : List ℕ). sequence bytes) e.bytes ∙ encoded e.rest code e.is_scalar e.wide
