-- The reader reads the text of a title as it was written.
use Rattle.std.proofs.Common.{◌≡◌, ◌∙◌, ℕ, ◌==◌, Bool, true, false, cond, List, [], ◌∷◌, ◌++◌, Option, Some, codes, refl, ap, sym, arith, append_assoc}
use Rattle.std.proofs.lemmas.Bool.Decides.{nat_tests}
use Rattle.std.specs.Char.{encode_utf8}
use Rattle.std.specs.List.{concat}
use Rattle.pieces.proofs.Scans.{cut_plain}
use Rattle.pieces.specs.Readings.{Cut, cut, each, ◌>>=◌}
use Rattle.svg.specs.Reader.{resolved, resolved_text}
use Rattle.svg.specs.Titles.{character, text_bytes, utf_8}
use Rattle.svg.proofs.TitleTexts.{utf8_lacks}

abbrev is_reference : ℕ → Bool
is_reference c = c == 38

-- the text before the first reference, and those after references, are this text
record Reads (text utf : List ℕ) : Type 0 where
  rest : List (List ℕ)
  each_read : each resolved (cut is_reference text).parts ≡ Some rest
  all : (cut is_reference text).front ++ concat rest ≡ utf

abbrev after_one : List ℕ → List ℕ → Option (List (List ℕ)) → Option (List (List ℕ))
after_one byte front o = o >>= (λ ys. Some ((byte ++ front) ∷ ys))

read_step : (a b d : Bool) (c : ℕ) (text utf : List ℕ) → (c == 38) ≡ a → (c == 60) ≡ b → (c == 62) ≡ d → Reads text utf → Reads (cond a (codes "&amp;") (cond b (codes "&lt;") (cond d (codes "&gt;") (encode_utf8 c))) ++ text) (encode_utf8 c ++ utf)
unfolding encode_utf8
read_step true b d c text utf e f g h =
    let same : c ≡ 38 = grind (arith, nat_tests, e) in
    let front = (cut is_reference text).front in
    record {
      rest = (38 ∷ front) ∷ h.rest;
      each_read = ap (λ (o : Option (List (List ℕ))). after_one (38 ∷ []) front o) h.each_read;
      all = ap (λ (z : List ℕ). 38 ∷ z) h.all ∙ sym (ap (λ (k : ℕ). encode_utf8 k ++ utf) same);
    }
read_step false true d c text utf e f g h =
    let same : c ≡ 60 = grind (arith, nat_tests, f) in
    let front = (cut is_reference text).front in
    record {
      rest = (60 ∷ front) ∷ h.rest;
      each_read = ap (λ (o : Option (List (List ℕ))). after_one (60 ∷ []) front o) h.each_read;
      all = ap (λ (z : List ℕ). 60 ∷ z) h.all ∙ sym (ap (λ (k : ℕ). encode_utf8 k ++ utf) same);
    }
read_step false false true c text utf e f g h =
    let same : c ≡ 62 = grind (arith, nat_tests, g) in
    let front = (cut is_reference text).front in
    record {
      rest = (62 ∷ front) ∷ h.rest;
      each_read = ap (λ (o : Option (List (List ℕ))). after_one (62 ∷ []) front o) h.each_read;
      all = ap (λ (z : List ℕ). 62 ∷ z) h.all ∙ sym (ap (λ (k : ℕ). encode_utf8 k ++ utf) same);
    }
read_step false false false c text utf e f g h =
    let plain = cut_plain is_reference (encode_utf8 c) text (utf8_lacks is_reference (λ n k. grind (arith, nat_tests)) c e) in
    let rest = h.rest in
    record {
      rest = rest;
      each_read = ap (λ (t : Cut). each resolved t.parts) plain ∙ h.each_read;
      all = ap (λ (t : Cut). t.front ++ concat rest) plain ∙ append_assoc (encode_utf8 c) (cut is_reference text).front (concat rest) ∙ ap (λ (z : List ℕ). encode_utf8 c ++ z) h.all;
    }

reads : (text : List ℕ) → Reads (text_bytes text) (utf_8 text)
reads [] = record { rest = []; each_read = refl; all = refl }
reads (c ∷ cs) =
    let k = character c in
    read_step (k == 38) (k == 60) (k == 62) k (text_bytes cs) (utf_8 cs) refl refl refl (reads cs)

pub title_read : (text : List ℕ) → resolved_text (text_bytes text) ≡ Some (utf_8 text)
title_read text =
    let h = reads text in
    ap (λ (o : Option (List (List ℕ))). o >>= (λ rest. Some ((cut is_reference (text_bytes text)).front ++ concat rest))) h.each_read ∙ ap (λ (z : List ℕ). Some z) h.all
