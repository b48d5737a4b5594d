-- Each object begins where the table says.
use Rattle.std.proofs.Common.{◌≡◌, ℕ, zero, suc, ◌+◌, ◌<◌, List, [], ◌∷◌, ◌++◌, length, get_or, take, refl, ap, sym, ◌∙◌, append_assoc, length-append, arith, subst}
use Rattle.std.proofs.Math.Seq.{take-append_seam, drop-append_seam}
use Rattle.pdf.specs.Documents.{document_text, end_text, header_text}
use Rattle.pdf.specs.Laws.{BeginsAt}
use Rattle.pdf.specs.Objects.{object_text, objects_text, offsets_of}
use Rattle.pdf.specs.declared.units.PageUnit.{PageUnit}

pub offsets_size : (at before : ℕ) (xs : List (List ℕ)) → length (offsets_of at before xs) ≡ length xs
offsets_size at before [] = refl
offsets_size at before (x ∷ xs) = ap (λ (k : ℕ). suc k) (offsets_size (at + length (object_text before x)) (before + 1) xs)

begins_first : (front object others after : List ℕ) → BeginsAt (front ++ ((object ++ others) ++ after)) (length front) object
begins_first front object others after =
    ap (λ (z : List ℕ). take (length object) z) (drop-append_seam front ((object ++ others) ++ after) ∙ append_assoc object others after)
    ∙ take-append_seam object (others ++ after)

-- after some text, objects begin where they are noted
begins_after : (front after : List ℕ) (before : ℕ) (xs : List (List ℕ)) (k : ℕ) → k < length xs
    → BeginsAt (front ++ (objects_text before xs ++ after)) (get_or (offsets_of (length front) before xs) k 0) (object_text (before + k) (get_or xs k []))
begins_after front after before [] k lt = absurd (omega (arith, lt))
begins_after front after before (x ∷ xs) zero lt =
    let P : ℕ → Type 0 = λ n. BeginsAt (front ++ (objects_text before (x ∷ xs) ++ after)) (length front) (object_text n x) in
    let e : before ≡ before + 0 = omega arith in
    subst P e (begins_first front (object_text before x) (objects_text (before + 1) xs) after)
begins_after front after before (x ∷ xs) (suc k) lt =
    let first = object_text before x in
    let others = objects_text (before + 1) xs in
    let P : List ℕ → Type 0 = λ z. BeginsAt z (get_or (offsets_of (length (front ++ first)) (before + 1) xs) k 0) (object_text (before + 1 + k) (get_or xs k [])) in
    let Q : ℕ → Type 0 = λ n. BeginsAt (front ++ ((first ++ others) ++ after)) (get_or (offsets_of n (before + 1) xs) k 0) (object_text (before + 1 + k) (get_or xs k [])) in
    let R : ℕ → Type 0 = λ n. BeginsAt (front ++ ((first ++ others) ++ after)) (get_or (offsets_of (length front + length first) (before + 1) xs) k 0) (object_text n (get_or xs k [])) in
    let same : (front ++ first) ++ (others ++ after) ≡ front ++ ((first ++ others) ++ after) =
    append_assoc front first (others ++ after) ∙ ap (λ (z : List ℕ). front ++ z) (sym (append_assoc first others after)) in
    let number : before + 1 + k ≡ before + suc k = omega arith in
    subst R number (subst Q (length-append front first) (subst P same (begins_after (front ++ first) after (before + 1) xs k (omega (arith, lt)))))

pub begins : (unit : PageUnit) (all : List (List ℕ)) (k : ℕ) → k < length all → BeginsAt (document_text unit all) (get_or (offsets_of (length (header_text unit)) 0 all) k 0) (object_text k (get_or all k []))
begins unit all k lt =
    let header = header_text unit in
    let after = end_text (offsets_of (length header) 0 all) (length (header ++ objects_text 0 all)) in
    let P : ℕ → Type 0 = λ n. BeginsAt (document_text unit all) (get_or (offsets_of (length header) 0 all) k 0) (object_text n (get_or all k [])) in
    let Q : List ℕ → Type 0 = λ z. BeginsAt z (get_or (offsets_of (length header) 0 all) k 0) (object_text (0 + k) (get_or all k [])) in
    let number : 0 + k ≡ k = omega arith in
    subst P number (subst Q (sym (append_assoc header (objects_text 0 all) after)) (begins_after header after 0 all k lt))
