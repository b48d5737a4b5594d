-- The bytes of the rows in a list, row by row.
use Rattle.std.proofs.Common.{◌≡◌, ℕ, zero, suc, ◌+◌, ◌<◌, List, [], ◌∷◌, ◌++◌, length, take, drop, map}
use Rattle.std.proofs.Common.{get_or, refl, sym, ap, ◌∙◌, arith, append_assoc, append-nil, length-append}
use Rattle.std.proofs.lemmas.List.{drop_more, length-take-le}
use Rattle.std.proofs.lemmas.Grind.{take_at_read}
use Rattle.std.specs.List.{range_with_len}
use Rattle.picture_out.specs.declared.form.Form.{Form}
use Rattle.picture_out.specs.declared.inks.Ink.{Ink}
use Rattle.picture_out.specs.Forms.{row_bytes}
use Rattle.rows.specs.Pictures.{rows_bytes}
use Rattle.rows.specs.Progress.{rows_text}

pub text-append : (form : Form) (inks : List Ink) (at : ℕ) (xs ys : List (List ℕ)) → rows_text form inks at (xs ++ ys) ≡ rows_text form inks at xs ++ rows_text form inks (at + length xs) ys
text-append form inks at [] ys = ap (λ (n : ℕ). rows_text form inks n ys) (omega arith)
text-append form inks at (x ∷ xs) ys =
    ap (λ (z : List ℕ). row_bytes form at inks x ++ z) (text-append form inks (at + 1) xs ys)
    ∙ sym (append_assoc (row_bytes form at inks x) (rows_text form inks (at + 1) xs) (rows_text form inks (at + 1 + length xs) ys))
    ∙ ap (λ (n : ℕ). (row_bytes form at inks x ++ rows_text form inks (at + 1) xs) ++ rows_text form inks n ys) (omega arith)

-- the first of the rows that are left
pub text_next : (form : Form) (inks : List Ink) (at i : ℕ) (rows : List (List ℕ)) → i < length rows → rows_text form inks (at + i) (drop i rows) ≡ row_bytes form (at + i) inks (get_or rows i []) ++ rows_text form inks (at + (i + 1)) (drop (i + 1) rows)
text_next form inks at i rows lt =
    ap (rows_text form inks (at + i)) (drop_more rows i [] lt)
    ∙ ap (λ (n : ℕ). row_bytes form (at + i) inks (get_or rows i []) ++ rows_text form inks n (drop (i + 1) rows)) (omega arith)

-- one more row after those before it
pub text_one_more : (form : Form) (inks : List Ink) (at i : ℕ) (rows : List (List ℕ)) → i < length rows → rows_text form inks at (take (i + 1) rows) ≡ rows_text form inks at (take i rows) ++ row_bytes form (at + i) inks (get_or rows i [])
text_one_more form inks at i rows lt =
    let before = rows_text form inks at (take i rows) in
    let n : length (take i rows) ≡ i = length-take-le i rows (omega arith) in
    ap (rows_text form inks at) (take_at_read rows i [] lt).1
    ∙ text-append form inks at (take i rows) (get_or rows i [] ∷ [])
    ∙ ap (λ (k : ℕ). before ++ rows_text form inks (at + k) (get_or rows i [] ∷ [])) n
    ∙ ap (λ (z : List ℕ). before ++ z) (append-nil (row_bytes form (at + i) inks (get_or rows i [])))

pub text_more : (form : Form) (inks : List Ink) (at i : ℕ) (rows : List (List ℕ)) → i < length rows → length (rows_text form inks at (take (i + 1) rows)) ≡ length (rows_text form inks at (take i rows)) + length (row_bytes form (at + i) inks (get_or rows i []))
text_more form inks at i rows lt = ap length (text_one_more form inks at i rows lt) ∙ length-append (rows_text form inks at (take i rows)) (row_bytes form (at + i) inks (get_or rows i []))

-- the rows that a band shows, as the rows of the picture
pub text_is : (form : Form) (inks : List Ink) (row : ℕ → List ℕ) (pens : ℕ → List ℕ) (at n : ℕ) → ((r : ℕ) → row r ≡ row_bytes form r inks (pens r)) → rows_text form inks at (map pens (range_with_len at n)) ≡ rows_bytes row at n
text_is form inks row pens at zero h = refl
text_is form inks row pens at (suc n) h =
    ap (λ (z : List ℕ). z ++ rows_text form inks (at + 1) (map pens (range_with_len (at + 1) n))) (sym (h at))
    ∙ ap (λ (z : List ℕ). row at ++ z) (text_is form inks row pens (at + 1) n h)
