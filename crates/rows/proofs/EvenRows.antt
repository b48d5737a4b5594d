-- Rows of as many bytes each.
use Rattle.std.proofs.Common.{◌≡◌, ℕ, suc, ◌+◌, ◌*◌, ◌<◌, ◌≤◌, List, [], ◌∷◌, length, take, get_or, ap, ◌∙◌, arith, length-append}
use Rattle.std.proofs.lemmas.List.{get_or-take, length-take-le}
use Rattle.picture_out.specs.declared.form.Form.{Form}
use Rattle.picture_out.specs.declared.inks.Ink.{Ink}
use Rattle.picture_out.specs.Forms.{row_bytes}
use Rattle.rows.specs.Progress.{AreEven, rows_text}

tail_even : (form : Form) (inks : List Ink) (at s : ℕ) (x : List ℕ) (xs : List (List ℕ)) → AreEven form inks at (x ∷ xs) s → AreEven form inks (at + 1) xs s
tail_even form inks at s x xs even = λ k h. ap (λ (n : ℕ). length (row_bytes form n inks (get_or xs k []))) (omega arith) ∙ even (suc k) (omega (arith, h))

-- how many bytes rows have
pub text_size : (form : Form) (inks : List Ink) (at s : ℕ) (rows : List (List ℕ)) → AreEven form inks at rows s → length (rows_text form inks at rows) ≡ length rows * s
text_size form inks at s [] even = omega arith
text_size form inks at s (x ∷ xs) even =
    let one : length (row_bytes form at inks x) ≡ s = ap (λ (n : ℕ). length (row_bytes form n inks x)) (omega arith) ∙ even 0 (omega arith) in
    let more = text_size form inks (at + 1) s xs (tail_even form inks at s x xs even) in
    omega (arith, one, more, length-append (row_bytes form at inks x) (rows_text form inks (at + 1) xs))

-- the first rows are as long as all
pub first_even : (form : Form) (inks : List Ink) (at s k : ℕ) (rows : List (List ℕ)) → k ≤ length rows → AreEven form inks at rows s → AreEven form inks at (take k rows) s
first_even form inks at s k rows fit even = λ i h.
    let size = length-take-le k rows fit in
    let u : i < k = omega (arith, h, size) in
    ap (λ (z : List ℕ). length (row_bytes form (at + i) inks z)) (get_or-take k rows i [] u) ∙ even i (omega (arith, u, fit))
