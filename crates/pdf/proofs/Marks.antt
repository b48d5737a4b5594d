-- Rows that are marked.
use Rattle.std.proofs.Common.{◌≡◌, ℕ, ◌+◌, ◌<◌, ◌||◌, List, [], ◌∷◌, ◌++◌, Bool, length, take, get_or, ap, sym, ◌∙◌}
use Rattle.std.specs.List.{list_any}
use Rattle.std.proofs.Math.Bool.{or-false}
use Rattle.std.proofs.lemmas.List.{take_more}
use Rattle.std.proofs.lemmas.List.Folds.{list_any-append}

-- one element more
pub any_next : {A : Type 0} (p : A → Bool) (xs : List A) (i : ℕ) (x : A) → i < length xs → x ≡ get_or xs i x → list_any p (take (i + 1) xs) ≡ (list_any p (take i xs) || p x)
any_next {A} p xs i x lt is =
    ap (list_any p) (take_more xs i x lt ∙ ap (λ (z : A). take i xs ++ z ∷ []) (sym is)) ∙ list_any-append p (take i xs) (x ∷ [])
    ∙ ap (λ (b : Bool). list_any p (take i xs) || b) (or-false (p x))
