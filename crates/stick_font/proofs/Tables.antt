-- The tables of the font, as the code reads them.
use Rattle.std.proofs.Common.{◌≡◌, ℕ, zero, suc, List, [], ◌∷◌, map, get_or, refl, Bor}

abbrev pub texts_of : Bor (List (Bor (List ℕ))) → List (List ℕ)
texts_of lines = map (λ line. line.now) lines.now

-- a row that is read from a table is the row of the table's texts
pub texts-get_or : (xs : List (Bor (List (Bor (List ℕ))))) (i : ℕ) (none : Bor (List (Bor (List ℕ)))) → map (λ line. line.now) (get_or xs i none).now ≡ get_or (map texts_of xs) i (texts_of none)
texts-get_or [] i none = refl
texts-get_or (x ∷ xs) zero none = refl
texts-get_or (x ∷ xs) (suc i) none = texts-get_or xs i none
