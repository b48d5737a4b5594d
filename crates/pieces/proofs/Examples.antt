-- Some thousandths as text.
use Rattle.std.proofs.Common.{◌≡◌, [], ◌∷◌, codes, refl, List, map}
use Rattle.pieces.specs.Fractions.{fraction}

-- a table of examples: each input has its output
abbrev Table : {X Y : Type 0} → (X → Y) → List (X × Y) → Type 0
Table f rows = map (λ it. f it.0) rows ≡ map (λ it. it.1) rows

fractions : Table fraction (
    (0, [])  -- none
    ∷ (600, codes ".6")  -- one digit
    ∷ (650, codes ".65")  -- two digits
    ∷ (625, codes ".625")  -- three digits
    ∷ (25, codes ".025")  -- zeros after the point
    ∷ (1, codes ".001")  -- one thousandth
    ∷ [])
fractions = refl
