-- Tables of worked examples, and the places in them.
use Rattle.std.proofs.Common.{◌≡◌, ℤ, List, map}
use Rattle.exact.specs.declared.spot.Spot.{Spot}

-- each input has its output
abbrev pub Table : {X Y : Type 0} → (X → Y) → List (X × Y) → Type 0
Table f rows = map (λ it. f it.0) rows ≡ map (λ it. it.1) rows

-- each value agrees with the one beside it
abbrev pub Agree : {X : Type 0} → List (X × X) → Type 0
Agree rows = map (λ it. it.0) rows ≡ map (λ it. it.1) rows

-- the place of two coordinates
abbrev pub at : ℤ → ℤ → Spot
at x y = record { x = x; y = y }
