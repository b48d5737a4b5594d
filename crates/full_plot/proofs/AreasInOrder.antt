-- Areas one after another, of edges up to so many strokes.
use Rattle.std.proofs.Common.{◌≤◌, ◌<◌, ℕ, inl, inr, arith, List, [], ◌∷◌, ◌++◌, nat_lt, All}
use Rattle.std.proofs.lemmas.Bool.{cases_Bool}
use Rattle.std.proofs.lemmas.Bool.Decides.{nat_tests}
use Rattle.std.proofs.lemmas.List.Elements.{All-cons, All-nil}
use Rattle.areas.specs.Shapes.{AreApart}
use Rattle.areas.specs.declared.area.Area.{Area}
use Rattle.polygons.specs.declared.lines.Rule.{Rule}
use Rattle.full_plot.specs.Fills.{area_of}

-- they are apart, and end up to there
abbrev pub AreUpTo : ℕ → List Area → ℕ → Type 0
AreUpTo at [] count = at ≤ count
AreUpTo at (a ∷ more) count = (at ≤ a.first) × (a.first < a.end) × AreUpTo a.end more count

-- after more strokes
pub up_to_more : (at : ℕ) (list : List Area) (m n : ℕ) → m ≤ n → AreUpTo at list m → AreUpTo at list n
up_to_more at [] m n l h = omega (arith, l, h)
up_to_more at (a ∷ more) m n l h = (h.0, h.1, up_to_more a.end more m n l h.2)

-- with an area of what was drawn after them
pub up_to_added : (at : ℕ) (list : List Area) (m n : ℕ) (rule : Rule) → m ≤ n → AreUpTo at list m → AreUpTo at (list ++ area_of m n rule) n
up_to_added at [] m n rule l h = elim (cases_Bool (nat_lt m n)) [
  | inl t ↦ (let some : m < n = grind (arith, nat_tests) in rw t (h, some, omega arith))
  | inr t ↦ rw t (omega (arith, l, h))
]
up_to_added at (a ∷ more) m n rule l h = (h.0, h.1, up_to_added a.end more m n rule l h.2)

pub are_apart : (at : ℕ) (list : List Area) (count : ℕ) → AreUpTo at list count → AreApart at list
are_apart at [] count h = tt
are_apart at (a ∷ more) count h = (h.0, h.1, are_apart a.end more count h.2)

begins_within : (at : ℕ) (list : List Area) (count : ℕ) → AreUpTo at list count → at ≤ count
begins_within at [] count h = h
begins_within at (a ∷ more) count h = omega (arith, h.0, h.1, begins_within a.end more count h.2)

pub are_within : (at : ℕ) (list : List Area) (count : ℕ) → AreUpTo at list count → All (λ (a : Area). a.end ≤ count) list
are_within at [] count h = All-nil (λ (a : Area). a.end ≤ count)
are_within at (a ∷ more) count h =
    All-cons (λ (a : Area). a.end ≤ count) a more (begins_within a.end more count h.2) (are_within a.end more count h.2)
