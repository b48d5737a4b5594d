-- What holds of the cut of a plot in the profile full.
use Rattle.std.specs.Prelude.{◌≡◌, ℕ, ◌+◌, ◌≤◌, List, [], ◌∷◌, length, take, drop, All, ⊤}
use Rattle.hpgl_text.specs.declared.profile.Profile.{Profile}
use Rattle.hpgl_text.specs.declared.profile.Profile.TheVariants.{Full}
use Rattle.hpgl_text.specs.Bytes.{escape as esc}
use Rattle.hpgl_text.specs.Shapes.{ItemShape, BodyShape, Escape}
use Rattle.hpgl_text.specs.Cut.{cut_by as text_cut_by}
use Rattle.full_text.specs.Cut.{full_cut, cut_by}

-- no byte is an ESC
abbrev pub HasNoEscape : List ℕ → Type 0
HasNoEscape plot = All (λ byte. ¬ (byte ≡ esc)) plot

-- a plot without ESC has the items that its instructions alone are cut into
abbrev pub WithoutEscapes : Type 0
WithoutEscapes = (plot : List ℕ) → HasNoEscape plot → full_cut plot ≡ text_cut_by Full plot

-- how many bytes an item has at least: those of an escape, with its data, are all
abbrev pub least_bytes : BodyShape → ℕ
least_bytes (Escape taken) = 1 + length taken
least_bytes _ = 1

-- the items are in the plot's order, from a place on: no item begins within an escape or its data
abbrev pub AreApartFrom : ℕ → List ItemShape → Type 0
AreApartFrom at [] = ⊤
AreApartFrom at (item ∷ items) = (at ≤ item.at) × AreApartFrom (item.at + least_bytes item.body) items

abbrev pub ItemsAreApart : Type 0
ItemsAreApart = (plot : List ℕ) → AreApartFrom 0 (full_cut plot)

-- an escape has its own bytes of the plot
abbrev pub IsTakenFrom : List ℕ → ItemShape → BodyShape → Type 0
IsTakenFrom plot item (Escape taken) = esc ∷ taken ≡ take (1 + length taken) (drop item.at plot)
IsTakenFrom plot item _ = ⊤

abbrev pub EscapesAreTaken : Type 0
EscapesAreTaken = (plot : List ℕ) → All (λ item. IsTakenFrom plot item item.body) (full_cut plot)

-- a plot has at most as many items as bytes, in each profile
abbrev pub ItemsAreFew : Type 0
ItemsAreFew = (profile : Profile) (plot : List ℕ) → length (cut_by profile plot) ≤ length plot
