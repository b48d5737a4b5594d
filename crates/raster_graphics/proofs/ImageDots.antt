-- The planes of a row, in place of all that follow them.
use Rattle.std.proofs.Common.{◌≡◌, ◌∙◌, sym, ap, refl, ℕ, zero, suc, ◌+◌, ◌<◌, ◌≤◌, List, [], ◌∷◌, drop, get_or, subst, arith}
use Rattle.std.proofs.lemmas.List.{get_or-drop}
use Rattle.plot_page.specs.declared.colour.Colour.{Colour}
use Rattle.image_colours.specs.declared.coding.Coding.{Coding}
use Rattle.image_colours.specs.declared.coding.Coding.TheVariants.{Black, BlackAndCmy, DirectPlanes, IndexPlanes, IndexPixels, DirectPixels}
use Rattle.image_colours.specs.declared.bits.Bits.TheVariants.{One, Two, Three, Four, Five, Six, Seven, Eight}
use Rattle.image_colours.specs.Counts.{plane_count}
use Rattle.image_colours.specs.Dots.{colour_of}
use Rattle.image_colours.specs.Laws.{HaveSame}
use Rattle.image_colours.proofs.DotLaws.{dots_depend_on_their_bits_lem}

have_same : (coding : Coding) (plane other : List ℕ) (column : ℕ) → plane ≡ other → HaveSame coding plane other column
have_same coding plane other column e = let P : List ℕ
    → Type 0 = λ z. HaveSame coding plane z column in subst P e (same_self coding plane column)
  where
    same_self : (coding : Coding) (plane : List ℕ) (column : ℕ) → HaveSame coding plane plane column
    same_self Black plane column = refl
    same_self BlackAndCmy plane column = refl
    same_self (DirectPlanes space) plane column = refl
    same_self (IndexPlanes bits entries) plane column = refl
    same_self (IndexPixels bits entries) plane column = refl
    same_self (DirectPixels space) plane column = λ k h. refl

few_planes : (coding : Coding) → plane_count coding ≤ 8
few_planes Black = omega arith
few_planes BlackAndCmy = omega arith
few_planes (DirectPlanes space) = omega arith
few_planes (IndexPlanes One entries) = omega arith
few_planes (IndexPlanes Two entries) = omega arith
few_planes (IndexPlanes Three entries) = omega arith
few_planes (IndexPlanes Four entries) = omega arith
few_planes (IndexPlanes Five entries) = omega arith
few_planes (IndexPlanes Six entries) = omega arith
few_planes (IndexPlanes Seven entries) = omega arith
few_planes (IndexPlanes Eight entries) = omega arith
few_planes (IndexPixels bits entries) = omega arith
few_planes (DirectPixels space) = omega arith

-- eight planes from one on
pub eight : List (List ℕ) → ℕ → List (List ℕ)
eight planes first =
    get_or planes first [] ∷ get_or planes (first + 1) [] ∷ get_or planes (first + 2) [] ∷ get_or planes (first + 3) []
    ∷ get_or planes (first + 4) [] ∷ get_or planes (first + 5) [] ∷ get_or planes (first + 6) [] ∷ get_or planes (first + 7) [] ∷ []

at_eight : (planes : List (List ℕ)) (first p : ℕ) → p < 8 → get_or (eight planes first) p [] ≡ get_or planes (first + p) []
unfolding eight
at_eight planes first zero h = let e : first ≡ first + 0 = omega arith in ap (λ (k : ℕ). get_or planes k []) e
at_eight planes first (suc zero) h = refl
at_eight planes first (suc (suc zero)) h = refl
at_eight planes first (suc (suc (suc zero))) h = refl
at_eight planes first (suc (suc (suc (suc zero)))) h = refl
at_eight planes first (suc (suc (suc (suc (suc zero))))) h = refl
at_eight planes first (suc (suc (suc (suc (suc (suc zero)))))) h = refl
at_eight planes first (suc (suc (suc (suc (suc (suc (suc zero))))))) h = refl
at_eight planes first (suc (suc (suc (suc (suc (suc (suc (suc p)))))))) h = absurd (omega (arith, h))

pub eight_are : (planes : List (List ℕ)) (first : ℕ) (a b c d e f g h : List ℕ)
    → a ≡ get_or planes first [] → b ≡ get_or planes (first + 1) [] → c ≡ get_or planes (first + 2) []
    → d ≡ get_or planes (first + 3) []
    → e ≡ get_or planes (first + 4) [] → f ≡ get_or planes (first + 5) [] → g ≡ get_or planes (first + 6) []
    → h ≡ get_or planes (first + 7) []
    → a ∷ b ∷ c ∷ d ∷ e ∷ f ∷ g ∷ h ∷ [] ≡ eight planes first
unfolding eight
eight_are planes first a b c d e f g h i j k l m n o p = cc

-- a dot has its colour of them
pub colour_of_eight : (coding : Coding) (palette : List Colour) (planes : List (List ℕ)) (first column : ℕ)
    → colour_of coding palette (eight planes first) column ≡ colour_of coding palette (drop first planes) column
colour_of_eight coding palette planes first column =
    dots_depend_on_their_bits_lem coding palette (eight planes first) (drop first planes) column
    (λ p h. have_same coding (get_or (eight planes first) p []) (get_or (drop first planes) p []) column
    (at_eight planes first p (omega (arith, h, few_planes coding)) ∙ sym (get_or-drop first planes p [])))
