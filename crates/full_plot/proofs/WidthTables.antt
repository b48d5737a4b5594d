-- Numbers of PW and DI.
use Rattle.std.proofs.Common.{◌≡◌, ℤ, List, [], take, ◌∷◌, refl}
use Rattle.full_settings.specs.LetterParameters.{letter_direction}
use Rattle.full_settings.specs.WidthParameters.{percent_width}

-- further numbers of a PW in percent are not read
pub first_numbers : (ns : List ℤ) → percent_width (take 7 ns) ≡ percent_width ns
first_numbers [] = refl
first_numbers (n ∷ []) = refl
first_numbers (n ∷ (p ∷ ns)) = refl

-- nor are those of a DI
pub first_direction : (ns : List ℤ) → letter_direction (take 7 ns) ≡ letter_direction ns
first_direction [] = refl
first_direction (x ∷ []) = refl
first_direction (x ∷ (y ∷ ns)) = refl
