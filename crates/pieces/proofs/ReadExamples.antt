-- Texts that are read.
use Rattle.std.proofs.Common.{◌≡◌, ◌==◌, pos, negsuc, [], ◌∷◌, Some, None, codes, map, refl}
use Rattle.pieces.specs.Readings.{after, cut, integer, number, split}

parts_between : split 0x20 (codes "1 -2  3") ≡ codes "1" ∷ codes "-2" ∷ [] ∷ codes "3" ∷ []
parts_between = refl

-- before each of these bytes
parts_from : cut (λ c. c == 0x3C) (codes "a<b><c>") ≡ record { front = codes "a"; parts = codes "<b>" ∷ codes "<c>" ∷ [] }
parts_from = refl

after_a_word : map (after (codes "pen")) (codes "pen12" ∷ codes "pen" ∷ codes "pe" ∷ codes "a pen" ∷ []) ≡ Some (codes "12") ∷ Some [] ∷ None ∷ None ∷ []
after_a_word = refl

numbers : map number (codes "0" ∷ codes "1024" ∷ codes "007" ∷ [] ∷ codes "-1" ∷ codes "1.5" ∷ codes " 1" ∷ []) ≡ Some 0 ∷ Some 1024 ∷ Some 7 ∷ None ∷ None ∷ None ∷ None ∷ []
numbers = refl

signed_numbers : map integer (codes "12" ∷ codes "-12" ∷ codes "-0" ∷ codes "-" ∷ codes "--1" ∷ codes "+1" ∷ []) ≡ Some (pos 12) ∷ Some (negsuc 11) ∷ Some (pos 0) ∷ None ∷ None ∷ None ∷ []
signed_numbers = refl
