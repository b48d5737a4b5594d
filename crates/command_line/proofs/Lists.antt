-- Lists whose elements are found by a test.
use Rattle.std.proofs.Common.{◌≡◌, Bool, List, [], ◌∷◌, Some, true, false, map, refl, subst}
use Rattle.std.specs.Prelude.{find, ◌&&◌}
use Rattle.std.specs.List.{AllByRecursion, list_all}

pub left_true : (b c : Bool) → (b && c) ≡ true → b ≡ true
left_true true c passes = refl
left_true false c passes = absurd (cc)

pub right_true : (b c : Bool) → (b && c) ≡ true → c ≡ true
right_true true c passes = passes
right_true false c passes = absurd (cc)

-- an element that is found passes what all pass
pub found_passes : {X : Type 0} (test p : X → Bool) (xs : List X) (x : X) → list_all test xs ≡ true → find p xs ≡ Some x → test x ≡ true
found_passes test p [] x all found = absurd (cc)
found_passes test p (y ∷ ys) x all found = branch (p y) refl (found_passes test p ys x (right_true _ _ all))
  where
    branch : (b : Bool) → p y ≡ b → (find p ys ≡ Some x → test x ≡ true) → test x ≡ true
    branch true passes later =
        let here = rw passes at found in
        let is : y ≡ x = cc in
        subst (λ z. test z ≡ true) is (left_true _ _ all)
    branch false fails later = later (rw fails at found)

-- and it passes the test
pub found_is : {X : Type 0} (p : X → Bool) (xs : List X) (x : X) → find p xs ≡ Some x → p x ≡ true
found_is p [] x found = absurd (cc)
found_is p (y ∷ ys) x found = branch (p y) refl (found_is p ys x)
  where
    branch : (b : Bool) → p y ≡ b → (find p ys ≡ Some x → p x ≡ true) → p x ≡ true
    branch true passes later =
        let here = rw passes at found in
        let is : y ≡ x = cc in
        subst (λ z. p z ≡ true) is passes
    branch false fails later = later (rw fails at found)

-- what holds of each element that passes holds of all, if all pass
pub all_pass : {X : Type 0} (test : X → Bool) (P : X → Type 0) → ((x : X) → test x ≡ true → P x) → (xs : List X) → list_all test xs ≡ true → AllByRecursion P xs
all_pass test P each [] all = tt
all_pass test P each (x ∷ xs) all = (each x (left_true _ _ all), all_pass test P each xs (right_true _ _ all))

pub all_mapped : {X Y : Type 0} (f : X → Y) (P : Y → Type 0) (xs : List X) → AllByRecursion (λ x. P (f x)) xs → AllByRecursion P (map f xs)
all_mapped f P [] all = tt
all_mapped f P (x ∷ xs) all = (all.0, all_mapped f P xs all.1)

pub all_both : {X : Type 0} (P Q R : X → Type 0) → ((x : X) → P x → Q x → R x) → (xs : List X) → AllByRecursion P xs → AllByRecursion Q xs → AllByRecursion R xs
all_both P Q R both [] all more = tt
all_both P Q R both (x ∷ xs) all more = (both x all.0 more.0, all_both P Q R both xs all.1 more.1)
