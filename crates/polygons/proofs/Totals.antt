-- Lists with the same items, each as often.
use Rattle.std.proofs.Common.{◌≡◌, ℕ, ◌+◌, Bool, cond, List, [], ◌∷◌, map, length, inl, inr, refl, sym, ap, ◌∙◌, arith}
use Rattle.std.proofs.lemmas.Bool.{cases_Bool}
use Rattle.std.proofs.lemmas.List.Recursion.{is_sum_by}
use Rattle.std.proofs.lemmas.List.Sorted.{sum_by-IsPermutation}
use Rattle.std.specs.List.{filter, sum_by}
use Rattle.std.specs.List.Sorted.{IsPermutation}
use Rattle.polygons.specs.Climbs.{total, SameItems}

total_is : {X : Type 0} (f : X → ℕ) (xs : List X) → total f xs ≡ sum_by f xs
total_is f xs = is_sum_by (total f) f refl (λ _ _. refl) xs

pub from_permutation : {X : Type 0} (xs ys : List X) → IsPermutation xs ys → SameItems xs ys
from_permutation xs ys p = record { sums = λ f. total_is f xs ∙ sym (sum_by-IsPermutation f xs ys p) ∙ sym (total_is f ys) }

pub same_trans : {X : Type 0} (xs ys zs : List X) → SameItems xs ys → SameItems ys zs → SameItems xs zs
same_trans xs ys zs p q = record { sums = λ f. p.sums f ∙ q.sums f }

pub same_sym : {X : Type 0} (xs ys : List X) → SameItems xs ys → SameItems ys xs
same_sym xs ys p = record { sums = λ f. sym (p.sums f) }

pub total_filter : {X : Type 0} (p : X → Bool) (f : X → ℕ) (xs : List X) → total f (filter p xs) ≡ total (λ x. cond (p x) (f x) 0) xs
total_filter p f [] = refl
total_filter p f (x ∷ xs) =
    let more = total_filter p f xs in
    elim (cases_Bool (p x)) [
      | inl e ↦ rw e (omega (arith, more))
      | inr e ↦ rw e (omega (arith, more))
    ]

pub same_filter : {X : Type 0} (p : X → Bool) (xs ys : List X) → SameItems xs ys → SameItems (filter p xs) (filter p ys)
same_filter p xs ys s = record { sums = λ f. total_filter p f xs ∙ s.sums (λ x. cond (p x) (f x) 0) ∙ sym (total_filter p f ys) }

pub total_map : {X Y : Type 0} (g : X → Y) (f : Y → ℕ) (xs : List X) → total f (map g xs) ≡ total (λ x. f (g x)) xs
total_map g f [] = refl
total_map g f (x ∷ xs) = ap (λ n. f (g x) + n) (total_map g f xs)

pub same_map : {X Y : Type 0} (g : X → Y) (xs ys : List X) → SameItems xs ys → SameItems (map g xs) (map g ys)
same_map g xs ys s = record { sums = λ f. total_map g f xs ∙ s.sums (λ x. f (g x)) ∙ sym (total_map g f ys) }

length_is : {X : Type 0} (xs : List X) → total (λ x. 1) xs ≡ length xs
length_is [] = refl
length_is (x ∷ xs) = let more = length_is xs in omega (arith, more)

pub same_length : {X : Type 0} (xs ys : List X) → SameItems xs ys → length xs ≡ length ys
same_length xs ys s = sym (length_is xs) ∙ s.sums (λ x. 1) ∙ length_is ys

pub same_tail : {X : Type 0} (x : X) (xs ys : List X) → SameItems (x ∷ xs) (x ∷ ys) → SameItems xs ys
same_tail x xs ys s = record { sums = λ f. let e = s.sums f in omega (arith, e) }
