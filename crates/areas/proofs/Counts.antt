-- How many edges a place is past.
use Rattle.std.proofs.Common.{◌≡◌, ℕ, ◌+◌, ◌%◌, Bool, List, [], ◌∷◌, ◌++◌, map, count_by, refl, sym, ap, ap₂, ◌∙◌, arith, nat_eq, IsPermutation}
use Rattle.polygons.specs.Climbs.{total}
use Rattle.polygons.specs.Fills.{is_inside}
use Rattle.polygons.specs.declared.lines.Rule.{Rule}
use Rattle.polygons.specs.declared.lines.Rule.TheVariants.{OddCounts, Winding}
use Rattle.polygons.proofs.SolidLaws.{one, count_is, same_count, total-append}
use Rattle.polygons.proofs.Totals.{from_permutation, total_map}

pub total_same : {X : Type 0} (f g : X → ℕ) → ((x : X) → f x ≡ g x) → (xs : List X) → total f xs ≡ total g xs
total_same f g same [] = refl
total_same f g same (x ∷ xs) = ap₂ (λ (m n : ℕ). m + n) (same x) (total_same f g same xs)

pub count_append : {X : Type 0} (p : X → Bool) (xs ys : List X) → count_by p (xs ++ ys) ≡ count_by p xs + count_by p ys
count_append p xs ys =
    let a = count_is p (xs ++ ys) in
    let b = count_is p xs in
    let c = count_is p ys in
    let d = total-append (λ x. one (p x)) xs ys in
    omega (arith, a, b, c, d)

pub count_mapped : {X Y : Type 0} (p : X → Bool) (q : Y → Bool) (f : Y → X) → ((y : Y) → p (f y) ≡ q y) → (ys : List Y)
    → count_by p (map f ys) ≡ count_by q ys
count_mapped p q f same ys =
    sym (count_is p (map f ys))
    ∙ total_map f (λ x. one (p x)) ys
    ∙ total_same (λ y. one (p (f y))) (λ y. one (q y)) (λ y. ap one (same y)) ys
    ∙ count_is q ys

pub count_permuted : {X : Type 0} (p : X → Bool) (xs ys : List X) → IsPermutation xs ys → count_by p xs ≡ count_by p ys
count_permuted p xs ys h = same_count p xs ys (from_permutation xs ys h)

-- inside does not depend on which direction is called upwards
pub inside_turned : (rule : Rule) (m n : ℕ) → is_inside rule m n ≡ is_inside rule n m
inside_turned OddCounts m n = let e : m + n ≡ n + m = omega arith in ap (λ (k : ℕ). nat_eq (k % 2) 1) e
inside_turned Winding m n = grind arith
