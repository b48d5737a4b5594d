-- Areas in order, and which of them begins with a stroke.
use Rattle.std.proofs.Common.{◌≡◌, ℕ, ◌+◌, ◌-◌, ◌<◌, ◌≤◌, List, [], ◌∷◌, Bool, true, false, cond, nat_eq, nat_le, Option, Some, None, refl, ap, sym, subst, ◌∙◌, arith, inl, inr}
use Rattle.std.proofs.lemmas.Bool.{cases_Bool}
use Rattle.std.proofs.lemmas.Bool.Decides.{nat_tests}
use Rattle.std.specs.Option.{option_map}
use Rattle.areas.specs.Shapes.{AreApart, all_counted, areas_from, beginning_at, counted}
use Rattle.areas.specs.Views.{areas_in}
use Rattle.areas.specs.declared.among.Areas.{Areas}
use Rattle.areas.specs.declared.area.Area.{Area}
use Rattle.areas.proofs.Apart.{apart_counted, apart_from}
use Rattle.stroke_runs.specs.Sheets.{sheet_areas}

-- before the first of them none begins
pub none_before : (k n : ℕ) (more : List Area) → AreApart k more → n < k → beginning_at n more ≡ None
none_before k n [] h low = refl
none_before k n (a ∷ more) h low =
    let other : nat_eq a.first n ≡ false = grind (arith, nat_tests, low, h.0) in
    rw other (none_before a.end n more h.2 (omega (arith, low, h.0, h.1)))

pub none_yet : (k n : ℕ) (a : Area) (more : List Area) → AreApart k (a ∷ more) → n < a.first → beginning_at n (a ∷ more) ≡ None
none_yet k n a more h low =
    let other : nat_eq a.first n ≡ false = grind (arith, nat_tests, low) in
    rw other (none_before a.end n more h.2 (omega (arith, low, h.1)))

pub first_here : (n : ℕ) (a : Area) (more : List Area) → n ≡ a.first → beginning_at n (a ∷ more) ≡ Some a
first_here n a more is =
    let same : nat_eq a.first n ≡ true = grind (arith, nat_tests, is) in
    rw same refl

pub later_ones : (n : ℕ) (a : Area) (more : List Area) → a.first < n → beginning_at n (a ∷ more) ≡ beginning_at n more
later_ones n a more low =
    let other : nat_eq a.first n ≡ false = grind (arith, nat_tests, low) in
    rw other refl

-- the areas that begin later are found as before
pub found_from : (at n : ℕ) (more : List Area) → at ≤ n → beginning_at n (areas_from at more) ≡ beginning_at n more
found_from at n [] low = refl
found_from at n (a ∷ more) low = elim (cases_Bool (nat_le at a.first)) [
  | inl e ↦ rw e (ap (λ (o : Option Area). cond (nat_eq a.first n) (Some a) o) (found_from at n more low))
  | inr e ↦
      let other : nat_eq a.first n ≡ false = grind (arith, nat_tests, e, low) in
      rw (e, other) (found_from at n more low)
]

same_test : (base m n : ℕ) → base ≤ m → base ≤ n → nat_eq (m - base) (n - base) ≡ nat_eq m n
same_test base m n low high = elim (cases_Bool (nat_eq m n)) [
  | inl e ↦ (let equal : nat_eq (m - base) (n - base) ≡ true = grind (arith, nat_tests, e) in equal ∙ sym e)
  | inr e ↦ (let other : nat_eq (m - base) (n - base) ≡ false = grind (arith, nat_tests, e, low, high) in other ∙ sym e)
]

counted_step : (b : Bool) (base : ℕ) (a : Area) (o p : Option Area) → option_map (counted base) o ≡ p → option_map (counted base) (cond b (Some a) o) ≡ cond b (Some (counted base a)) p
counted_step true base a o p h = refl
counted_step false base a o p h = h

-- counted from a sheet, they are found there
pub found_counted : (base k n : ℕ) (more : List Area) → AreApart k more → base ≤ k → base ≤ n → option_map (counted base) (beginning_at n more) ≡ beginning_at (n - base) (all_counted base more)
found_counted base k n [] h low high = refl
found_counted base k n (a ∷ more) h low high =
    let same = same_test base a.first n (omega (arith, low, h.0)) high in
    let rest = found_counted base a.end n more h.2 (omega (arith, low, h.0, h.1)) high in
    counted_step (nat_eq a.first n) base a (beginning_at n more) (beginning_at (n - base) (all_counted base more)) rest
    ∙ ap (λ (b : Bool). cond b (Some (counted base a)) (beginning_at (n - base) (all_counted base more))) (sym same)

-- the area that begins with a stroke of a sheet, by all strokes and by those of the sheet
abbrev pub Agree : ℕ → List Area → ℕ → List Area → Type 0
Agree base all at left = (i : ℕ) → base + at ≤ i → option_map (counted base) (beginning_at i all) ≡ beginning_at (i - base) left

pub agree_on : (base at : ℕ) (all : List Area) → AreApart 0 all → Agree base all at (areas_from at (sheet_areas base all))
agree_on base at all h i low =
    let from = apart_from 0 base all h in
    ap (λ (o : Option Area). option_map (counted base) o) (sym (found_from base i all (omega (arith, low))))
    ∙ found_counted base base i (areas_from base all) from (omega arith) (omega (arith, low))
    ∙ sym (found_from at (i - base) (sheet_areas base all) (omega (arith, low)))

pub apart_on : (base at : ℕ) (all : List Area) → AreApart 0 all → AreApart at (areas_from at (sheet_areas base all))
apart_on base at all h = apart_from (base - base) at (sheet_areas base all) (apart_counted base base (areas_from base all) (apart_from 0 base all h) (omega arith))
