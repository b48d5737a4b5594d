-- Areas among strokes: searches by a number that rises, and the areas of a sheet.
use Rattle.std.proofs.Common.{◌≡◌, ◌≢◌, ◌∙◌, ℕ, zero, suc, ◌+◌, ◌-◌, ◌<◌, ◌≤◌, List, [], ◌∷◌, filter, take, drop, length, get_or, true, false, nat_eq, nat_le, nat_lt, Bool, cond, Ok, Err, Some, None, refl, sym, ap, ap₂, subst, arith, inl, inr}
use Rattle.std.specs.List.{All}
use Rattle.std.specs.List.Sorted.{IsBinarySearchResult, IsNonDecreasingBy}
use Rattle.std.specs.Ordering.{nat_cmp, ordering_index}
use Rattle.std.proofs.lemmas.Bool.Decides.{nat_tests}
use Rattle.std.proofs.lemmas.Bool.{cases_Bool, cases_lt}
use Rattle.std.proofs.lemmas.Cmp.{ranked}
use Rattle.std.proofs.lemmas.List.Elements.{All-cons, All-head, All-tail}
use Rattle.std.proofs.lemmas.List.Sorted.{IsNonDecreasingBy-from_default}
use Rattle.polygons.specs.declared.lines.Rule.TheVariants.{OddCounts}
use Rattle.areas.specs.declared.area.Area.{Area}
use Rattle.areas.specs.declared.among.Areas.{Areas}
use Rattle.areas.specs.Cuts.{count_to}
use Rattle.areas.specs.Places.{IsPlace}
use Rattle.areas.specs.Shapes.{AreApart, all_counted, areas_between, areas_from, counted, edge_count, first_with}
use Rattle.areas.specs.Views.{areas_in}

-- what a slice of no areas reads as
abbrev pub nothing : Area
nothing = record { first = 0; end = 0; rule = OddCounts }

pub apart_take : (k n : ℕ) (more : List Area) → AreApart k more → AreApart k (take n more)
apart_take k zero more h = tt
apart_take k (suc n) [] h = tt
apart_take k (suc n) (a ∷ more) h = (h.0, h.1, apart_take a.end n more h.2)

pub apart_rest : (k : ℕ) (a : Area) (more : List Area) → AreApart k (a ∷ more) → AreApart k more
apart_rest k a [] h = tt
apart_rest k a (b ∷ more) h = (omega (arith, h.0, h.1, h.2.0), h.2.1, h.2.2)

-- areas that all begin later
pub all_kept : (k at : ℕ) (more : List Area) → AreApart k more → at ≤ k → areas_from at more ≡ more
all_kept k at [] h low = refl
all_kept k at (a ∷ more) h low =
    let test : nat_le at a.first ≡ true = grind (arith, nat_tests, low, h.0) in
    let rest = all_kept a.end at more h.2 (omega (arith, low, h.0, h.1)) in
    ap (λ (b : Bool). cond b (a ∷ areas_from at more) (areas_from at more)) test ∙ ap (λ (zs : List Area). a ∷ zs) rest

pub apart_from : (k at : ℕ) (more : List Area) → AreApart k more → AreApart at (areas_from at more)
apart_from k at [] h = tt
apart_from k at (a ∷ more) h = elim (cases_Bool (nat_le at a.first)) [
  | inl e ↦
      let low : at ≤ a.first = grind (arith, nat_tests, e) in
      let rest = all_kept a.end at more h.2 (omega (arith, low, h.1)) in
      rw e (low, h.1, rw rest h.2)
  | inr e ↦ rw e (apart_from a.end at more h.2)
]

-- those that begin after so many strokes are those after the ones that begin before
pub from_is_drop : (k at : ℕ) (more : List Area) → AreApart k more → drop (count_to at more) more ≡ areas_from at more
from_is_drop k at [] h = refl
from_is_drop k at (a ∷ more) h = elim (cases_Bool (nat_lt a.first at)) [
  | inl e ↦
      let test : nat_le at a.first ≡ false = grind (arith, nat_tests, e) in
      rw (e, test) (from_is_drop a.end at more h.2)
  | inr e ↦
      let low : at ≤ a.first = grind (arith, nat_tests, e) in
      let test : nat_le at a.first ≡ true = grind (arith, nat_tests, e) in
      rw (e, test) (ap (λ (zs : List Area). a ∷ zs) (sym (all_kept a.end at more h.2 (omega (arith, low, h.1)))))
]

-- of areas that all begin later, none begins before
none_kept : (k end : ℕ) (more : List Area) → AreApart k more → end ≤ k → filter (λ a. nat_lt a.first end) more ≡ []
none_kept k end [] h low = refl
none_kept k end (a ∷ more) h low =
    let test : nat_lt a.first end ≡ false = grind (arith, nat_tests, low, h.0) in
    rw test (none_kept a.end end more h.2 (omega (arith, low, h.0, h.1)))

pub to_is_take : (k end : ℕ) (more : List Area) → AreApart k more → take (count_to end more) more ≡ filter (λ a. nat_lt a.first end) more
to_is_take k end [] h = refl
to_is_take k end (a ∷ more) h = elim (cases_Bool (nat_lt a.first end)) [
  | inl e ↦ rw e (ap (λ (zs : List Area). a ∷ zs) (to_is_take a.end end more h.2))
  | inr e ↦
      let low : end ≤ a.first = grind (arith, nat_tests, e) in
      rw e (sym (none_kept a.end end more h.2 (omega (arith, low, h.1))))
]

pub apart_counted : (base k : ℕ) (more : List Area) → AreApart k more → base ≤ k → AreApart (k - base) (all_counted base more)
apart_counted base k [] h low = tt
apart_counted base k (a ∷ more) h low =
    (omega (arith, h.0), omega (arith, h.0, h.1, low), apart_counted base a.end more h.2 (omega (arith, h.0, h.1, low)))

pub apart_between : (at end : ℕ) (more : List Area) → AreApart 0 more → AreApart at (areas_between at end more)
apart_between at end more h =
    let from = apart_from 0 at more h in
    subst (λ (zs : List Area). AreApart at zs) (to_is_take at end (areas_from at more) from) (apart_take at (count_to end (areas_from at more)) (areas_from at more) from)

-- the areas of a sheet are apart, by the strokes of the sheet
pub apart_on_sheet : (at end : ℕ) (more : List Area) → AreApart 0 more → AreApart 0 (all_counted at (areas_between at end more))
apart_on_sheet at end more h =
    let from : at - at ≡ 0 = omega arith in
    subst (λ (n : ℕ). AreApart n (all_counted at (areas_between at end more))) from (apart_counted at at (areas_between at end more) (apart_between at end more h) (omega arith))

-- the areas among some strokes are apart
pub apart_in : (areas : Areas) → AreApart 0 (areas_in areas)
apart_in areas =
    let from : areas.before - areas.before ≡ 0 = omega arith in
    subst (λ (n : ℕ). AreApart n (areas_in areas)) from (apart_counted areas.before areas.before areas.list.now areas.apart (omega arith))

-- areas that are counted from no strokes on are as they were
pub counted_from_none : (more : List Area) → all_counted 0 more ≡ more
counted_from_none [] = refl
counted_from_none (a ∷ more) =
    let same : counted 0 a ≡ a = (let first : a.first - 0 ≡ a.first = omega arith in let end : a.end - 0 ≡ a.end = omega arith in λ i. record { first = first i; end = end i; rule = a.rule }) in
    ap₂ (λ (b : Area) (rest : List Area). b ∷ rest) same (counted_from_none more)

-- an area after others begins where they have ended, or later, and has an edge
pub begins_later : (k i : ℕ) (more : List Area) → AreApart k more → i < length more → k ≤ (get_or more i nothing).first
begins_later k i [] h within = absurd (omega arith)
begins_later k zero (a ∷ more) h within = h.0
begins_later k (suc i) (a ∷ more) h within =
    let later = begins_later a.end i more h.2 (omega arith) in
    omega (arith, h.0, h.1, later)

pub has_edges : (k i : ℕ) (more : List Area) → AreApart k more → i < length more → (get_or more i nothing).first < (get_or more i nothing).end
has_edges k i [] h within = absurd (omega arith)
has_edges k zero (a ∷ more) h within = h.1
has_edges k (suc i) (a ∷ more) h within = has_edges a.end i more h.2 (omega arith)

-- an area has as many edges among the strokes of a sheet
pub edges_counted : (before k n : ℕ) (more : List Area) → AreApart k more → before ≤ k
    → All (λ a. a.end - a.first ≤ n) (all_counted before more) → All (λ a. a.end - a.first ≤ n) more
edges_counted before k n [] h low all = all
edges_counted before k n (a ∷ more) h low all =
    let P : Area → Type 0 = λ b. b.end - b.first ≤ n in
    let first : P (counted before a) = All-head P (counted before a) (all_counted before more) all in
    let rest = edges_counted before a.end n more h.2 (omega (arith, low, h.0, h.1)) (All-tail P (counted before a) (all_counted before more) all) in
    All-cons P a more (omega (arith, first, low, h.0, h.1)) rest

pub same_edges : (before k : ℕ) (more : List Area) → AreApart k more → before ≤ k → edge_count (all_counted before more) ≡ edge_count more
same_edges before k [] h low = refl
same_edges before k (a ∷ more) h low =
    let rest = same_edges before a.end more h.2 (omega (arith, low, h.0, h.1)) in
    omega (arith, rest, low, h.0, h.1)

pub ends_before : (k i j : ℕ) (more : List Area) → AreApart k more → i < j → j < length more → (get_or more i nothing).end ≤ (get_or more j nothing).first
ends_before k i zero more h order within = absurd (omega (arith, order))
ends_before k i (suc j) [] h order within = absurd (omega arith)
ends_before k zero (suc j) (a ∷ more) h order within = begins_later a.end j more h.2 (omega arith)
ends_before k (suc i) (suc j) (a ∷ more) h order within = ends_before a.end i j more h.2 (omega (arith, order)) (omega arith)

-- the number by which areas are searched, when so many strokes come before them
module _ (number : Area → ℕ) (before : ℕ)
    (shifts : (a : Area) → number (counted before a) ≡ number a - before)
    (below : (k i : ℕ) (a : Area) (more : List Area) → AreApart k (a ∷ more) → i < length more → number a < number (get_or more i nothing))
    (far : (k i : ℕ) (more : List Area) → AreApart k more → before ≤ k → i < length more → before ≤ number (get_or more i nothing)) where
  rises : (k i j : ℕ) (more : List Area) → AreApart k more → i ≤ j → j < length more
      → number (get_or more i nothing) ≤ number (get_or more j nothing)
  rises k i j [] h order within = absurd (omega arith)
  rises k zero zero (a ∷ more) h order within = omega arith
  rises k zero (suc j) (a ∷ more) h order within = let less = below k j a more h (omega arith) in omega (arith, less)
  rises k (suc i) zero (a ∷ more) h order within = absurd (omega arith)
  rises k (suc i) (suc j) (a ∷ more) h order within = rises a.end i j more h.2 (omega arith) (omega arith)

  comparisons_rise : (n k : ℕ) (more : List Area) → AreApart k more → IsNonDecreasingBy (λ a. ordering_index (nat_cmp (number a) n)) more
  comparisons_rise n k more h = IsNonDecreasingBy-from_default (λ a. ordering_index (nat_cmp (number a) n)) more nothing
      (λ i j order within. let le = rises k i j more h order within in grind (arith, nat_tests, le))

  -- the area at a place where its number is found is the first with this number
  at_place : (n k i : ℕ) (more : List Area) → AreApart k more → before ≤ k → i < length more
      → number (get_or more i nothing) ≡ n + before
      → first_with number n (all_counted before more) ≡ Some (counted before (get_or more i nothing))
  at_place n k i [] h low within here = absurd (omega arith)
  at_place n k zero (a ∷ more) h low within here =
      let number_is = shifts a in
      let same : nat_eq (number (counted before a)) n ≡ true = grind (arith, nat_tests, here, number_is) in
      rw same refl
  at_place n k (suc i) (a ∷ more) h low within here =
      let number_is = shifts a in
      let high = far k 0 (a ∷ more) h low (omega arith) in
      let less = below k i a more h (omega arith) in
      let different : (number (counted before a) ≡ n) → ⊥ = (λ e. omega (arith, less, here, number_is, high, e)) in
      let other : nat_eq (number (counted before a)) n ≡ false = grind (arith, nat_tests, different) in
      rw other (at_place n a.end i more h.2 (omega (arith, low, h.0, h.1)) (omega arith) here)

  nowhere : (n : ℕ) (more : List Area) → ((i : ℕ) → i < length more → number (counted before (get_or more i nothing)) ≢ n)
      → first_with number n (all_counted before more) ≡ None
  nowhere n [] none = refl
  nowhere n (a ∷ more) none =
      let first = none 0 (omega arith) in
      let other : nat_eq (number (counted before a)) n ≡ false = grind (arith, nat_tests, first) in
      rw other (nowhere n more (λ i within. none (suc i) (omega arith)))

  found_by : (more : List Area) → AreApart before more → (n i : ℕ) → i < length more
      → IsBinarySearchResult (λ a. nat_cmp (number a) (n + before)) more (Ok i)
      → first_with number n (all_counted before more) ≡ Some (counted before (get_or more i nothing))
  found_by more h n i within equal =
      let here : number (get_or more i nothing) ≡ n + before = ranked _ (n + before) _ (sym (equal nothing)) in
      at_place n before i more h (omega arith) within here

  absent_by : (more : List Area) → AreApart before more → (n i : ℕ) → i ≤ length more
      → IsBinarySearchResult (λ a. nat_cmp (number a) (n + before)) more (Err i) → first_with number n (all_counted before more) ≡ None
  absent_by more h n i within parted = nowhere n more (λ j inside same.
      let number_is = shifts (get_or more j nothing) in
      let high = far before j more h (omega arith) inside in
      let parts = parted (comparisons_rise (n + before) before more h) in
      elim (cases_lt j i) [
        | inl less ↦ (let lower : number (get_or more j nothing) < n + before = ranked _ (n + before) _ (sym (parts.0 j nothing (omega arith) less)) in omega (arith, lower, same, number_is, high))
        | inr beyond ↦ (let higher : n + before < number (get_or more j nothing) = ranked _ (n + before) _ (sym (parts.1 j nothing beyond (omega arith))) in omega (arith, higher, same, number_is, high))
      ])

-- ends and beginnings rise
module _ (k i : ℕ) (a : Area) (more : List Area) (h : AreApart k (a ∷ more)) (within : i < length more) where
  ends_below : a.end < (get_or more i nothing).end
  ends_below =
      let f = begins_later a.end i more h.2 within in
      let e = has_edges a.end i more h.2 within in
      omega (arith, f, e)

  begins_below : a.first < (get_or more i nothing).first
  begins_below =
      let f = begins_later a.end i more h.2 within in
      omega (arith, f, h.1)

abbrev end_of : Area → ℕ
end_of a = a.end

abbrev first_of : Area → ℕ
first_of a = a.first

module _ (before : ℕ) (more : List Area) (h : AreApart before more) (n i : ℕ) where
  begins_far : (k i : ℕ) (more : List Area) → AreApart k more → before ≤ k → i < length more → before ≤ (get_or more i nothing).first
  begins_far k i more h low within = let f = begins_later k i more h within in omega (arith, f, low)

  ends_far : (k i : ℕ) (more : List Area) → AreApart k more → before ≤ k → i < length more → before ≤ (get_or more i nothing).end
  ends_far k i more h low within =
      let f = begins_later k i more h within in
      let e = has_edges k i more h within in
      omega (arith, f, e, low)

  pub end_placed : i < length more → (get_or more i nothing).end ≡ n + before
      → first_with (λ a. a.end) n (all_counted before more) ≡ Some (counted before (get_or more i nothing))
  end_placed within here = at_place end_of before (λ a. refl) ends_below ends_far n before i more h (omega arith) within here

  pub end_unplaced : IsPlace (n + before) more i → (i < length more → (get_or more i nothing).end ≢ n + before)
      → first_with (λ a. a.end) n (all_counted before more) ≡ None
  end_unplaced place other = nowhere end_of before (λ a. refl) ends_below ends_far n more (λ j inside same.
      let high = ends_far before j more h (omega arith) inside in
      let here : (get_or more j nothing).end ≡ n + before = omega (arith, same, high) in
      elim (cases_lt j i) [
        | inl less ↦ (let lower = place.before j less in omega (arith, lower, here))
        | inr beyond ↦ elim (cases_lt i j) [
          | inl past ↦ (
              let higher = place.after i (omega arith) (omega (arith, past, inside)) in
              let later = ends_before before i j more h past inside in
              let edge = has_edges before j more h inside in
              omega (arith, higher, later, edge, here))
          | inr at ↦ (let e : j ≡ i = omega (arith, beyond, at) in absurd (other (omega (arith, inside, e)) (rw e at here)))
        ]
      ])

  pub first_found : i < length more → IsBinarySearchResult (λ a. nat_cmp a.first (n + before)) more (Ok i)
      → first_with (λ a. a.first) n (all_counted before more) ≡ Some (counted before (get_or more i nothing))
  first_found = found_by first_of before (λ a. refl) begins_below begins_far more h n i

  pub first_absent : i ≤ length more → IsBinarySearchResult (λ a. nat_cmp a.first (n + before)) more (Err i)
      → first_with (λ a. a.first) n (all_counted before more) ≡ None
  first_absent = absent_by first_of before (λ a. refl) begins_below begins_far more h n i

-- where areas end by which number
pub place_from : (k number at : ℕ) (more : List Area) → AreApart k more → at ≤ length more
    → ((i : ℕ) → i + 1 ≡ at → (get_or more i nothing).end < number) → (at < length more → number ≤ (get_or more at nothing).end)
    → IsPlace number more at
place_from k number at more h within low high = record {
  within = within;
  before = λ i less. elim (cases_lt (i + 1) at) [
    | inl l ↦ (
        let e : at - 1 + 1 ≡ at = omega (arith, less) in
        let last = low (at - 1) e in
        let order = ends_before k i (at - 1) more h (omega (arith, l)) (omega (arith, within, less)) in
        let edge = has_edges k (at - 1) more h (omega (arith, within, less)) in
        omega (arith, last, order, edge))
    | inr l ↦ low i (omega (arith, l, less))
  ];
  after = λ i from inside. elim (cases_lt at i) [
    | inl l ↦ (
        let first = high (omega (arith, l, inside)) in
        let order = ends_before k at i more h l inside in
        let edge = has_edges k i more h inside in
        omega (arith, first, order, edge))
    | inr l ↦ (let e : i ≡ at = omega (arith, from, l) in let first = high (omega (arith, e, inside)) in rw e first)
  ];
}

pub place_found : (k number at : ℕ) (more : List Area) → AreApart k more → at < length more
    → IsBinarySearchResult (λ a. nat_cmp a.end number) more (Ok at) → IsPlace number more at
place_found k number at more h within equal =
    let here : (get_or more at nothing).end ≡ number = ranked _ number _ (sym (equal nothing)) in
    place_from k number at more h (omega (arith, within))
    (λ i e. let order = ends_before k i at more h (omega (arith, e)) within in let edge = has_edges k at more h within in omega (arith, order, edge, here))
    (λ l. omega (arith, here))

pub place_between : (before number at : ℕ) (more : List Area) → AreApart before more → at ≤ length more
    → IsBinarySearchResult (λ a. nat_cmp a.end number) more (Err at) → IsPlace number more at
place_between before number at more h within parted =
    let parts = parted (comparisons_rise end_of before (λ a. refl) ends_below (ends_far before more h number at) number before more h) in
    record {
      within = within;
      before = λ i less. ranked _ number _ (sym (parts.0 i nothing (omega arith) less));
      after = λ i from inside. let higher : number < (get_or more i nothing).end = ranked _ number _ (sym (parts.1 i nothing from inside)) in omega (arith, higher);
    }
