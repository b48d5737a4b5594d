-- Crossings that code sorts by their rank and the number of their edge.
use Rattle.std.proofs.Common.{◌≡◌, ℕ, suc, ◌+◌, ◌<◌, ◌≤◌, false, List, [], ◌∷◌, ◌++◌, map, take, length, get_or, inl, inr, refl, sym, subst, ap, ap₂, ◌∙◌, arith, ℤ, ◌≤ℤ◌, int_lt, int_cmp, nat_cmp, is_lt, IsPermutation}
use Rattle.std.specs.Ordering.{ordering_then}
use Rattle.std.proofs.lemmas.Bool.{cases_Bool, true≢false}
use Rattle.std.proofs.lemmas.Map.Keys.{ge_from_not_lt}
use Rattle.std.proofs.lemmas.List.Elements.{All-head, All-tail, All-map}
use Rattle.std.proofs.lemmas.List.Sorted.{All-permutation}
use Rattle.std.specs.List.{All}
use Rattle.polygons.specs.declared.edge.Edge.{Edge}
use Rattle.polygons.specs.declared.lines.Lines.{Lines}
use Rattle.polygons.specs.declared.climb.Crossing as code
use Rattle.polygons.specs.Fills.{sorted_by, ordered_crossings, crosses, rank}
use Rattle.polygons.specs.Climbs.{bare, crossing_at, SameItems}
use Rattle.polygons.proofs.Tests.{lt_false, lt_not}
use Rattle.polygons.proofs.Totals.{from_permutation, same_trans, same_map, same_sym}
use Rattle.polygons.proofs.Orders.{Steps, Ascends, Each, rises_from_steps, one_order, rises_sorted, same_sorted, map_sorted}
use Rattle.polygons.proofs.OnLines.{numbers_on, number_of, crossings_are}
use Rattle.polygons.proofs.Steps.{nothing}
use Rattle.polygons.specs.declared.climb.Climb.{Climb}
use Rattle.std.proofs.lemmas.List.{take_more, map-append}

-- neighbours are sorted
abbrev pub AreSorted : List code.Crossing → Type 0
AreSorted ys = (k : ℕ) (d : code.Crossing) → 0 ≤ k → k + 1 < length ys
    → is_lt (ordering_then (int_cmp (get_or ys (k + 1) d).rank (get_or ys k d).rank) (nat_cmp (get_or ys (k + 1) d).number (get_or ys k d).number)) ≡ false

rank_in : (a b : ℤ) (m n : ℕ) → is_lt (ordering_then (int_cmp b a) (nat_cmp n m)) ≡ false → a ≤ℤ b
rank_in a b m n e =
    elim (cases_Bool (int_lt b a)) [
      | inl f ↦ (let g = rw f at e in absurd (true≢false g))
      | inr f ↦ lt_not b a f
    ]

number_in : (a b : ℤ) (m n : ℕ) → is_lt (ordering_then (int_cmp b a) (nat_cmp n m)) ≡ false → b ≤ℤ a → m ≤ n
number_in a b m n e h =
    let p = rank_in a b m n e in
    let f = lt_false b a p in
    let g = lt_false a b h in
    ge_from_not_lt n m (rw (f, g) at e)

map_twice : {X Y Z : Type 0} (f : Y → Z) (g : X → Y) (xs : List X) → map f (map g xs) ≡ map (λ x. f (g x)) xs
map_twice f g [] = refl
map_twice f g (x ∷ xs) = ap (λ zs. f (g x) ∷ zs) (map_twice f g xs)

map_itself : (xs : List ℕ) → map (λ x. x) xs ≡ xs
map_itself [] = refl
map_itself (x ∷ xs) = ap (λ zs. x ∷ zs) (map_itself xs)

each_from : (lines : Lines) (k : ℤ) (m n : ℕ) (es : List Edge) → m ≤ n → Each (λ j. m ≤ j) (numbers_on lines k n es)
each_from lines k m n [] h = tt
each_from lines k m n (e ∷ es) h =
    let more = each_from lines k m (suc n) es (omega (arith, h)) in
    elim (cases_Bool (crosses lines k e)) [
      | inl t ↦ rw t (h, more)
      | inr t ↦ rw t more
    ]

ascending : (r : ℕ → ℤ) (lines : Lines) (k : ℤ) (n : ℕ) (es : List Edge) → Ascends r (numbers_on lines k n es)
ascending r lines k n [] = tt
ascending r lines k n (e ∷ es) =
    let more = ascending r lines k (suc n) es in
    elim (cases_Bool (crosses lines k e)) [
      | inl t ↦ rw t (each_from lines k n (suc n) es (omega arith), more)
      | inr t ↦ rw t more
    ]

module _ (lines : Lines) (k : ℤ) (edges : List Edge) where
  abbrev made : ℕ → code.Crossing
  made i = crossing_at lines k edges i

  abbrev by : ℕ → ℤ
  by i = (crossing_at lines k edges i).rank

  abbrev IsMade : code.Crossing → Type 0
  IsMade z = z ≡ crossing_at lines k edges z.number

  all_made : (ys : List code.Crossing) → All IsMade ys → ys ≡ map made (map (λ z. z.number) ys)
  all_made [] h = refl
  all_made (y ∷ ys) h = ap₂ (λ z zs. z ∷ zs) (All-head IsMade y ys h) (all_made ys (All-tail IsMade y ys h))

  sorted_tail : (y : code.Crossing) (ys : List code.Crossing) → AreSorted (y ∷ ys) → AreSorted ys
  sorted_tail y ys h n d z l =
      let e : suc n + 1 ≡ suc (n + 1) = omega arith in
      let f = h (suc n) d (omega arith) (omega (arith, l)) in
      rw e at f

  steps : (ys : List code.Crossing) → All IsMade ys → AreSorted ys → Steps by (map (λ z. z.number) ys)
  steps [] h s = tt
  steps (y ∷ []) h s = tt
  steps (y ∷ (z ∷ zs)) h s =
      let first = s 0 y (omega arith) (omega arith) in
      let tail = All-tail IsMade y (z ∷ zs) h in
      let a : y.rank ≡ by y.number = ap (λ c. c.rank) (All-head IsMade y (z ∷ zs) h) in
      let b : z.rank ≡ by z.number = ap (λ c. c.rank) (All-head IsMade z zs tail) in
      let f = rw (a, b) at first in (
        record {
          rank_in = rank_in (by y.number) (by z.number) y.number z.number f;
          number_in = number_in (by y.number) (by z.number) y.number z.number f;
        },
        steps (z ∷ zs) tail (sorted_tail y (z ∷ zs) s),
      )

  pub sorted_is : (ns : List ℕ) (ys : List code.Crossing) → SameItems (numbers_on lines k 0 edges) ns → IsPermutation (map (crossing_at lines k edges) ns) ys → AreSorted ys
      → map bare ys ≡ ordered_crossings lines k edges
  sorted_is ns ys same p s =
      let found = numbers_on lines k 0 edges in
      let h = All-permutation IsMade (map made ns) ys p (All-map IsMade made ns (λ i d l. refl)) in
      let ms = map (λ (z : code.Crossing). z.number) ys in
      let items = same_map (λ (z : code.Crossing). z.number) (map made ns) ys (from_permutation (map made ns) ys p) in
      let back : map (λ (z : code.Crossing). z.number) (map made ns) ≡ ns = map_twice (λ (z : code.Crossing). z.number) made ns ∙ map_itself ns in
      let P : List ℕ → Type 0 = λ xs. SameItems xs ms in
      let q = same_trans found ns ms same (subst P back items) in
      let r = same_trans ms found (sorted_by by found) (same_sym found ms q) (same_sorted by found) in
      let e = one_order by ms (sorted_by by found) (rises_from_steps by ms (steps ys h s)) (rises_sorted by found (ascending by lines k 0 edges)) r in
      ap (map bare) (all_made ys h)
      ∙ map_twice bare made ms
      ∙ ap (map (λ i. bare (made i))) e
      ∙ sym (map_sorted (λ i. bare (made i)) (λ c. rank lines c.place) found)
      ∙ ap (sorted_by (λ c. rank lines c.place)) (crossings_are lines k edges [] edges 0 refl refl)

pub mapped_more : (made : ℕ → code.Crossing) (cs : List Climb) (i : ℕ) → i < length cs
    → map made (map number_of (take (i + 1) cs)) ≡ map made (map number_of (take i cs)) ++ (made (get_or cs i nothing).number ∷ [])
mapped_more made cs i l =
    ap (λ xs. map made (map number_of xs)) (take_more cs i nothing l)
    ∙ ap (map made) (map-append number_of (take i cs) (get_or cs i nothing ∷ []))
    ∙ map-append made (map number_of (take i cs)) ((get_or cs i nothing).number ∷ [])
