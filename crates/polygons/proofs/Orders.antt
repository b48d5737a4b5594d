-- Numbers sorted by a rank, and by themselves if they have the same rank. Such a list is known by its items.
use Rattle.std.proofs.Common.{◌≡◌, ℕ, ◌+◌, ◌≤◌, ◌<◌, cond, eqb, List, [], ◌∷◌, map, inl, inr, refl, sym, subst, ap, ap₂, ◌∙◌, arith, ℤ, ◌≤ℤ◌, ◌<ℤ◌, int_le}
use Rattle.std.proofs.lemmas.Bool.{cases_Bool, eqb-true, eq-eqb}
use Rattle.std.proofs.lemmas.Int.{ints}
use Rattle.polygons.specs.Fills.{put_in, sorted_by}
use Rattle.polygons.specs.Climbs.{total, SameItems}
use Rattle.polygons.proofs.Tests.{le_from, le_not}
use Rattle.polygons.proofs.Totals.{same_tail, same_length}

-- each item has a property
abbrev pub Each : {X : Type 0} → (X → Type 0) → List X → Type 0
Each P [] = Unit {0}
Each P (x ∷ xs) = P x × Each P xs

pub each_weaker : {X : Type 0} (P Q : X → Type 0) (xs : List X) → ((x : X) → P x → Q x) → Each P xs → Each Q xs
each_weaker P Q [] f h = tt
each_weaker P Q (x ∷ xs) f h = (f x h.0, each_weaker P Q xs f h.1)

module _ (rank : ℕ → ℤ) where
  pub record IsBefore (i j : ℕ) : Type 0 where
    pub rank_in : rank i ≤ℤ rank j
    pub number_in : rank j ≤ℤ rank i → i ≤ j

  before_trans : (i j k : ℕ) → IsBefore i j → IsBefore j k → IsBefore i k
  before_trans i j k p q =
      let a = p.rank_in in
      let b = q.rank_in in
      record {
        rank_in = omega (arith, ints, a, b);
        number_in = λ h. let m = p.number_in (omega (arith, ints, b, h)) in let n = q.number_in (omega (arith, ints, a, h)) in omega (arith, m, n);
      }

  before_one : (i j : ℕ) → IsBefore i j → IsBefore j i → i ≡ j
  before_one i j p q =
      let m = p.number_in q.rank_in in
      let n = q.number_in p.rank_in in
      omega (arith, m, n)

  before_itself : (i : ℕ) → IsBefore i i
  before_itself i = record { rank_in = omega (arith, ints); number_in = λ h. omega arith }

  abbrev pub Rises : List ℕ → Type 0
  Rises [] = Unit {0}
  Rises (i ∷ is) = Each (IsBefore i) is × Rises is

  -- neighbours are enough
  abbrev pub Steps : List ℕ → Type 0
  Steps [] = Unit {0}
  Steps (i ∷ []) = Unit {0}
  Steps (i ∷ (j ∷ js)) = IsBefore i j × Steps (j ∷ js)

  pub rises_from_steps : (is : List ℕ) → Steps is → Rises is
  rises_from_steps [] h = tt
  rises_from_steps (i ∷ []) h = (tt, tt)
  rises_from_steps (i ∷ (j ∷ js)) h =
      let r = rises_from_steps (j ∷ js) h.1 in
      ((h.0, each_weaker (IsBefore j) (IsBefore i) js (λ k b. before_trans i j k h.0 b) r.0), r)

  -- an item that is there is behind the first
  abbrev is_number : ℕ → ℕ → ℕ
  is_number i k = cond (eqb k i) 1 0

  found : (i : ℕ) (P : ℕ → Type 0) (js : List ℕ) → Each P js → 0 < total (is_number i) js → P i
  found i P [] h l = absurd (omega (arith, l))
  found i P (j ∷ js) h l =
      elim (cases_Bool (eqb j i)) [
        | inl e ↦ (let f = eqb-true j i e in subst P f h.0)
        | inr e ↦ found i P js h.1 (let m : 0 < 0 + total (is_number i) js = rw e at l in omega (arith, m))
      ]

  first_counts : (i : ℕ) (is : List ℕ) → 0 < total (is_number i) (i ∷ is)
  first_counts i is = rw (eq-eqb i i refl) (omega arith)

  first_before : (i j : ℕ) (is js : List ℕ) → Rises (j ∷ js) → SameItems (i ∷ is) (j ∷ js) → IsBefore j i
  first_before i j is js r s =
      found i (IsBefore j) (j ∷ js) (before_itself j, r.0) (let e = s.sums (is_number i) in let l = first_counts i is in rw e at l)

  same_first : (i : ℕ) (is js : List ℕ) (j : ℕ) → i ≡ j → SameItems (i ∷ is) (j ∷ js) → SameItems is js
  same_first i is js j e s = same_tail i is js (let P : ℕ → Type 0 = λ k. SameItems (i ∷ is) (k ∷ js) in subst P (sym e) s)

  pub one_order : (is js : List ℕ) → Rises is → Rises js → SameItems is js → is ≡ js
  one_order [] [] r q s = refl
  one_order [] (j ∷ js) r q s = let e = same_length [] (j ∷ js) s in absurd (omega (arith, e))
  one_order (i ∷ is) [] r q s = let e = same_length (i ∷ is) [] s in absurd (omega (arith, e))
  one_order (i ∷ is) (j ∷ js) r q s =
      let b = first_before i j is js q s in
      let c = first_before j i js is r (record { sums = λ f. sym (s.sums f) }) in
      let e = before_one i j c b in
      ap₂ (λ x xs. x ∷ xs) e (one_order is js r.1 q.1 (same_first i is js j e s))

  -- numbers that rise keep their order where ranks are the same
  abbrev pub Ascends : List ℕ → Type 0
  Ascends [] = Unit {0}
  Ascends (i ∷ is) = Each (λ j. i ≤ j) is × Ascends is

  each_put : (P : ℕ → Type 0) (i : ℕ) (js : List ℕ) → P i → Each P js → Each P (put_in rank i js)
  each_put P i [] p h = (p, tt)
  each_put P i (j ∷ js) p h =
      elim (cases_Bool (int_le (rank i) (rank j))) [
        | inl e ↦ rw e (p, h)
        | inr e ↦ rw e (h.0, each_put P i js p h.1)
      ]

  each_sorted : (P : ℕ → Type 0) (is : List ℕ) → Each P is → Each P (sorted_by rank is)
  each_sorted P [] h = tt
  each_sorted P (i ∷ is) h = each_put P i (sorted_by rank is) h.0 (each_sorted P is h.1)

  lower_before : (i j : ℕ) → rank i ≤ℤ rank j → i ≤ j → IsBefore i j
  lower_before i j p q = record { rank_in = p; number_in = λ h. q }

  all_before : (i j : ℕ) (js : List ℕ) → rank i ≤ℤ rank j → Each (IsBefore j) js → Each (λ k. i ≤ k) js → Each (IsBefore i) js
  all_before i j [] p b h = tt
  all_before i j (k ∷ ks) p b h =
      let m = (b.0).rank_in in
      (lower_before i k (omega (arith, ints, p, m)) h.0, all_before i j ks p b.1 h.1)

  higher_before : (i j : ℕ) → rank j <ℤ rank i → IsBefore j i
  higher_before i j p = record { rank_in = omega (arith, ints, p); number_in = λ h. absurd (omega (arith, ints, p, h)) }

  rises_put : (i : ℕ) (js : List ℕ) → Each (λ j. i ≤ j) js → Rises js → Rises (put_in rank i js)
  rises_put i [] h r = (tt, tt)
  rises_put i (j ∷ js) h r =
      elim (cases_Bool (int_le (rank i) (rank j))) [
        | inl e ↦ (let p = le_from (rank i) (rank j) e in rw e ((lower_before i j p h.0, all_before i j js p r.0 h.1), r))
        | inr e ↦ (let p = le_not (rank i) (rank j) e in rw e (each_put (IsBefore j) i js (higher_before i j p) r.0, rises_put i js h.1 r.1))
      ]

  pub rises_sorted : (is : List ℕ) → Ascends is → Rises (sorted_by rank is)
  rises_sorted [] h = tt
  rises_sorted (i ∷ is) h = rises_put i (sorted_by rank is) (each_sorted (λ j. i ≤ j) is h.0) (rises_sorted is h.1)

total_put : {X : Type 0} (key : X → ℤ) (f : X → ℕ) (x : X) (ys : List X) → total f (put_in key x ys) ≡ f x + total f ys
total_put key f x [] = refl
total_put key f x (y ∷ ys) =
    let more = total_put key f x ys in
    elim (cases_Bool (int_le (key x) (key y))) [
      | inl e ↦ rw e refl
      | inr e ↦ rw e (omega (arith, more))
    ]

total_sorted : {X : Type 0} (key : X → ℤ) (f : X → ℕ) (xs : List X) → total f xs ≡ total f (sorted_by key xs)
total_sorted key f [] = refl
total_sorted key f (x ∷ xs) =
    let more = total_sorted key f xs in
    let here = total_put key f x (sorted_by key xs) in
    omega (arith, more, here)

pub same_sorted : {X : Type 0} (key : X → ℤ) (xs : List X) → SameItems xs (sorted_by key xs)
same_sorted key xs = record { sums = λ f. total_sorted key f xs }

map_put : {X Y : Type 0} (g : X → Y) (key : Y → ℤ) (x : X) (ys : List X) → put_in key (g x) (map g ys) ≡ map g (put_in (λ z. key (g z)) x ys)
map_put g key x [] = refl
map_put g key x (y ∷ ys) =
    elim (cases_Bool (int_le (key (g x)) (key (g y)))) [
      | inl e ↦ rw e refl
      | inr e ↦ rw e (ap (λ zs. g y ∷ zs) (map_put g key x ys))
    ]

pub map_sorted : {X Y : Type 0} (g : X → Y) (key : Y → ℤ) (xs : List X) → sorted_by key (map g xs) ≡ map g (sorted_by (λ z. key (g z)) xs)
map_sorted g key [] = refl
map_sorted g key (x ∷ xs) = ap (put_in key (g x)) (map_sorted g key xs) ∙ map_put g key x (sorted_by (λ z. key (g z)) xs)
