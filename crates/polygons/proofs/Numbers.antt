-- The numbers of the lines that are left.
use Rattle.std.proofs.Common.{◌≡◌, ℕ, zero, suc, ◌<◌, Bool, true, false, List, [], ◌∷◌, map, inl, inr, refl, sym, subst, ap, ◌∙◌, arith, ℤ, pos, negsuc, ◌+ℤ◌, ◌≤ℤ◌, ◌<ℤ◌, int_le, int_lt}
use Rattle.std.proofs.lemmas.Bool.{cases_Bool, or_cases, and_parts}
use Rattle.std.proofs.lemmas.Int.{ints, clamps, by_lt_z}
use Rattle.std.specs.Int.{int_min, int_max, int_gap}
use Rattle.std.specs.List.{filter, list_any, Contains}
use Rattle.std.proofs.lemmas.List.{length-map}
use Rattle.polygons.proofs.Gaps.{get_or_map}
use Rattle.polygons.specs.declared.edge.Edge.{Edge}
use Rattle.polygons.specs.declared.lines.Lines.{Lines}
use Rattle.polygons.specs.declared.lines.Rule.{Rule}
use Rattle.polygons.specs.Fills.{bottom, top, line_distance, level, line_from, crosses, lowest, highest, consecutive, numbers_to, line_spans, filled_from, filled}
use Rattle.polygons.proofs.Tests.{le_from, lt_from, lt_true}
use Rattle.polygons.proofs.Floors.{from_height, test_below}

gap_none : (k m : ℤ) → m ≤ℤ k → int_gap k m ≡ 0
gap_none (pos a) (pos b) h = omega (arith, ints, h)
gap_none (pos a) (negsuc b) h = refl
gap_none (negsuc a) (pos b) h = absurd (omega (arith, ints, h))
gap_none (negsuc a) (negsuc b) h = omega (arith, ints, h)

up_one : (a : ℕ) → negsuc (suc a) +ℤ pos 1 ≡ negsuc a
up_one a = omega (arith, ints)

gap_step : (k m : ℤ) → k <ℤ m → int_gap k m ≡ suc (int_gap (k +ℤ pos 1) m)
gap_step (pos a) (pos b) h = omega (arith, ints, h)
gap_step (pos a) (negsuc b) h = absurd (omega (arith, ints, h))
gap_step (negsuc zero) (pos b) h = omega (arith, ints, h)
gap_step (negsuc (suc a)) (pos b) h = rw (up_one a) (omega (arith, ints, h))
gap_step (negsuc zero) (negsuc b) h = absurd (omega (arith, ints, h))
gap_step (negsuc (suc a)) (negsuc b) h = rw (up_one a) (omega (arith, ints, h))

to_none : (k m : ℤ) → m ≤ℤ k → numbers_to k m ≡ []
to_none k m h = ap (consecutive k) (gap_none k m h)

to_step : (k m : ℤ) → k <ℤ m → numbers_to k m ≡ k ∷ numbers_to (k +ℤ pos 1) m
to_step k m h = ap (consecutive k) (gap_step k m h)

module _ (q : ℤ → Bool) where
  -- a number that fails is left out
  skip_one : (k m : ℤ) → q k ≡ false → filter q (numbers_to k m) ≡ filter q (numbers_to (k +ℤ pos 1) m)
  skip_one k m e =
      by_lt_z k m
      (λ l. ap (filter q) (to_step k m l) ∙ (rw e refl))
      (λ l. ap (filter q) (to_none k m l) ∙ sym (ap (filter q) (to_none (k +ℤ pos 1) m (omega (arith, ints, l)))))

  plus_zero : (k : ℤ) → k +ℤ pos 0 ≡ k
  plus_zero k = omega (arith, ints)

  plus_more : (k : ℤ) (n : ℕ) → (k +ℤ pos 1) +ℤ pos n ≡ k +ℤ pos (suc n)
  plus_more k n = omega (arith, ints)

  skip : (n : ℕ) (k m : ℤ) → ((j : ℤ) → k ≤ℤ j → j <ℤ (k +ℤ pos n) → q j ≡ false) → filter q (numbers_to k m) ≡ filter q (numbers_to (k +ℤ pos n) m)
  skip zero k m h = rw (plus_zero k) refl
  skip (suc n) k m h =
      let here = h k (omega (arith, ints)) (omega (arith, ints)) in
      let more = skip n (k +ℤ pos 1) m (λ j a b. h j (omega (arith, ints, a)) (omega (arith, ints, b))) in
      skip_one k m here ∙ more ∙ ap (λ (z : ℤ). filter q (numbers_to z m)) (plus_more k n)

  gap_is : (k l : ℤ) → k ≤ℤ l → l ≡ k +ℤ pos (int_gap k l)
  gap_is (pos a) (pos b) h = omega (arith, ints, h)
  gap_is (pos a) (negsuc b) h = absurd (omega (arith, ints, h))
  gap_is (negsuc a) (pos b) h = omega (arith, ints, h)
  gap_is (negsuc a) (negsuc b) h = omega (arith, ints, h)

  pub skip_to : (k l m : ℤ) → k ≤ℤ l → ((j : ℤ) → k ≤ℤ j → j <ℤ l → q j ≡ false) → filter q (numbers_to k m) ≡ filter q (numbers_to l m)
  skip_to k l m p h =
      let e = gap_is k l p in
      let r = skip (int_gap k l) k m (λ j a b. h j a (rw e b)) in
      r ∙ ap (λ (z : ℤ). filter q (numbers_to z m)) (sym e)

  pub take_one : (k m : ℤ) → k <ℤ m → q k ≡ true → filter q (numbers_to k m) ≡ k ∷ filter q (numbers_to (k +ℤ pos 1) m)
  take_one k m l e = ap (filter q) (to_step k m l) ∙ (rw e refl)

  pub none_left : (k m : ℤ) → ((j : ℤ) → k ≤ℤ j → q j ≡ false) → filter q (numbers_to k m) ≡ []
  none_left k m h =
      by_lt_z k m
      (λ l. skip_to k m m (omega (arith, ints, l)) (λ j a b. h j a) ∙ ap (filter q) (to_none m m (omega (arith, ints))))
      (λ l. ap (filter q) (to_none k m l))

  -- two numbers at which the list may begin
  pub same_start : (k l m : ℤ) → ((j : ℤ) → j <ℤ k → q j ≡ false) → ((j : ℤ) → j <ℤ l → q j ≡ false) → filter q (numbers_to k m) ≡ filter q (numbers_to l m)
  same_start k l m a b =
      by_lt_z k l
      (λ h. skip_to k l m (omega (arith, ints, h)) (λ j x y. b j y))
      (λ h. sym (skip_to l k m h (λ j x y. a j y)))

contains_more : {X : Type 0} (x y : X) (xs : List X) → Contains xs x → Contains (y ∷ xs) x
contains_more x y xs (i, l, e) = (suc i, omega (arith, l), e)

contains_map : {X Y : Type 0} (f : X → Y) (x : X) (xs : List X) → Contains xs x → Contains (map f xs) (f x)
contains_map f x xs (i, l, e) = (i, omega (arith, l, length-map xs f), get_or_map f xs i x ∙ ap f e)

same_contains : {X : Type 0} (x : X) (xs ys : List X) → xs ≡ ys → Contains ys x → Contains xs x
same_contains {X} x xs ys e h = let P : List X → Type 0 = λ zs. Contains zs x in subst P (sym e) h

-- a number that passes is among those that are left
module _ (q : ℤ → Bool) where
  has_number : (n : ℕ) (a m k : ℤ) → k ≡ a +ℤ pos n → k <ℤ m → q k ≡ true → Contains (filter q (numbers_to a m)) k
  has_number zero a m k e l t =
      let f : k ≡ a = e ∙ plus_zero q a in
      let g : q a ≡ true = ap q (sym f) ∙ t in
      let here = take_one q a m (rw (← f) l) g in
      let P : ℤ → Type 0 = λ z. Contains (filter q (numbers_to a m)) z in
      subst P (sym f) (same_contains a (filter q (numbers_to a m)) (a ∷ filter q (numbers_to (a +ℤ pos 1) m)) here (0, omega arith, refl))
  has_number (suc n) a m k e l t =
      let up = plus_more q a n in
      let more = has_number n (a +ℤ pos 1) m k (e ∙ sym up) l t in
      let below : a <ℤ m = omega (arith, ints, e, l) in
      let line_distance = ap (filter q) (to_step a m below) in
      same_contains k (filter q (numbers_to a m)) (filter q (a ∷ numbers_to (a +ℤ pos 1) m)) line_distance
      (elim (cases_Bool (q a)) [
        | inl g ↦ rw g (contains_more k a (filter q (numbers_to (a +ℤ pos 1) m)) more)
        | inr g ↦ rw g more
      ])

higher_left : (v x y : ℤ) → v <ℤ x → v <ℤ int_max x y
higher_left v x y h = omega (arith, ints, clamps, h)

higher_right : (v x y : ℤ) → v <ℤ y → v <ℤ int_max x y
higher_right v x y h = omega (arith, ints, clamps, h)

lower_left : (v x y : ℤ) → x ≤ℤ v → int_min x y ≤ℤ v
lower_left v x y h = omega (arith, ints, clamps, h)

lower_right : (v x y : ℤ) → y ≤ℤ v → int_min x y ≤ℤ v
lower_right v x y h = omega (arith, ints, clamps, h)

module _ (lines : Lines) (above : 0 < line_distance lines) where
  -- the lines that an edge crosses are between the lowest and the highest height
  top_in : (edges : List Edge) (k : ℤ) → list_any (crosses lines k) edges ≡ true → level lines k <ℤ highest lines edges
  top_in [] k e = absurd (cc)
  top_in (x ∷ es) k e =
      elim (or_cases (crosses lines k x) (list_any (crosses lines k) es) e) [
        | inl t ↦ (
            let p = and_parts (int_le (bottom lines x) (level lines k)) (int_lt (level lines k) (top lines x)) t in
            let l = lt_from (level lines k) (top lines x) p.1 in
            higher_left (level lines k) (top lines x) (highest lines es) l
            )
        | inr t ↦ higher_right (level lines k) (top lines x) (highest lines es) (top_in es k t)
      ]

  bottom_in : (edges : List Edge) (k : ℤ) → list_any (crosses lines k) edges ≡ true → lowest lines edges ≤ℤ level lines k
  bottom_in [] k e = absurd (cc)
  bottom_in (x ∷ es) k e =
      elim (or_cases (crosses lines k x) (list_any (crosses lines k) es) e) [
        | inl t ↦ (
            let p = and_parts (int_le (bottom lines x) (level lines k)) (int_lt (level lines k) (top lines x)) t in
            let l = le_from (bottom lines x) (level lines k) p.0 in
            lower_left (level lines k) (bottom lines x) (lowest lines es) l
            )
        | inr t ↦ lower_right (level lines k) (bottom lines x) (lowest lines es) (bottom_in es k t)
      ]

  pub crossed_below : (edges : List Edge) (k : ℤ) → list_any (crosses lines k) edges ≡ true → k <ℤ line_from lines (highest lines edges)
  crossed_below edges k e =
      let l = top_in edges k e in
      let t = test_below lines (highest lines edges) k above in
      lt_from k (line_from lines (highest lines edges)) (t ∙ lt_true (level lines k) (highest lines edges) l)

  pub crossed_from : (edges : List Edge) (k : ℤ) → list_any (crosses lines k) edges ≡ true → line_from lines (lowest lines edges) ≤ℤ k
  crossed_from edges k e = from_height lines (lowest lines edges) k above (bottom_in edges k e)

  below_first : (edges : List Edge) (j : ℤ) → j <ℤ line_from lines (lowest lines edges) → list_any (crosses lines j) edges ≡ false
  below_first edges j h =
      elim (cases_Bool (list_any (crosses lines j) edges)) [
        | inl e ↦ (let l = crossed_from edges j e in absurd (omega (arith, ints, l, h)))
        | inr e ↦ e
      ]

  -- all lines are left at a line below which none is crossed
  pub all_filled : (rule : Rule) (edges : List Edge) (k : ℤ) → ((j : ℤ) → j <ℤ k → list_any (crosses lines j) edges ≡ false) → filled_from lines rule edges k ≡ filled lines rule edges
  unfolding filled_from filled
  all_filled rule edges k h =
      ap (map (line_spans lines rule edges))
      (same_start (λ j. list_any (crosses lines j) edges) k (line_from lines (lowest lines edges)) (line_from lines (highest lines edges)) h (below_first edges))

  pub filled_skip : (rule : Rule) (edges : List Edge) (k l : ℤ) → k ≤ℤ l → ((j : ℤ) → k ≤ℤ j → j <ℤ l → list_any (crosses lines j) edges ≡ false)
      → filled_from lines rule edges k ≡ filled_from lines rule edges l
  unfolding filled_from
  filled_skip rule edges k l p h =
      ap (map (line_spans lines rule edges)) (skip_to (λ j. list_any (crosses lines j) edges) k l (line_from lines (highest lines edges)) p h)

  pub filled_none : (rule : Rule) (edges : List Edge) (k : ℤ) → ((j : ℤ) → k ≤ℤ j → list_any (crosses lines j) edges ≡ false) → filled_from lines rule edges k ≡ []
  unfolding filled_from
  filled_none rule edges k h =
      ap (map (line_spans lines rule edges)) (none_left (λ j. list_any (crosses lines j) edges) k (line_from lines (highest lines edges)) h)

  pub filled_one : (rule : Rule) (edges : List Edge) (k : ℤ) → list_any (crosses lines k) edges ≡ true
      → filled_from lines rule edges k ≡ line_spans lines rule edges k ∷ filled_from lines rule edges (k +ℤ pos 1)
  unfolding filled_from
  filled_one rule edges k e =
      ap (map (line_spans lines rule edges)) (take_one (λ j. list_any (crosses lines j) edges) k (line_from lines (highest lines edges)) (crossed_below edges k e) e)

  -- each line that an edge crosses is there
  pub has_line : (rule : Rule) (edges : List Edge) (k : ℤ) → list_any (crosses lines k) edges ≡ true → Contains (filled lines rule edges) (line_spans lines rule edges k)
  unfolding filled_from filled
  has_line rule edges k e =
      let q : ℤ → Bool = λ j. list_any (crosses lines j) edges in
      let first = line_from lines (lowest lines edges) in
      let end = line_from lines (highest lines edges) in
      contains_map (line_spans lines rule edges) k (filter (λ j. list_any (crosses lines j) edges) (numbers_to first end))
      (has_number q (int_gap first k) first end k (gap_is q first k (crossed_from edges k e)) (crossed_below edges k e) e)
