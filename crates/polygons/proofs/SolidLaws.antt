-- Closed sub-polygons cross each line as often upwards as downwards, so no place inside is left out.
use Rattle.std.proofs.Common.{◌≡◌, ℕ, ◌+◌, ◌%◌, Bool, true, false, cond, not, ◌&&◌, nat_eq, List, [], ◌∷◌, ◌++◌, length, count_by, inl, inr, refl, sym, ap, ap₂, ◌∙◌, arith, append_assoc, ℤ, ◌≤ℤ◌, ◌<ℤ◌, int_le, int_lt}
use Rattle.std.proofs.lemmas.Bool.{cases_Bool, true≢false, eq-eqb, and_left, and_right}
use Rattle.std.proofs.lemmas.Int.{ints, clamps, by_lt_z}
use Rattle.std.proofs.lemmas.List.{append-nil, get_or-append-add, length-append}
use Rattle.std.proofs.lemmas.List.Elements.{All-head, All-tail}
use Rattle.std.proofs.lemmas.List.Recursion.{is_count_by}
use Rattle.std.specs.Int.{int_min, int_max}
use Rattle.std.specs.List.{All, Any, flat_map, filter}
use Rattle.exact.specs.declared.spot.Spot.{Spot}
use Rattle.polygons.specs.declared.edge.Edge.{Edge}
use Rattle.polygons.specs.declared.lines.Lines.{Lines}
use Rattle.polygons.specs.declared.lines.Rule.{Rule}
use Rattle.polygons.specs.declared.lines.Rule.TheVariants.{OddCounts, Winding}
use Rattle.polygons.specs.Fills.{Crossing, height, level, crosses, crossing, crossings, rank, put_in, sorted_by, ordered_crossings, is_inside, is_inside_after, span_from, spans_after, line_spans}
use Rattle.polygons.specs.Climbs.{total, SameItems}
use Rattle.polygons.specs.Laws.{IsPath, IsLoop, AreLoops, lower, IsBetween, FillsAreSolid}
use Rattle.polygons.proofs.Tests.{le_true, le_false, lt_true, lt_false, le_from, le_not, lt_from, lt_not}
use Rattle.polygons.proofs.Totals.{total_filter, total_map, same_filter}
use Rattle.polygons.proofs.Numbers.{has_line}
use Rattle.polygons.proofs.Orders.{Each, each_weaker, same_sorted}

abbrev pub one : Bool → ℕ
one b = cond b 1 0

pub count_is : {X : Type 0} (p : X → Bool) (xs : List X) → total (λ x. one (p x)) xs ≡ count_by p xs
count_is p xs = is_count_by (total (λ x. one (p x))) p refl
    (λ x ys. elim (cases_Bool (p x)) [
      | inl e ↦ rw e refl
      | inr e ↦ rw e (omega arith)
    ]) xs

pub same_count : {X : Type 0} (p : X → Bool) (xs ys : List X) → SameItems xs ys → count_by p xs ≡ count_by p ys
same_count p xs ys s = sym (count_is p xs) ∙ s.sums (λ x. one (p x)) ∙ count_is p ys

-- crossings in another order
same_inside : (rule : Rule) (xs ys : List Crossing) → SameItems xs ys → is_inside_after rule xs ≡ is_inside_after rule ys
same_inside rule xs ys s = ap₂ (is_inside rule) (same_count (λ c. c.is_upward) xs ys s) (same_count (λ c. not c.is_upward) xs ys s)

-- as many upward crossings as others
even : (n : ℕ) → nat_eq ((n + n) % 2) 1 ≡ false
even n = let e : (n + n) % 2 ≡ 0 = omega arith in rw e refl

pub outside : (rule : Rule) (n m : ℕ) → n ≡ m → is_inside rule n m ≡ false
outside OddCounts n m e = rw (← e) (even n)
outside Winding n m e = let f = eq-eqb n m e in rw f refl

-- whether an end of an edge is not above the line
abbrev reach : Lines → ℤ → Spot → ℕ
reach lines k p = one (int_le (height lines p) (level lines k))

abbrev upward : Lines → ℤ → Edge → ℕ
upward lines k e = cond (crosses lines k e) (one (int_lt (height lines e.from) (height lines e.to))) 0

abbrev downward : Lines → ℤ → Edge → ℕ
downward lines k e = cond (crosses lines k e) (one (not (int_lt (height lines e.from) (height lines e.to)))) 0

-- an edge from height a to b, at a line of height v
edge_turns : (a b v : ℤ) → one (int_le a v) + cond (int_le (int_min a b) v && int_lt v (int_max a b)) (one (not (int_lt a b))) 0
    ≡ one (int_le b v) + cond (int_le (int_min a b) v && int_lt v (int_max a b)) (one (int_lt a b)) 0
edge_turns a b v =
    elim (cases_Bool (int_le a v)) [
      | inl p ↦ (let l = le_from a v p in elim (cases_Bool (int_le b v)) [
        | inl q ↦ (let m = le_from b v q in
            let t = and_right (int_le (int_min a b) v) (int_lt v (int_max a b)) (lt_false v (int_max a b) (omega (arith, ints, clamps, l, m))) in
            rw (p, q, t) refl)
        | inr q ↦ (let m = le_not b v q in
            let s = le_true (int_min a b) v (omega (arith, ints, clamps, l, m)) in
            let t = lt_true v (int_max a b) (omega (arith, ints, clamps, l, m)) in
            let u = lt_true a b (omega (arith, ints, l, m)) in
            rw (p, q, s, t, u) refl)
      ])
      | inr p ↦ (let l = le_not a v p in elim (cases_Bool (int_le b v)) [
        | inl q ↦ (let m = le_from b v q in
            let s = le_true (int_min a b) v (omega (arith, ints, clamps, l, m)) in
            let t = lt_true v (int_max a b) (omega (arith, ints, clamps, l, m)) in
            let u = lt_false a b (omega (arith, ints, l, m)) in
            rw (p, q, s, t, u) refl)
        | inr q ↦ (let m = le_not b v q in
            let t = and_left (int_le (int_min a b) v) (int_lt v (int_max a b)) (le_false (int_min a b) v (omega (arith, ints, clamps, l, m))) in
            rw (p, q, t) refl)
      ])
    ]

path_turns : (lines : Lines) (k : ℤ) (p : Spot) (es : List Edge) (q : Spot) → IsPath p es q
    → reach lines k p + total (downward lines k) es ≡ reach lines k q + total (upward lines k) es
path_turns lines k p [] q h = ap (λ z. reach lines k z + 0) h
path_turns lines k p (e ∷ es) q h =
    let here = edge_turns (height lines e.from) (height lines e.to) (level lines k) in
    let more = path_turns lines k e.to es q h.1 in
    let f = ap (reach lines k) h.0 in
    omega (arith, here, more, f)

pub total-append : {X : Type 0} (f : X → ℕ) (xs ys : List X) → total f (xs ++ ys) ≡ total f xs + total f ys
total-append f [] ys = omega arith
total-append f (x ∷ xs) ys = let more = total-append f xs ys in omega (arith, more)

loops_turn : (lines : Lines) (k : ℤ) (loops : List (List Edge)) → All IsLoop loops
    → total (downward lines k) (flat_map (λ loop. loop) loops) ≡ total (upward lines k) (flat_map (λ loop. loop) loops)
loops_turn lines k [] h = refl
loops_turn lines k (x ∷ xs) h =
    let l = All-head IsLoop x xs h in
    let here = path_turns lines k l.start x l.start l.closed in
    let more = loops_turn lines k xs (All-tail IsLoop x xs h) in
    let a = total-append (downward lines k) x (flat_map (λ loop. loop) xs) in
    let b = total-append (upward lines k) x (flat_map (λ loop. loop) xs) in
    omega (arith, here, more, a, b)

upward_count : (lines : Lines) (k : ℤ) (es : List Edge) → count_by (λ c. c.is_upward) (crossings lines k es) ≡ total (upward lines k) es
upward_count lines k es =
    sym (count_is (λ c. c.is_upward) (crossings lines k es))
    ∙ total_map (crossing lines k) (λ c. one c.is_upward) (filter (crosses lines k) es)
    ∙ total_filter (crosses lines k) (λ e. one (int_lt (height lines e.from) (height lines e.to))) es

downward_count : (lines : Lines) (k : ℤ) (es : List Edge) → count_by (λ c. not c.is_upward) (crossings lines k es) ≡ total (downward lines k) es
downward_count lines k es =
    sym (count_is (λ c. not c.is_upward) (crossings lines k es))
    ∙ total_map (crossing lines k) (λ c. one (not c.is_upward)) (filter (crosses lines k) es)
    ∙ total_filter (crosses lines k) (λ e. one (not (int_lt (height lines e.from) (height lines e.to)))) es

all_passed : (lines : Lines) (rule : Rule) (edges : List Edge) (k : ℤ) → AreLoops edges → is_inside_after rule (crossings lines k edges) ≡ false
all_passed lines rule edges k h =
    let t = rw (← h.is) at (loops_turn lines k h.loops h.each) in
    outside rule (count_by (λ c. c.is_upward) (crossings lines k edges)) (count_by (λ c. not c.is_upward) (crossings lines k edges))
    (upward_count lines k edges ∙ sym t ∙ sym (downward_count lines k edges))

none_passed : (rule : Rule) → is_inside_after rule [] ≡ false
none_passed OddCounts = refl
none_passed Winding = refl

-- sorted by a key
module _ {X : Type 0} (key : X → ℤ) where
  abbrev Climbs : List X → Type 0
  Climbs [] = Unit {0}
  Climbs (x ∷ xs) = Each (λ y. key x ≤ℤ key y) xs × Climbs xs

  each_in : (P : X → Type 0) (x : X) (ys : List X) → P x → Each P ys → Each P (put_in key x ys)
  each_in P x [] p h = (p, tt)
  each_in P x (y ∷ ys) p h =
      elim (cases_Bool (int_le (key x) (key y))) [
        | inl e ↦ rw e (p, h)
        | inr e ↦ rw e (h.0, each_in P x ys p h.1)
      ]

  each_by : (P : X → Type 0) (xs : List X) → Each P xs → Each P (sorted_by key xs)
  each_by P [] h = tt
  each_by P (x ∷ xs) h = each_in P x (sorted_by key xs) h.0 (each_by P xs h.1)

  climbs_in : (x : X) (ys : List X) → Climbs ys → Climbs (put_in key x ys)
  climbs_in x [] h = (tt, tt)
  climbs_in x (y ∷ ys) h =
      elim (cases_Bool (int_le (key x) (key y))) [
        | inl e ↦ (let p = le_from (key x) (key y) e in
            rw e ((p, each_weaker (λ z. key y ≤ℤ key z) (λ z. key x ≤ℤ key z) ys (λ z l. omega (arith, ints, l, p)) h.0), h))
        | inr e ↦ (let p = le_not (key x) (key y) e in
            rw e (each_in (λ z. key y ≤ℤ key z) x ys (omega (arith, ints, p)) h.0, climbs_in x ys h.1))
      ]

  climbs_by : (xs : List X) → Climbs (sorted_by key xs)
  climbs_by [] = tt
  climbs_by (x ∷ xs) = climbs_in x (sorted_by key xs) (climbs_by xs)

  none_lower : (r : ℤ) (xs : List X) → Each (λ y. r ≤ℤ key y) xs → filter (λ y. int_lt (key y) r) xs ≡ []
  none_lower r [] h = refl
  none_lower r (x ∷ xs) h = let e = lt_false (key x) r h.0 in rw e (none_lower r xs h.1)

each_from : {X : Type 0} (P : X → Type 0) (xs : List X) → All P xs → Each P xs
each_from P [] h = tt
each_from P (x ∷ xs) h = (All-head P x xs h, each_from P xs (All-tail P x xs h))

any_left : {X : Type 0} (P : X → Type 0) (x : X) (ys : List X) → P x → Any P ((x ∷ []) ++ ys)
any_left P x ys p = (0, x, omega arith, refl, p)

any_right : {X : Type 0} (P : X → Type 0) (xs ys : List X) → Any P ys → Any P (xs ++ ys)
any_right P xs ys (n, y, l, e, p) = (length xs + n, y, omega (arith, l, length-append xs ys), get_or-append-add xs ys n y ∙ e, p)

above : (r z : ℤ) → r ≤ℤ z → ¬ (z ≡ r) → r <ℤ z
above r z l n = by_lt_z r z (λ h. h) (λ h. absurd (n (omega (arith, ints, l, h))))

module _ (lines : Lines) (rule : Rule) (r : ℤ) where
  abbrev key : Crossing → ℤ
  key c = rank lines c.place

  abbrev is_lower : Crossing → Bool
  is_lower c = int_lt (rank lines c.place) r

  solid : (passed : List Crossing) (c : Crossing) (rest : List Crossing) → key c <ℤ r → Climbs key rest → Each (λ d. ¬ (key d ≡ r)) rest
      → is_inside_after rule ((passed ++ (c ∷ [])) ++ filter is_lower rest) ≡ true → is_inside_after rule ((passed ++ (c ∷ [])) ++ rest) ≡ false
      → Any (IsBetween lines r) (spans_after rule passed (c ∷ rest))
  solid passed c [] l s n i o = absurd (true≢false (sym i ∙ o))
  solid passed c (d ∷ ds) l s n i o =
      let reached = passed ++ (c ∷ []) in
      elim (cases_Bool (int_lt (key d) r)) [
        | inl e ↦ (
            let i2 = rw e at i in
            let i3 = rw (← append_assoc reached (d ∷ []) (filter is_lower ds)) at i2 in
            let o3 = rw (← append_assoc reached (d ∷ []) ds) at o in
            any_right (IsBetween lines r) (span_from (is_inside_after rule reached) c (d ∷ ds)) (spans_after rule reached (d ∷ ds))
            (solid reached d ds (lt_from (key d) r e) s.1 n.1 i3 o3)
            )
        | inr e ↦ (
            let g = lt_not (key d) r e in
            let ne = n.0 in
            let up : r <ℤ key d = above r (key d) g ne in
            let none = none_lower key r ds (each_weaker (λ z. key d ≤ℤ key z) (λ z. r ≤ℤ key z) ds (λ z m. omega (arith, ints, m, g)) s.0) in
            let i2 = rw (e, none) at i in
            let i3 : is_inside_after rule reached ≡ true = ap (is_inside_after rule) (sym (append-nil reached)) ∙ i2 in
            rw i3 (any_left (IsBetween lines r) (record { from = c.place; to = d.place }) (spans_after rule reached (d ∷ ds)) (record { after = l; before = up }))
            )
      ]

  whole : (cs : List Crossing) → Climbs key cs → Each (λ d. ¬ (key d ≡ r)) cs → is_inside_after rule (filter is_lower cs) ≡ true → is_inside_after rule cs ≡ false
      → Any (IsBetween lines r) (spans_after rule [] cs)
  whole [] s n i o = absurd (true≢false (sym i ∙ none_passed rule))
  whole (c ∷ cs) s n i o =
      elim (cases_Bool (int_lt (key c) r)) [
        | inl e ↦ (let i2 = rw e at i in solid [] c cs (lt_from (key c) r e) s.1 n.1 i2 o)
        | inr e ↦ (
            let g = lt_not (key c) r e in
            let none = none_lower key r cs (each_weaker (λ z. key c ≤ℤ key z) (λ z. r ≤ℤ key z) cs (λ z m. omega (arith, ints, m, g)) s.0) in
            let i2 = rw (e, none) at i in
            absurd (true≢false (sym i2 ∙ none_passed rule))
            )
      ]

inside_is_filled : (lines : Lines) (rule : Rule) (edges : List Edge) (k r : ℤ) → AreLoops edges → is_inside_after rule (lower lines edges k r) ≡ true
    → All (λ c. ¬ (rank lines c.place ≡ r)) (crossings lines k edges) → Any (IsBetween lines r) (line_spans lines rule edges k)
inside_is_filled lines rule edges k r h i n =
    let found = crossings lines k edges in
    let same = same_sorted (λ c. rank lines c.place) found in
    let lower_same = same_filter (λ c. int_lt (rank lines c.place) r) found (ordered_crossings lines k edges) same in
    whole lines rule r (ordered_crossings lines k edges) (climbs_by (λ c. rank lines c.place) found)
    (each_by (λ c. rank lines c.place) (λ d. ¬ (rank lines d.place ≡ r)) found (each_from (λ d. ¬ (rank lines d.place ≡ r)) found n))
    (sym (same_inside rule (lower lines edges k r) (filter (λ c. int_lt (rank lines c.place) r) (ordered_crossings lines k edges)) lower_same) ∙ i)
    (sym (same_inside rule found (ordered_crossings lines k edges) same) ∙ all_passed lines rule edges k h)

pub fills_are_solid_lem : FillsAreSolid
fills_are_solid_lem = record {
  inside = inside_is_filled;
  line = λ lines rule edges k h e. has_line lines (omega (arith, h)) rule edges k e;
}
