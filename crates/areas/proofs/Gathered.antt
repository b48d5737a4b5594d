-- The edges of a sweep and the crossings of a row: one more, in another order, and in the row below.
use Rattle.std.proofs.Common.{◌≡◌, ℕ, ◌+◌, ◌^◌, ◌≤◌, ◌<◌, Bool, not, ◌&&◌, nat_le, List, [], ◌∷◌, ◌++◌, map, take, length, get_or, count_by, refl, sym, ap, ap₂, ◌∙◌, arith, ℤ, pos, nat_abs, ◌+ℤ◌, ◌-ℤ◌, ◌*ℤ◌, ◌≤ℤ◌, int_lt, inl, inr, IsPermutation}
use Rattle.std.specs.List.{All}
use Rattle.std.proofs.lemmas.Bool.{cases_Bool}
use Rattle.std.proofs.lemmas.Int.{ints}
use Rattle.std.proofs.lemmas.List.{take_more}
use Rattle.std.proofs.lemmas.List.Elements.{All-append, All-cons, All-head, All-nil, All-tail}
use Rattle.std.proofs.lemmas.List.Sorted.{All-permutation}
use Rattle.std.proofs.Math.Seq.{take-append_seam}
use Rattle.plot_page.specs.Segments.{Segment}
use Rattle.polygons.specs.Fills.{is_inside}
use Rattle.polygons.specs.declared.lines.Rule.{Rule}
use Rattle.polygons.proofs.SolidLaws.{one, count_is}
use Rattle.areas.specs.declared.crossing.Crossing.{Crossing}
use Rattle.areas.specs.declared.swept_edge.SweptEdge.{SweptEdge}
use Rattle.areas.specs.Inside.{rises_past, falls_past, is_inside_area}
use Rattle.areas.specs.Crossings.{AreCrossings, IsClear, IsCrossing, centre_of_column, is_inside_at}
use Rattle.areas.specs.Sweeps.{AreBelow, AreNear, AreSwept, IsEdge, IsFar, IsInRow, IsSomewhere, IsWaiting, below, is_past_down, is_past_up, pixel_of}
use Rattle.areas.proofs.Counts.{count_append, count_permuted}
use Rattle.areas.proofs.Live.{none_falls, none_rises}
use Rattle.areas.proofs.SweptEdges.{in_row_below}

-- what was sorted, and what follows it
pub first_part : {X : Type 0} (cs rest : List X) (n : ℕ) → length cs ≡ n → take n (cs ++ rest) ≡ cs
first_part cs rest n h = ap (λ (m : ℕ). take m (cs ++ rest)) (sym h) ∙ take-append_seam cs rest

-- one more on both sides
one_each : {X Y : Type 0} (p : X → Bool) (q : Y → Bool) (xs : List X) (ys : List Y) (x : X) (y : Y)
    → count_by p xs ≡ count_by q ys → p x ≡ q y → count_by p (xs ++ x ∷ []) ≡ count_by q (ys ++ y ∷ [])
one_each p q xs ys x y h e =
    let a = count_append p xs (x ∷ []) in
    let b = count_append q ys (y ∷ []) in
    let c = count_is p (x ∷ []) in
    let d = count_is q (y ∷ []) in
    let f = ap one e in
    omega (arith, a, b, c, d, f, h)

-- one more that does not count
one_none : {X Y : Type 0} (p : X → Bool) (q : Y → Bool) (xs : List X) (ys : List Y) (y : Y)
    → count_by p xs ≡ count_by q ys → one (q y) ≡ 0 → count_by p xs ≡ count_by q (ys ++ y ∷ [])
one_none p q xs ys y h e =
    let b = count_append q ys (y ∷ []) in
    let d = count_is q (y ∷ []) in
    omega (arith, b, d, e, h)

module _ (r : ℕ) (low y : ℤ) where
  near_more : (edges : List Segment) (near : List SweptEdge) (e : Segment) (n : SweptEdge) → AreNear r edges low y near → IsEdge r e n
      → AreNear r (edges ++ e ∷ []) low y (near ++ n ∷ [])
  near_more edges near e n h is = record {
    waits = All-append IsWaiting near (n ∷ []) h.waits (All-cons IsWaiting n [] is.waits (All-nil IsWaiting));
    rises = λ x z a b. one_each (λ m. is_past_up r m x z) (λ s. rises_past r s x z) near edges n e (h.rises x z a b) (is.rises x z);
    falls = λ x z a b. one_each (λ m. is_past_down r m x z) (λ s. falls_past r s x z) near edges n e (h.falls x z a b) (is.falls x z);
  }

  far_more : (edges : List Segment) (near : List SweptEdge) (e : Segment) → AreNear r edges low y near → IsFar r low y e
      → AreNear r (edges ++ e ∷ []) low y near
  far_more edges near e h is = record {
    waits = h.waits;
    rises = λ x z a b. one_none (λ m. is_past_up r m x z) (λ s. rises_past r s x z) near edges e (h.rises x z a b) (ap one (is.rises x z a b));
    falls = λ x z a b. one_none (λ m. is_past_down r m x z) (λ s. falls_past r s x z) near edges e (h.falls x z a b) (ap one (is.falls x z a b));
  }

  pub near_next : (edges : List Segment) (near : List SweptEdge) (i : ℕ) (e : Segment) (n : SweptEdge) → i < length edges → e ≡ get_or edges i e
      → AreNear r (take i edges) low y near → IsEdge r e n → AreNear r (take (i + 1) edges) low y (near ++ n ∷ [])
  near_next edges near i e n l is h x =
      let more = take_more edges i e l ∙ ap (λ s. take i edges ++ s ∷ []) (sym is) in
      rw more (near_more (take i edges) near e n h x)

  pub far_next : (edges : List Segment) (near : List SweptEdge) (i : ℕ) (e : Segment) → i < length edges → e ≡ get_or edges i e
      → AreNear r (take i edges) low y near → IsFar r low y e → AreNear r (take (i + 1) edges) low y near
  far_next edges near i e l is h x =
      let more = take_more edges i e l ∙ ap (λ s. take i edges ++ s ∷ []) (sym is) in
      rw more (far_more (take i edges) near e h x)

-- the same edges in the row below
pub same_up : (r : ℕ) (n : SweptEdge) (x z : ℤ) → is_past_up r (below n) x z ≡ is_past_up r n x z
same_up r n x z = elim (cases_Bool (int_lt (n.short +ℤ pos 16256 *ℤ n.rest) (pixel_of n))) [
  | inl t ↦ rw t refl
  | inr f ↦ rw f refl
]

pub same_down : (r : ℕ) (n : SweptEdge) (x z : ℤ) → is_past_down r (below n) x z ≡ is_past_down r n x z
same_down r n x z = elim (cases_Bool (int_lt (n.short +ℤ pos 16256 *ℤ n.rest) (pixel_of n))) [
  | inl t ↦ rw t refl
  | inr f ↦ rw f refl
]

pub all_below : (r : ℕ) (y : ℤ) (near : List SweptEdge) → All (IsInRow r y) near → All (IsInRow r (y -ℤ pos 16256)) (map below near)
all_below r y [] h = All-nil (IsInRow r (y -ℤ pos 16256))
all_below r y (n ∷ ns) h =
    All-cons (IsInRow r (y -ℤ pos 16256)) (below n) (map below ns) (in_row_below r y n (All-head (IsInRow r y) n ns h))
    (all_below r y ns (All-tail (IsInRow r y) n ns h))

pub all_somewhere : (r : ℕ) (y : ℤ) → r ≤ 1200 → nat_abs y ≤ 2 ^ 34 → (near : List SweptEdge) → All (IsInRow r y) near → All IsSomewhere near
all_somewhere r y few by [] h = All-nil IsSomewhere
all_somewhere r y few by (n ∷ ns) h =
    All-cons IsSomewhere n ns (record { r = r; y = y; few = few; near = by; in_row = All-head (IsInRow r y) n ns h })
    (all_somewhere r y few by ns (All-tail (IsInRow r y) n ns h))

module _ (r : ℕ) (y : ℤ) (columns : ℕ) where
  abbrev Are : List SweptEdge → List Crossing → Type 0
  Are = AreCrossings r y columns

  crossed : (near : List SweptEdge) (cs : List Crossing) (n : SweptEdge) (c : Crossing) → Are near cs → IsCrossing r y columns n c
      → Are (near ++ n ∷ []) (cs ++ c ∷ [])
  crossed near cs n c h is = record {
    rises = λ k l. one_each (λ d. d.is_upward && nat_le d.column k) (λ m. is_past_up r m (centre_of_column k) y) cs near c n (h.rises k l) (sym (is.rises k l));
    falls = λ k l. one_each (λ d. not d.is_upward && nat_le d.column k) (λ m. is_past_down r m (centre_of_column k) y) cs near c n (h.falls k l) (sym (is.falls k l));
    within = All-append (λ d. d.column ≤ columns) cs (c ∷ []) h.within (grind (arith, is.within));
  }

  clear : (near : List SweptEdge) (cs : List Crossing) (n : SweptEdge) → Are near cs → IsClear r y n → Are (near ++ n ∷ []) cs
  clear near cs n h is = record {
    rises = λ k l. one_none (λ d. d.is_upward && nat_le d.column k) (λ m. is_past_up r m (centre_of_column k) y) cs near n (h.rises k l) (ap one (is.rises (centre_of_column k)));
    falls = λ k l. one_none (λ d. not d.is_upward && nat_le d.column k) (λ m. is_past_down r m (centre_of_column k) y) cs near n (h.falls k l) (ap one (is.falls (centre_of_column k)));
    within = h.within;
  }

  pub crossed_next : (near : List SweptEdge) (cs : List Crossing) (i : ℕ) (n : SweptEdge) (c : Crossing) → i < length near → n ≡ get_or near i n
      → Are (take i near) cs → IsCrossing r y columns n c → Are (take (i + 1) near) (cs ++ c ∷ [])
  crossed_next near cs i n c l is h x =
      let more = take_more near i n l ∙ ap (λ s. take i near ++ s ∷ []) (sym is) in
      rw more (crossed (take i near) cs n c h x)

  pub clear_next : (near : List SweptEdge) (cs : List Crossing) (i : ℕ) (n : SweptEdge) → i < length near → n ≡ get_or near i n
      → Are (take i near) cs → IsClear r y n → Are (take (i + 1) near) cs
  clear_next near cs i n l is h x =
      let more = take_more near i n l ∙ ap (λ s. take i near ++ s ∷ []) (sym is) in
      rw more (clear (take i near) cs n h x)

  pub in_order : (near : List SweptEdge) (cs ds : List Crossing) → IsPermutation cs ds → Are near cs → Are near ds
  in_order near cs ds p h = record {
    rises = λ k l. sym (count_permuted (λ d. d.is_upward && nat_le d.column k) cs ds p) ∙ h.rises k l;
    falls = λ k l. sym (count_permuted (λ d. not d.is_upward && nat_le d.column k) cs ds p) ∙ h.falls k l;
    within = All-permutation (λ d. d.column ≤ columns) cs ds p h.within;
  }

  pub inside_is : (rule : Rule) (edges : List Segment) (low : ℤ) (waiting live : List SweptEdge) (cs : List Crossing) (k : ℕ) → k < columns
      → low ≤ℤ y → AreSwept r edges low y waiting live → AreBelow r y waiting → Are live cs
      → is_inside_at rule cs k ≡ is_inside_area rule r edges (centre_of_column k) y
  inside_is rule edges low waiting live cs k l above swept under h =
      let last : y ≤ℤ y = omega (arith, ints) in
      let x = centre_of_column k in
      let up = none_rises r y waiting under x in
      let down = none_falls r y waiting under x in
      let rises = swept.rises x y above last in
      let falls = swept.falls x y above last in
      let risen = h.rises k l in
      let fallen = h.falls k l in
      ap₂ (is_inside rule) (omega (arith, up, rises, risen)) (omega (arith, down, falls, fallen))
