-- A sweep: how it begins, and the row below.
use Rattle.std.proofs.Common.{◌≡◌, ℕ, zero, suc, ◌+◌, ◌-◌, ◌≤◌, ◌<◌, List, [], filter, map, take, length, get_or, count_by, refl, false, arith, ℤ, pos, ◌-ℤ◌, ◌*ℤ◌, ◌≤ℤ◌, ◌<ℤ◌, IsPermutation}
use Rattle.std.specs.List.{All}
use Rattle.std.proofs.lemmas.Int.{ints}
use Rattle.std.specs.Cmp.{int_ranks}
use Rattle.std.specs.Ordering.{MatchOrdering, int_cmp, is_lt}
use Rattle.std.specs.declared.cmp.Ordering.{Ordering}
use Rattle.std.specs.declared.cmp.Ordering.TheVariants.{Less, Equal, Greater}
use Rattle.std.proofs.lemmas.List.{get_or-take, length-take}
use Rattle.std.proofs.lemmas.List.Elements.{All-filter, All-from_get_or, All-get_or, All-nil}
use Rattle.std.proofs.lemmas.List.Sorted.{All-permutation}
use Rattle.exact.proofs.Rounding.{le_scale}
use Rattle.plot_page.specs.Segments.{Segment}
use Rattle.areas.specs.declared.swept_edge.SweptEdge.{SweptEdge}
use Rattle.areas.specs.Sweeps.{AreBelow, AreNear, AreRising, AreSwept, IsInRow, IsWaiting, below, edge_at, is_past_down, is_past_up, reaches_down}
use Rattle.areas.proofs.Counts.{count_mapped, count_permuted}
use Rattle.areas.proofs.Gathered.{all_below, same_down, same_up}
use Rattle.areas.proofs.Live.{falls_left, rises_left}

-- all edges wait at first
pub near_sorted : (r : ℕ) (edges : List Segment) (low y : ℤ) (near after : List SweptEdge) → AreNear r edges low y near
    → IsPermutation near after → AreRising after → AreSwept r edges low y after []
near_sorted r edges low y near after h p up = record {
  waits = All-permutation IsWaiting near after p h.waits;
  ordered = up;
  in_row = All-nil (IsInRow r y);
  rises = λ x z a b.
      let c = count_permuted (λ m. is_past_up r m x z) near after p in
      let d = h.rises x z a b in
      let e : count_by (λ m. is_past_up r m x z) [] ≡ 0 = refl in
      omega (arith, c, d, e);
  falls = λ x z a b.
      let c = count_permuted (λ m. is_past_down r m x z) near after p in
      let d = h.falls x z a b in
      let e : count_by (λ m. is_past_down r m x z) [] ≡ 0 = refl in
      omega (arith, c, d, e);
}

-- neighbours in the order of their upper ends
not_less : (a b : ℤ) (o : Ordering) → MatchOrdering o (a <ℤ b) (a ≡ b) (b <ℤ a) → is_lt o ≡ false → b ≤ℤ a
not_less a b Less m h = cc h
not_less a b Equal m h = omega (arith, ints, m)
not_less a b Greater m h = omega (arith, ints, m)

rising_by : (near : List SweptEdge) → ((k : ℕ) → k + 1 < length near → (edge_at near k).by ≤ℤ (edge_at near (k + 1)).by)
    → (j d : ℕ) → j + d < length near → (edge_at near j).by ≤ℤ (edge_at near (j + d)).by
rising_by near step j zero within = let e : j + zero ≡ j = omega arith in rw e (omega (arith, ints))
rising_by near step j (suc d) within =
    let e : j + suc d ≡ j + d + 1 = omega arith in
    let a = rising_by near step j d (omega (arith, within)) in
    let b = step (j + d) (omega (arith, within)) in
    rw e (omega (arith, ints, a, b))

pub rising_from : (near : List SweptEdge)
    → ((k : ℕ) (n : SweptEdge) → 0 ≤ k → k + 1 < length near → is_lt (int_cmp (get_or near (k + 1) n).by (get_or near k n).by) ≡ false)
    → AreRising near
rising_from near sorted j k order within =
    let e : j + (k - j) ≡ k = omega (arith, order) in
    let up = rising_by near (λ i l. not_less _ _ _ (int_ranks (edge_at near (i + 1)).by (edge_at near i).by) (sorted i (edge_at [] 0) (omega arith) l)) j (k - j) (omega (arith, e, within)) in
    rw e at up

-- if the highest of the edges that wait ends no higher than a row, no other one does
pub below_last : (r : ℕ) (y : ℤ) (near : List SweptEdge) (w : ℕ) → w ≤ length near → AreRising (take w near)
    → ((k : ℕ) → k + 1 ≡ w → (pos r *ℤ (edge_at near k).by) ≤ℤ y) → AreBelow r y (take w near)
below_last r y near w few up last =
    let long = length-take w near in
    All-from_get_or (λ n. (pos r *ℤ n.by) ≤ℤ y) (take w near) (edge_at [] 0) (λ i within.
    let k = w - 1 in
    let e : k + 1 ≡ w = omega (arith, within, long) in
    let top = last k e in
    let a = get_or-take w near k (edge_at [] 0) (omega (arith, e)) in
    let no_higher = up i k (omega (arith, within, long, e)) (omega (arith, long, e, few)) in
    let under = rw a at no_higher in
    let scaled = le_scale r (edge_at (take w near) i).by (edge_at near k).by under in
    omega (arith, ints, scaled, top))

-- others come to a row in another order
pub live_sorted : (r : ℕ) (edges : List Segment) (low y : ℤ) (waiting live after : List SweptEdge) → AreSwept r edges low y waiting live
    → IsPermutation live after → AreSwept r edges low y waiting after
live_sorted r edges low y waiting live after h p = record {
  waits = h.waits;
  ordered = h.ordered;
  in_row = All-permutation (IsInRow r y) live after p h.in_row;
  rises = λ x z a b.
      let c = count_permuted (λ m. is_past_up r m x z) live after p in
      let d = h.rises x z a b in
      omega (arith, c, d);
  falls = λ x z a b.
      let c = count_permuted (λ m. is_past_down r m x z) live after p in
      let d = h.falls x z a b in
      omega (arith, c, d);
}

-- in the row below
pub swept_below : (r : ℕ) (edges : List Segment) (low y : ℤ) (waiting live after : List SweptEdge) → AreSwept r edges low y waiting live
    → IsPermutation (map below (filter (reaches_down r (y -ℤ pos 16256)) live)) after → AreSwept r edges low (y -ℤ pos 16256) waiting after
swept_below r edges low y waiting live after h p =
    let next = y -ℤ pos 16256 in
    let kept = filter (reaches_down r next) live in
    record {
      waits = h.waits;
      ordered = h.ordered;
      in_row = All-permutation (IsInRow r next) (map below kept) after p (all_below r y kept (All-filter (reaches_down r next) (IsInRow r y) live h.in_row));
      rises = λ x z a b.
          let c = count_permuted (λ m. is_past_up r m x z) (map below kept) after p in
          let d = count_mapped (λ m. is_past_up r m x z) (λ m. is_past_up r m x z) below (λ m. same_up r m x z) kept in
          let e = rises_left r next x z b live in
          let f = h.rises x z a (omega (arith, ints, b)) in
          omega (arith, c, d, e, f);
      falls = λ x z a b.
          let c = count_permuted (λ m. is_past_down r m x z) (map below kept) after p in
          let d = count_mapped (λ m. is_past_down r m x z) (λ m. is_past_down r m x z) below (λ m. same_down r m x z) kept in
          let e = falls_left r next x z b live in
          let f = h.falls x z a (omega (arith, ints, b)) in
          omega (arith, c, d, e, f);
    }

-- the highest of the edges that wait is one
pub waits_at : (near : List SweptEdge) (w : ℕ) → 0 < w → w ≤ length near → All IsWaiting (take w near) → IsWaiting (edge_at near (w - 1))
waits_at near w some few h =
    let long = length-take w near in
    let a = get_or-take w near (w - 1) (edge_at [] 0) (omega (arith, some)) in
    let b = All-get_or IsWaiting (take w near) (w - 1) (edge_at [] 0) (omega (arith, long, some, few)) h in
    rw a at b
