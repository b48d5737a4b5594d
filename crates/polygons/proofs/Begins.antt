-- A sweep begins before all lines that an edge crosses.
use Rattle.std.proofs.Common.{◌≡◌, ℕ, zero, suc, ◌+◌, ◌-◌, ◌<◌, ◌≤◌, false, List, [], length, get_or, subst, arith, ℤ, negsuc, int_le, int_lt, int_cmp, is_lt, ◌≤ℤ◌, IsPermutation, inl, inr, Bor, Global}
use Rattle.std.proofs.lemmas.Bool.{cases_Bool, true≢false, and_left}
use Rattle.std.proofs.lemmas.Int.{ints}
use Rattle.std.proofs.lemmas.List.Elements.{All-nil, All-weaker}
use Rattle.std.proofs.lemmas.List.Sorted.{All-permutation}
use Rattle.std.specs.List.{All}
use Rattle.std.specs.Global.{Vec}
use Rattle.polygons.specs.declared.edge.Edge.{Edge}
use Rattle.polygons.specs.declared.lines.Rule.{Rule}
use Rattle.polygons.specs.declared.climb.Climb.{Climb}
use Rattle.polygons.specs.declared.ruling.Ruling.{Ruling}
use Rattle.polygons.specs.declared.sweep.Sweep.{Sweep}
use Rattle.polygons.specs.Fills.{filled}
use Rattle.polygons.specs.Climbs.{climbs_of, IsClimb, SameItems}
use Rattle.polygons.specs.Sweeps.{IsSweep, left}
use Rattle.polygons.proofs.Tests.{lt_not, le_false}
use Rattle.polygons.proofs.Totals.{from_permutation}
use Rattle.polygons.proofs.OnLines.{is_on, none_crosses}
use Rattle.polygons.proofs.Numbers.{all_filled}

-- neighbours are sorted
abbrev AreSorted : List Climb → Type 0
AreSorted cs = (k : ℕ) (d : Climb) → 0 ≤ k → k + 1 < length cs → is_lt (int_cmp (get_or cs (k + 1) d).first (get_or cs k d).first) ≡ false

not_less : (a b : ℤ) → is_lt (int_cmp b a) ≡ false → a ≤ℤ b
not_less a b e =
    elim (cases_Bool (int_lt b a)) [
      | inl f ↦ (let g = rw f at e in absurd (true≢false g))
      | inr f ↦ lt_not b a f
    ]

far : (cs : List Climb) → AreSorted cs → (n i : ℕ) (d : Climb) → i + n < length cs → (get_or cs i d).first ≤ℤ (get_or cs (i + n) d).first
far cs s zero i d l = let e : i + 0 ≡ i = omega arith in rw e (omega (arith, ints))
far cs s (suc n) i d l =
    let e : i + suc n ≡ (i + n) + 1 = omega arith in
    let a = far cs s n i d (omega (arith, l)) in
    let b = not_less (get_or cs (i + n) d).first (get_or cs (i + n + 1) d).first (s (i + n) d (omega arith) (omega (arith, l))) in
    rw e (omega (arith, ints, a, b))

rises : (cs : List Climb) → AreSorted cs → (i j : ℕ) (d : Climb) → i ≤ j → j < length cs → (get_or cs i d).first ≤ℤ (get_or cs j d).first
rises cs s i j d h l =
    let e : i + (j - i) ≡ j = omega (arith, h) in
    rw e at (far cs s (j - i) i d (omega (arith, h, l)))

module _ (ruling : Ruling) (rule : Rule) (edges : Bor (List Edge)) (alloc : Global) (found : List Climb) (climbs active : Vec Climb)
    (found_is : found ≡ climbs_of ruling.lines 0 edges.now) (sound : All (IsClimb (length edges.now)) found) (moved : IsPermutation found climbs.items)
    (sorted : AreSorted climbs.items) (none : active.items ≡ []) where
  all_sound : All (IsClimb (length edges.now)) climbs.items
  all_sound = All-permutation (IsClimb (length edges.now)) found climbs.items moved sound

  same_items : SameItems (climbs_of ruling.lines 0 edges.now) climbs.items
  same_items =
      let P : List Climb → Type 0 = λ xs. SameItems xs climbs.items in
      subst P found_is (from_permutation found climbs.items moved)

  abbrev begun : Sweep
  begun = record { alloc = alloc; edges = edges; ruling = ruling; rule = rule; climbs = climbs; line = negsuc 33554431; begun = 0; active = active }

  pub begins : IsSweep begun
  begins = record {
    same = same_items;
    sound = all_sound;
    rises = rises climbs.items sorted;
    begun_in = omega arith;
    passed = All-nil (λ c. c.first ≤ℤ negsuc 33554431);
    ahead = All-weaker (IsClimb (length edges.now)) (λ c. negsuc 33554431 ≤ℤ c.first) (λ c k. let f = k.range.first_in in omega (arith, ints, f)) climbs.items all_sound;
    active_is = none;
    line_in = omega (arith, ints);
  }

  pub begins_all : left begun ≡ filled ruling.lines rule edges.now
  begins_all =
      let h = ruling.apart_least in
      all_filled ruling.lines (omega (arith, h)) rule edges.now (negsuc 33554431)
      (λ j l. none_crosses ruling.lines edges.now climbs.items same_items (omega (arith, h)) j
      (All-weaker (IsClimb (length edges.now)) (λ c. is_on j c ≡ false)
      (λ c k. let f = k.range.first_in in and_left (int_le c.first j) (int_lt j c.end) (le_false c.first j (omega (arith, ints, l, f))))
      climbs.items all_sound))
