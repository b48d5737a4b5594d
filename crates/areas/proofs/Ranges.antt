-- The ranges between the crossings of a row hold the columns that are inside.
use Rattle.std.proofs.Common.{◌≡◌, ℕ, suc, ◌+◌, ◌≤◌, ◌<◌, Bool, true, false, not, ◌&&◌, ◌||◌, nat_le, nat_lt, nat_cmp, is_lt, List, [], ◌∷◌, ◌++◌, length, drop, get_or, count_by, inl, inr, refl, sym, ap, ap₂, ◌∙◌, arith}
use Rattle.std.proofs.lemmas.Bool.{cases_Bool, cases_lt}
use Rattle.std.proofs.lemmas.List.{drop_all}
use Rattle.std.proofs.lemmas.List.Folds.{list_any-append}
use Rattle.std.proofs.lemmas.Map.Keys.{ge_from_not_lt}
use Rattle.std.proofs.lemmas.List.Elements.{All-append, All-cons, All-head, All-nil, All-tail}
use Rattle.std.specs.List.{All}
use Rattle.polygons.specs.Fills.{is_inside}
use Rattle.polygons.specs.declared.lines.Rule.{Rule}
use Rattle.polygons.proofs.SolidLaws.{one, count_is}
use Rattle.areas.specs.declared.crossing.Crossing.{Crossing}
use Rattle.areas.specs.declared.range.ColumnRange.{ColumnRange}
use Rattle.areas.specs.Crossings.{AreOrdered, IsRange, range_if, one_if, ranges_after, is_in, is_in_any, is_inside_at, upward_until, downward_until}

-- tests that are decided
alone : (b : Bool) → (b || false) ≡ b
alone true = refl
alone false = refl

nothing : (b : Bool) → one (b && false) + 0 ≡ 0
nothing true = refl
nothing false = refl

whole : (b : Bool) → one (b && true) ≡ one_if b
whole true = refl
whole false = refl

swapped : (a b : Bool) → (a && (b && true)) ≡ (b && a)
swapped true true = refl
swapped true false = refl
swapped false true = refl
swapped false false = refl

swapped_alone : (a b : Bool) → ((a && (b && true)) || false) ≡ (b && a)
swapped_alone true true = refl
swapped_alone true false = refl
swapped_alone false true = refl
swapped_alone false false = refl

first_only : (rule : Rule) (m n : ℕ) (b : Bool) → ((is_inside rule m n && (b && true)) || false) ≡ (b && is_inside rule (m + 0) (n + 0))
first_only rule m n b =
    let e : m + 0 ≡ m = omega arith in
    let f : n + 0 ≡ n = omega arith in
    rw (e, f) (swapped_alone (is_inside rule m n) b)

second_only : (a b : Bool) → ((a && (true && false)) || b) ≡ b
second_only true b = refl
second_only false b = refl

range_holds : (inside : Bool) (first end k : ℕ) → is_in_any (range_if inside first end) k ≡ (inside && (nat_le first k && nat_lt k end))
range_holds false first end k = refl
range_holds true first end k =
    elim (cases_Bool (nat_lt first end)) [
      | inl e ↦ rw e (alone (nat_le first k && nat_lt k end))
      | inr e ↦ (let f : (nat_le first k && nat_lt k end) ≡ false = grind arith in rw (e, f) refl)
    ]

-- a count of one more
counted : (p : Crossing → Bool) (c : Crossing) (cs : List Crossing) → count_by p (c ∷ cs) ≡ one (p c) + count_by p cs
counted p c cs = sym (count_is p (c ∷ cs)) ∙ ap (λ (n : ℕ). one (p c) + n) (count_is p cs)

module _ (k : ℕ) where
  -- before the first of ordered crossings none is passed
  none_yet : (p : Crossing → Bool) (first : ℕ) (cs : List Crossing) → AreOrdered first cs → k < first → count_by (λ c. p c && nat_le c.column k) cs ≡ 0
  none_yet p first [] h l = refl
  none_yet p first (c ∷ cs) h l =
      let e : nat_le c.column k ≡ false = grind (arith, h.0) in
      let more = none_yet p c.column cs h.1 (omega (arith, l, h.0)) in
      counted (λ d. p d && nat_le d.column k) c cs ∙ rw (e, more) (nothing (p c))

  passed : (p : Crossing → Bool) (c : Crossing) (cs : List Crossing) → c.column ≤ k
      → count_by (λ d. p d && nat_le d.column k) (c ∷ cs) ≡ one_if (p c) + count_by (λ d. p d && nat_le d.column k) cs
  passed p c cs l =
      let e : nat_le c.column k ≡ true = grind (arith, l) in
      counted (λ d. p d && nat_le d.column k) c cs ∙ ap (λ (n : ℕ). n + count_by (λ d. p d && nat_le d.column k) cs) (rw e (whole (p c)))

module _ (rule : Rule) (columns : ℕ) where
  pub ranges_are : (cs : List Crossing) (upward downward first k : ℕ) → AreOrdered first cs → k < columns
      → is_in_any (ranges_after rule columns upward downward first cs) k
      ≡ (nat_le first k && is_inside rule (upward + upward_until k cs) (downward + downward_until k cs))
  ranges_are [] upward downward first k h l =
      let inside = is_inside rule upward downward in
      let t : nat_lt k columns ≡ true = grind (arith, l) in
      let u : upward + 0 ≡ upward = omega arith in
      let d : downward + 0 ≡ downward = omega arith in
      range_holds inside first columns k ∙ rw (t, u, d) (swapped inside (nat_le first k))
  ranges_are (c ∷ cs) upward downward first k h l =
      let inside = is_inside rule upward downward in
      let rest = ranges_after rule columns (upward + one_if c.is_upward) (downward + one_if (not c.is_upward)) c.column cs in
      let split = list_any-append (λ (range : ColumnRange). is_in range k) (range_if inside first c.column) rest in
      let here = range_holds inside first c.column k in
      let more = ranges_are cs (upward + one_if c.is_upward) (downward + one_if (not c.is_upward)) c.column k h.1 l in
      elim (cases_lt k c.column) [
        | inl b ↦ (
            let t : nat_lt k c.column ≡ true = grind (arith, b) in
            let f : nat_le c.column k ≡ false = grind (arith, b) in
            let u = none_yet k (λ d. d.is_upward) c.column (c ∷ cs) (omega arith, h.1) b in
            let d = none_yet k (λ d. not d.is_upward) c.column (c ∷ cs) (omega arith, h.1) b in
            split
            ∙ ap₂ (λ (a b : Bool). a || b) here more
            ∙ rw (t, f) (first_only rule upward downward (nat_le first k))
            ∙ sym (ap₂ (λ (m n : ℕ). nat_le first k && is_inside rule (upward + m) (downward + n)) u d)
            )
        | inr b ↦ (
            let t : nat_lt k c.column ≡ false = grind (arith, b) in
            let f : nat_le c.column k ≡ true = grind (arith, b) in
            let g : nat_le first k ≡ true = grind (arith, b, h.0) in
            let u = passed k (λ d. d.is_upward) c cs b in
            let d = passed k (λ d. not d.is_upward) c cs b in
            let ups = upward + one_if c.is_upward in
            let downs = downward + one_if (not c.is_upward) in
            let v : ups + upward_until k cs ≡ upward + upward_until k (c ∷ cs) = omega (arith, u) in
            let w : downs + downward_until k cs ≡ downward + downward_until k (c ∷ cs) = omega (arith, d) in
            split
            ∙ ap₂ (λ (a b : Bool). a || b) here more
            ∙ rw (t, f, g) (second_only inside (is_inside rule (ups + upward_until k cs) (downs + downward_until k cs)))
            ∙ ap₂ (is_inside rule) v w
            ∙ sym (ap (λ (b : Bool). b && is_inside rule (upward + upward_until k (c ∷ cs)) (downward + downward_until k (c ∷ cs))) g)
            )
      ]

  -- all ranges, from column 0 on
  pub ranges_all : (cs : List Crossing) (k : ℕ) → AreOrdered 0 cs → k < columns → is_in_any (ranges_after rule columns 0 0 0 cs) k ≡ is_inside_at rule cs k
  ranges_all cs k h l =
      let z : nat_le 0 k ≡ true = grind arith in
      let u : 0 + upward_until k cs ≡ upward_until k cs = omega arith in
      let d : 0 + downward_until k cs ≡ downward_until k cs = omega arith in
      ranges_are cs 0 0 0 k h l ∙ rw z (ap₂ (is_inside rule) u d)

  -- the last range was written after those of all crossings
  pub ranges_done : (cs : List Crossing) (i upward downward first : ℕ) (inside : Bool) (before after : List ColumnRange) → length cs ≤ i
      → before ++ ranges_after rule columns upward downward first (drop i cs) ≡ ranges_after rule columns 0 0 0 cs
      → inside ≡ is_inside rule upward downward → after ≡ before ++ range_if inside first columns → after ≡ ranges_after rule columns 0 0 0 cs
  ranges_done cs i upward downward first inside before after all h is added =
      let none = drop_all i cs all in
      let g = rw none at h in
      let f = rw is at added in
      f ∙ g

  range_in : (inside : Bool) (first end : ℕ) → end ≤ columns → All (IsRange columns) (range_if inside first end)
  range_in false first end h = All-nil (IsRange columns)
  range_in true first end h =
      elim (cases_Bool (nat_lt first end)) [
        | inl e ↦ rw e (All-cons (IsRange columns) (record { first = first; end = end }) [] (record { some = grind (arith, e); within = h }) (All-nil (IsRange columns)))
        | inr e ↦ rw e (All-nil (IsRange columns))
      ]

  pub ranges_in : (cs : List Crossing) (upward downward first : ℕ) → All (λ c. c.column ≤ columns) cs
      → All (IsRange columns) (ranges_after rule columns upward downward first cs)
  ranges_in [] upward downward first h = range_in (is_inside rule upward downward) first columns (omega arith)
  ranges_in (c ∷ cs) upward downward first h =
      All-append (IsRange columns) (range_if (is_inside rule upward downward) first c.column)
      (ranges_after rule columns (upward + one_if c.is_upward) (downward + one_if (not c.is_upward)) c.column cs)
      (range_in (is_inside rule upward downward) first c.column (All-head (λ (d : Crossing). d.column ≤ columns) c cs h))
      (ranges_in cs (upward + one_if c.is_upward) (downward + one_if (not c.is_upward)) c.column (All-tail (λ (d : Crossing). d.column ≤ columns) c cs h))

-- neighbours in the order of their columns
pub ordered_from : (cs : List Crossing) (first : ℕ) → ((d : Crossing) → 0 < length cs → first ≤ (get_or cs 0 d).column)
    → ((k : ℕ) (d : Crossing) → 0 ≤ k → k + 1 < length cs → is_lt (nat_cmp (get_or cs (k + 1) d).column (get_or cs k d).column) ≡ false)
    → AreOrdered first cs
ordered_from [] first h s = tt
ordered_from (c ∷ cs) first h s = (
  h c (omega arith),
  ordered_from cs c.column
      (λ d l. ge_from_not_lt (get_or cs 0 d).column c.column (s 0 d (omega arith) (omega (arith, l))))
      (λ n d z l. let e : suc n + 1 ≡ suc (n + 1) = omega arith in let f = s (suc n) d (omega arith) (omega (arith, l)) in rw e at f),
)
