-- The dashes of a line stay in every box that both its ends are in.
use Rattle.std.proofs.Common.{ℕ, ◌+◌, ◌-◌, ◌/◌, ◌<◌, ◌≤◌, arith, ℤ, ◌+ℤ◌, ◌-ℤ◌, ◌≤ℤ◌, List, [], ◌∷◌, inl, inr, max, min, nat_eq, sum, length, Option}
use Rattle.std.proofs.lemmas.Int.{ints}
use Rattle.std.proofs.lemmas.Bool.{lt-ltb, le-ltb, cases_lt, cases_Bool}
use Rattle.std.proofs.lemmas.Bool.Decides.{nat_tests}
use Rattle.std.proofs.lemmas.List.Elements.{All-nil, All-cons, All-append}
use Rattle.std.specs.List.{All, flat_map, range_with_len}
use Rattle.std.specs.Prelude.{nat_lt, nat_le, ◌&&◌, slice_index_or, if◌then◌else◌}
use Rattle.exact.specs.declared.spot.Spot.{Spot}
use Rattle.line_types.specs.declared.run.Run.{Run}
use Rattle.line_types.specs.Lines.{long_of, share_of_line, spot_at}
use Rattle.line_types.specs.Patterns.{drawn_gaps, start_of}
use Rattle.line_types.specs.Dashes.{Stretch, dot_at, part, dash, dashes_along, fixed_distance, repetitions, adaptive_distance}
use Rattle.line_types.specs.LineTypes.{LineShape, Solid, EndDot, Fixed, Adaptive, phase_at, dashes_of}
use Rattle.line_types.specs.Laws.{IsInBox, IsDashInBox}
use Rattle.line_types.proofs.Shares.{share_in}

-- a place on the way from a to b
between : (least a b most : ℤ) (t long : ℕ) → 0 < long → t ≤ long → least ≤ℤ a → a ≤ℤ most → least ≤ℤ b → b ≤ℤ most
    → (least ≤ℤ (a +ℤ share_of_line (b -ℤ a) t long)) × ((a +ℤ share_of_line (b -ℤ a) t long) ≤ℤ most)
between least a b most t long h k p q r s =
    let e = share_in (least -ℤ a) (b -ℤ a) (most -ℤ a) t long h k (omega (arith, ints)) (omega (arith, ints)) (omega (arith, ints)) (omega (arith, ints)) in
    (omega (arith, ints, e.0), omega (arith, ints, e.1))

all_flat : {X A : Type 0} (P : A → Type 0) (f : X → List A) → ((x : X) → All P (f x)) → (xs : List X) → All P (flat_map f xs)
all_flat P f h [] = All-nil P
all_flat P f h (x ∷ xs) = All-append P (f x) (flat_map f xs) (h x) (all_flat P f h xs)

module _ (low high a b : Spot) (from : IsInBox low high a) (to : IsInBox low high b) where
  abbrev Stays : List (Spot × Spot) → Type 0
  Stays ds = All (IsDashInBox low high) ds

  spot_in : (t long : ℕ) → 0 < long → t ≤ long → IsInBox low high (spot_at a b long t)
  spot_in t long h k =
      let x = between low.x a.x b.x high.x t long h k from.left from.right to.left to.right in
      let y = between low.y a.y b.y high.y t long h k from.below from.above to.below to.above in
      record { left = x.0; right = x.1; below = y.0; above = y.1 }

  one : (p q : Spot) → IsInBox low high p → IsInBox low high q → Stays ((p, q) ∷ [])
  one p q h k = All-cons (IsDashInBox low high) (p, q) [] (h, k) (All-nil (IsDashInBox low high))

  module _ (long start : ℕ) where
    abbrev line : Stretch
    line = record { from = a; to = b; long = long; start = start }

    dot_in : (s : ℕ) → Stays (dot_at line s)
    dot_in s = elim (cases_Bool (nat_le start s && nat_lt s (start + long))) [
      | inl t ↦ rw t (let p = spot_in (s - start) long (grind (arith, nat_tests)) (grind (arith, nat_tests)) in one _ _ p p)
      | inr t ↦ rw t (All-nil (IsDashInBox low high))
    ]

    part_in : (s e : ℕ) → start ≤ s → e ≤ start + long → Stays (part line s e)
    part_in s e h k = elim (cases_lt s e) [
      | inl t ↦ rw (lt-ltb s e t) (one _ _ (spot_in (s - start) long (omega arith) (omega arith)) (spot_in (e - start) long (omega arith) (omega arith)))
      | inr t ↦ rw (le-ltb s e t) (All-nil (IsDashInBox low high))
    ]

    dash_in : (s e : ℕ) → Stays (dash line s e)
    dash_in s e = elim (cases_Bool (nat_eq s e)) [
      | inl t ↦ rw t (dot_in s)
      | inr t ↦ rw t (part_in (max s start) (min e (start + long)) (omega arith) (omega arith))
    ]

    along_in : (distance : ℕ → ℕ → ℕ) (gaps : List ℕ) (n : ℕ) → Stays (dashes_along distance gaps line n)
    along_in distance gaps n =
        all_flat (IsDashInBox low high) _ (λ (r : ℕ). all_flat (IsDashInBox low high) _
        (λ (j : ℕ). dash_in (distance r (start_of gaps j)) (distance r (start_of gaps (j + 1)))) (drawn_gaps (length gaps))) (range_with_len 0 n)

  dot_of : (first : ℕ) → Stays (if nat_eq first 0 then (b, b) ∷ [] else [])
  dot_of first = elim (cases_Bool (nat_eq first 0)) [
    | inl t ↦ rw t (one b b to to)
    | inr t ↦ rw t (All-nil (IsDashInBox low high))
  ]

  whole_or_in : (dashes : List (Spot × Spot)) → Stays dashes → Stays (if nat_eq (long_of a b) 0 then (a, b) ∷ [] else dashes)
  whole_or_in dashes h = elim (cases_Bool (nat_eq (long_of a b) 0)) [
    | inl t ↦ rw t (one a b from to)
    | inr t ↦ rw t h
  ]

pub dashes_in : (shape : LineShape) (run : Option Run) (low high a b : Spot) → IsInBox low high a → IsInBox low high b → All (IsDashInBox low high) (dashes_of shape run a b)
dashes_in Solid run low high a b h k = one low high a b h k a b h k
dashes_in EndDot run low high a b h k = one low high a b h k b b k k
dashes_in (Fixed gaps ticks) run low high a b h k =
    whole_or_in low high a b h k _ (along_in low high a b h k (long_of a b) (phase_at run a ticks) (fixed_distance ticks (sum gaps)) gaps ((long_of a b + phase_at run a ticks) / ticks + 1))
dashes_in (Adaptive gaps ticks) run low high a b h k =
    let n = repetitions ticks (long_of a b) in
    whole_or_in low high a b h k _ (All-append (IsDashInBox low high) _ _
    (along_in low high a b h k (long_of a b) 0 (adaptive_distance (long_of a b) n (sum gaps)) gaps n) (dot_of low high a b h k (slice_index_or gaps 0 1)))
