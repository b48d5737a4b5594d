-- The spans of a line, one crossing after another.
use Rattle.std.proofs.Common.{◌≡◌, ℕ, zero, suc, ◌+◌, ◌<◌, Bool, true, false, cond, not, List, [], ◌∷◌, ◌++◌, map, take, drop, length, get_or, count_by, inl, inr, refl, sym, ap, ◌∙◌, arith, append_assoc}
use mir.Val.{bool_byte}
use Rattle.std.proofs.lemmas.Bool.{cases_Bool}
use Rattle.std.proofs.lemmas.List.{take_more, drop_more, get_or-drop, length-drop, length-map}
use Rattle.std.proofs.lemmas.List.Sums.{count_by_more_yes, count_by_more_no}
use Rattle.polygons.specs.declared.climb.Crossing as code
use Rattle.polygons.specs.declared.span.Span.{Span}
use Rattle.polygons.specs.declared.lines.Rule.{Rule}
use Rattle.polygons.specs.Climbs.{bare}
use Rattle.polygons.specs.Fills.{Crossing, is_inside_after, spans_after}

pub gap_step : (rule : Rule) (all : List Crossing) (k : ℕ) (a b : Crossing) → k + 1 < length all → a ≡ get_or all k a → b ≡ get_or all (k + 1) b
    → spans_after rule (take k all) (drop k all)
    ≡ cond (is_inside_after rule (take (k + 1) all)) (record { from = a.place; to = b.place } ∷ []) [] ++ spans_after rule (take (k + 1) all) (drop (k + 1) all)
gap_step rule all k a b l ea eb =
    let d1 : drop k all ≡ a ∷ drop (k + 1) all = drop_more all k a (omega (arith, l)) ∙ ap (λ x. x ∷ drop (k + 1) all) (sym ea) in
    let d2 : drop (k + 1) all ≡ b ∷ drop (k + 1 + 1) all = drop_more all (k + 1) b l ∙ ap (λ x. x ∷ drop (k + 1 + 1) all) (sym eb) in
    let t1 : take (k + 1) all ≡ take k all ++ (a ∷ []) = take_more all k a (omega (arith, l)) ∙ ap (λ x. take k all ++ (x ∷ [])) (sym ea) in
    rw (d1, t1, d2) refl

count_more : (p : Crossing → Bool) (all : List Crossing) (k : ℕ) (a : Crossing) → k < length all → a ≡ get_or all k a
    → count_by p (take (k + 1) all) ≡ count_by p (take k all) + cond (p a) 1 0
count_more p all k a l e =
    elim (cases_Bool (p a)) [
      | inl f ↦ (let g : p (get_or all k a) ≡ true = ap p (sym e) ∙ f in rw f (count_by_more_yes p all k a l g))
      | inr f ↦ (let g : p (get_or all k a) ≡ false = ap p (sym e) ∙ f in let m = count_by_more_no p all k a l g in rw f (omega (arith, m)))
    ]

byte_is : (b : Bool) → bool_byte b ≡ cond b 1 0
byte_is true = refl
byte_is false = refl

pub get_or_map : {X Y : Type 0} (f : X → Y) (xs : List X) (k : ℕ) (d : X) → get_or (map f xs) k (f d) ≡ f (get_or xs k d)
get_or_map f [] k d = refl
get_or_map f (x ∷ xs) zero d = refl
get_or_map f (x ∷ xs) (suc k) d = get_or_map f xs k d

-- one more crossing, as code goes on to it
module _ (rule : Rule) (cs : List code.Crossing) (k : ℕ) (last item : code.Crossing) (l : k < length (drop 1 cs)) (item_is : item ≡ get_or (drop 1 cs) k item)
    (last_is : bare last ≡ get_or (map bare cs) k (bare last)) where
  abbrev all : List Crossing
  all = map bare cs

  pub more_in : k + 1 < length cs
  more_in = omega (arith, l, length-drop 1 cs)

  all_in : k + 1 < length all
  all_in = omega (arith, more_in, length-map cs bare)

  pub next_is : bare item ≡ get_or (map bare cs) (k + 1) (bare item)
  next_is =
      let e : 1 + k ≡ k + 1 = omega arith in
      let f = get_or-drop 1 cs k item in
      let g = item_is ∙ f ∙ ap (λ n. get_or cs n item) e in
      ap bare g ∙ sym (get_or_map bare cs (k + 1) item)

  pub upward_more : (n d : ℕ) → n ≡ count_by (λ c. c.is_upward) (take k (map bare cs)) → d ≡ bool_byte last.is_upward
      → n + d ≡ count_by (λ c. c.is_upward) (take (k + 1) (map bare cs))
  upward_more n d e f =
      let m = count_more (λ c. c.is_upward) all k (bare last) (omega (arith, all_in)) last_is in
      let g = f ∙ byte_is last.is_upward in
      omega (arith, m, e, g)

  pub others_more : (n d : ℕ) → n ≡ count_by (λ c. not c.is_upward) (take k (map bare cs)) → d ≡ bool_byte (not last.is_upward)
      → n + d ≡ count_by (λ c. not c.is_upward) (take (k + 1) (map bare cs))
  others_more n d e f =
      let m = count_more (λ c. not c.is_upward) all k (bare last) (omega (arith, all_in)) last_is in
      let g = f ∙ byte_is (not last.is_upward) in
      omega (arith, m, e, g)

  step_is : (inside : Bool) → inside ≡ is_inside_after rule (take (k + 1) (map bare cs))
      → spans_after rule (take k (map bare cs)) (drop k (map bare cs))
      ≡ cond inside (record { from = last.place; to = item.place } ∷ []) [] ++ spans_after rule (take (k + 1) (map bare cs)) (drop (k + 1) (map bare cs))
  step_is inside e = rw e (gap_step rule all k (bare last) (bare item) all_in last_is next_is)

  pub span_more : (xs found : List Span) → xs ++ spans_after rule (take k (map bare cs)) (drop k (map bare cs)) ≡ found
      → true ≡ is_inside_after rule (take (k + 1) (map bare cs))
      → (xs ++ (record { from = last.place; to = item.place } ∷ [])) ++ spans_after rule (take (k + 1) (map bare cs)) (drop (k + 1) (map bare cs)) ≡ found
  span_more xs found h e =
      append_assoc xs (record { from = last.place; to = item.place } ∷ []) (spans_after rule (take (k + 1) (map bare cs)) (drop (k + 1) (map bare cs)))
      ∙ ap (λ ys. xs ++ ys) (sym (step_is true e))
      ∙ h

  pub span_none : (xs found : List Span) → xs ++ spans_after rule (take k (map bare cs)) (drop k (map bare cs)) ≡ found
      → false ≡ is_inside_after rule (take (k + 1) (map bare cs))
      → xs ++ spans_after rule (take (k + 1) (map bare cs)) (drop (k + 1) (map bare cs)) ≡ found
  span_none xs found h e = ap (λ ys. xs ++ ys) (sym (step_is false e)) ∙ h
