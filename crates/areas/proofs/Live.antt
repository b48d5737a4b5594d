-- Edges that wait, and edges that the rows have come to: which are passed, which come next, and which are left behind.
use Rattle.std.proofs.Common.{◌≡◌, ℕ, ◌+◌, ◌<◌, Bool, true, false, not, ◌&&◌, List, [], ◌∷◌, ◌++◌, filter, take, drop, set, length, count_by, refl, ap, ◌∙◌, arith, ℤ, pos, ◌-ℤ◌, ◌*ℤ◌, ◌≤ℤ◌, ◌<ℤ◌, int_le, int_lt, Some}
use Rattle.std.specs.List.{All}
use Rattle.std.proofs.lemmas.Int.{ints}
use Rattle.std.proofs.lemmas.List.{drop-set, get_or-take, length-take, take-set, take_more}
use Rattle.std.proofs.lemmas.List.Elements.{All-cons, All-head, All-pop, All-tail}
use Rattle.plot_page.specs.Segments.{Segment}
use Rattle.polygons.proofs.SolidLaws.{one, count_is}
use Rattle.polygons.proofs.Tests.{le_false, le_not, lt_false}
use Rattle.areas.specs.declared.swept_edge.SweptEdge.{SweptEdge}
use Rattle.areas.specs.Sweeps.{AreBelow, AreRising, AreSwept, IsFrom, IsInRow, IsWaiting, edge_at, is_past, is_past_down, is_past_up, reaches_down}
use Rattle.areas.proofs.Counts.{count_append}
use Rattle.areas.proofs.Passes.{fails, fails_second}

never : (b : Bool) → (b && false) ≡ false
never true = refl
never false = refl

-- what nobody passes does not count
module _ {X : Type 0} (p q : X → Bool) (only : (x : X) → q x ≡ false → p x ≡ false) where
  step : (x : X) (xs : List X) (b : Bool) → q x ≡ b → count_by p (filter q xs) ≡ count_by p xs → count_by p (filter q (x ∷ xs)) ≡ count_by p (x ∷ xs)
  step x xs true e h =
      let a = count_append p (x ∷ []) (filter q xs) in
      let b = count_append p (x ∷ []) xs in
      rw e (omega (arith, a, b, h))
  step x xs false e h =
      let b = count_append p (x ∷ []) xs in
      let d = count_is p (x ∷ []) in
      let f = ap one (only x e) in
      rw e (omega (arith, b, d, f, h))

  pub count_filtered : (xs : List X) → count_by p (filter q xs) ≡ count_by p xs
  count_filtered [] = refl
  count_filtered (x ∷ xs) = step x xs (q x) refl (count_filtered xs)

pub count_none : {X : Type 0} (p : X → Bool) (P : X → Type 0) → ((x : X) → P x → p x ≡ false) → (xs : List X) → All P xs → count_by p xs ≡ 0
count_none p P none [] h = refl
count_none p P none (x ∷ xs) h =
    let a = count_append p (x ∷ []) xs in
    let d = count_is p (x ∷ []) in
    let f = ap one (none x (All-head P x xs h)) in
    let rest = count_none p P none xs (All-tail P x xs h) in
    omega (arith, a, d, f, rest)

-- a row passes no edge that ends below it, and none that begins above it
module _ (r : ℕ) (n : SweptEdge) (x z : ℤ) where
  abbrev begins : Bool
  begins = int_le (pos r *ℤ n.ay) z

  abbrev goes_on : Bool
  goes_on = int_lt z (pos r *ℤ n.by)

  abbrev right : Bool
  right = int_le ((n.bx -ℤ n.ax) *ℤ (z -ℤ pos r *ℤ n.ay)) ((x -ℤ pos r *ℤ n.ax) *ℤ (n.by -ℤ n.ay))

  passed_over : is_past r n x z ≡ false → (is_past_up r n x z ≡ false) × (is_past_down r n x z ≡ false)
  passed_over e = (
    ap (λ (b : Bool). n.is_upward && b) e ∙ never n.is_upward,
    ap (λ (b : Bool). not n.is_upward && b) e ∙ never (not n.is_upward),
  )

  pub under : (pos r *ℤ n.by) ≤ℤ z → (is_past_up r n x z ≡ false) × (is_past_down r n x z ≡ false)
  under l = passed_over (fails_second begins goes_on right (lt_false z (pos r *ℤ n.by) l))

  pub over : z <ℤ (pos r *ℤ n.ay) → (is_past_up r n x z ≡ false) × (is_past_down r n x z ≡ false)
  over l = passed_over (fails begins goes_on right (le_false (pos r *ℤ n.ay) z l))

pub none_rises : (r : ℕ) (y : ℤ) (waiting : List SweptEdge) → AreBelow r y waiting → (x : ℤ) → count_by (λ n. is_past_up r n x y) waiting ≡ 0
none_rises r y waiting h x = count_none (λ n. is_past_up r n x y) (λ n. (pos r *ℤ n.by) ≤ℤ y) (λ n l. (under r n x y l).0) waiting h

pub none_falls : (r : ℕ) (y : ℤ) (waiting : List SweptEdge) → AreBelow r y waiting → (x : ℤ) → count_by (λ n. is_past_down r n x y) waiting ≡ 0
none_falls r y waiting h x = count_none (λ n. is_past_down r n x y) (λ n. (pos r *ℤ n.by) ≤ℤ y) (λ n l. (under r n x y l).1) waiting h

-- edges that rows from a height down pass, without those that begin above it
module _ (r : ℕ) (low x z : ℤ) (l : z ≤ℤ low) where
  pub rises_left : (live : List SweptEdge) → count_by (λ n. is_past_up r n x z) (filter (reaches_down r low) live) ≡ count_by (λ n. is_past_up r n x z) live
  rises_left live = count_filtered (λ n. is_past_up r n x z) (reaches_down r low)
      (λ n e. let m = le_not (pos r *ℤ n.ay) low e in (over r n x z (omega (arith, ints, l, m))).0) live

  pub falls_left : (live : List SweptEdge) → count_by (λ n. is_past_down r n x z) (filter (reaches_down r low) live) ≡ count_by (λ n. is_past_down r n x z) live
  falls_left live = count_filtered (λ n. is_past_down r n x z) (reaches_down r low)
      (λ n e. let m = le_not (pos r *ℤ n.ay) low e in (over r n x z (omega (arith, ints, l, m))).1) live

-- the highest edge that waits comes to the others
module _ (r : ℕ) (y : ℤ) (n m : SweptEdge) (from : IsFrom r y n.ax n.ay n.bx n.by n.is_upward m) where
  same_rise : (x z : ℤ) → is_past_up r m x z ≡ is_past_up r n x z
  same_rise x z = rw (from.ax, from.ay, from.bx, from.by, from.direction) refl

  same_fall : (x z : ℤ) → is_past_down r m x z ≡ is_past_down r n x z
  same_fall x z = rw (from.ax, from.ay, from.bx, from.by, from.direction) refl

over_to : (p : SweptEdge → Bool) (waiting live : List SweptEdge) (n m : SweptEdge) (total : ℕ) → p m ≡ p n
    → count_by p (waiting ++ n ∷ []) + count_by p live ≡ total → count_by p waiting + count_by p (m ∷ live) ≡ total
over_to p waiting live n m total e h =
    let a = count_append p waiting (n ∷ []) in
    let b = count_append p (m ∷ []) live in
    let c = count_is p (n ∷ []) in
    let d = count_is p (m ∷ []) in
    let f = ap one e in
    omega (arith, a, b, c, d, f, h)

pub rising_before : (near : List SweptEdge) (i : ℕ) → i < length near → AreRising (take (i + 1) near) → AreRising (take i near)
rising_before near i l h j k order within =
    let short = length-take i near in
    let long = length-take (i + 1) near in
    let a = get_or-take i near j (edge_at [] 0) (omega (arith, order, within, short)) in
    let b = get_or-take i near k (edge_at [] 0) (omega (arith, within, short)) in
    let c = get_or-take (i + 1) near j (edge_at [] 0) (omega (arith, order, within, short)) in
    let d = get_or-take (i + 1) near k (edge_at [] 0) (omega (arith, within, short)) in
    let e = h j k order (omega (arith, within, short, long, l)) in
    rw (a, b) (rw (c, d) at e)

pub came : (r : ℕ) (edges : List Segment) (low y : ℤ) (near : List SweptEdge) (i : ℕ) (m : SweptEdge) → i < length near
    → IsFrom r y (edge_at near i).ax (edge_at near i).ay (edge_at near i).bx (edge_at near i).by (edge_at near i).is_upward m
    → AreSwept r edges low y (take (i + 1) near) (drop (i + 1) near) → AreSwept r edges low y (take i (set near i m)) (drop i (set near i m))
came r edges low y near i m l from h =
    let n = edge_at near i in
    let more : take (i + 1) near ≡ take i near ++ n ∷ [] = take_more near i (edge_at [] 0) l in
    let waits = (All-pop IsWaiting (take (i + 1) near) (take i near) (Some n) more h.waits).0 in
    let rises = rw more at h.rises in
    let falls = rw more at h.falls in
    rw (take-set near i m, drop-set near i m l) (record {
      waits = waits;
      ordered = rising_before near i l h.ordered;
      in_row = All-cons (IsInRow r y) m (drop (i + 1) near) from.in_row h.in_row;
      rises = λ x z a b. over_to (λ n. is_past_up r n x z) (take i near) (drop (i + 1) near) n m _ (same_rise r y n m from x z) (rises x z a b);
      falls = λ x z a b. over_to (λ n. is_past_down r n x z) (take i near) (drop (i + 1) near) n m _ (same_fall r y n m from x z) (falls x z a b);
    })
