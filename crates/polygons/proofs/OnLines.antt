-- The edges that cross a line, by their numbers, and the climbs that are on it.
use Rattle.std.proofs.Common.{◌≡◌, ℕ, suc, ◌<◌, Bool, true, false, cond, ◌&&◌, List, [], ◌∷◌, ◌++◌, map, take, drop, length, get_or, inl, inr, refl, sym, subst, ap, ap₂, ◌∙◌, arith, append_assoc, ℤ, int_le, int_lt, ◌≤ℤ◌, ◌<ℤ◌}
use Rattle.std.proofs.lemmas.Bool.{cases_Bool, and_parts, and_left}
use Rattle.std.proofs.lemmas.Int.{ints}
use Rattle.std.proofs.lemmas.List.{map-append, take-append-drop, get_or_at, length-append, length-map, nil_from_length, append-nil}
use Rattle.std.proofs.lemmas.List.Elements.{filter-append, All-nil, All-cons, All-head, All-tail, All-weaker}
use Rattle.std.specs.List.{filter, list_any, All}
use Rattle.polygons.specs.declared.edge.Edge.{Edge}
use Rattle.polygons.specs.declared.lines.Lines.{Lines}
use Rattle.polygons.specs.declared.climb.Climb.{Climb}
use Rattle.polygons.specs.Fills.{bottom, top, line_distance, line_from, crosses, crossing, crossings}
use Rattle.polygons.specs.Climbs.{climb_of, climbs_of, nowhere, crossing_at, bare, total, SameItems}
use Rattle.polygons.proofs.Tests.{le_true, le_false, lt_true, le_from, lt_from}
use Rattle.polygons.proofs.Floors.{test_from, test_below}
use Rattle.polygons.proofs.Totals.{same_filter, same_map, same_length}

pub filter_same : {X : Type 0} (p q : X → Bool) (xs : List X) → All (λ x. p x ≡ q x) xs → filter p xs ≡ filter q xs
filter_same p q [] h = refl
filter_same p q (x ∷ xs) h =
    let e = All-head (λ y. p y ≡ q y) x xs h in
    let more = filter_same p q xs (All-tail (λ y. p y ≡ q y) x xs h) in
    elim (cases_Bool (q x)) [
      | inl f ↦ (let g : p x ≡ true = e ∙ f in rw (g, f) (ap (λ ys. x ∷ ys) more))
      | inr f ↦ (let g : p x ≡ false = e ∙ f in rw (g, f) more)
    ]

pub filter_none : {X : Type 0} (p : X → Bool) (xs : List X) → All (λ x. p x ≡ false) xs → filter p xs ≡ []
filter_none p [] h = refl
filter_none p (x ∷ xs) h =
    let e = All-head (λ y. p y ≡ false) x xs h in
    rw e (filter_none p xs (All-tail (λ y. p y ≡ false) x xs h))

-- what is left out fails the test
pub none_from_filter : {X : Type 0} (p : X → Bool) (xs : List X) → filter p xs ≡ [] → All (λ x. p x ≡ false) xs
none_from_filter p [] e = λ k d l. absurd (omega (arith, l))
none_from_filter p (x ∷ xs) e =
    elim (cases_Bool (p x)) [
      | inl f ↦ (let g = rw f at e in absurd (cc))
      | inr f ↦ (let g = rw f at e in All-cons (λ y. p y ≡ false) x xs f (none_from_filter p xs g))
    ]

-- the numbers of the edges that cross line k, from n on
abbrev pub numbers_on : Lines → ℤ → ℕ → List Edge → List ℕ
numbers_on lines k n [] = []
numbers_on lines k n (e ∷ es) = cond (crosses lines k e) (n ∷ numbers_on lines k (suc n) es) (numbers_on lines k (suc n) es)

abbrev pub is_on : ℤ → Climb → Bool
is_on k c = int_le c.first k && int_lt k c.end

abbrev pub number_of : Climb → ℕ
number_of c = c.number

crosses_is : (lines : Lines) (k : ℤ) (e : Edge) → 0 < line_distance lines
    → crosses lines k e ≡ (int_le (line_from lines (bottom lines e)) k && int_lt k (line_from lines (top lines e)))
crosses_is lines k e h = ap₂ (λ (x y : Bool). x && y) (sym (test_from lines (bottom lines e) k h)) (sym (test_below lines (top lines e) k h))

between : (first end k : ℤ) → int_le first k ≡ true → int_lt k end ≡ true → int_lt first end ≡ true
between first end k p q =
    let a = le_from first k p in
    let b = lt_from k end q in
    lt_true first end (omega (arith, ints, a, b))

-- the climb of an edge that is on line k
piece_by : (first end k : ℤ) (n : ℕ) (b : Bool) → b ≡ (int_le first k && int_lt k end)
    → map number_of (filter (is_on k) (cond (int_lt first end) (record { first = first; end = end; number = n } ∷ []) [])) ≡ cond b (n ∷ []) []
piece_by first end k n true e =
    let p = and_parts (int_le first k) (int_lt k end) (sym e) in
    let q = between first end k p.0 p.1 in
    let f = sym e in
    rw (q, f) refl
piece_by first end k n false e =
    let f = sym e in
    elim (cases_Bool (int_lt first end)) [
      | inl q ↦ rw (q, f) refl
      | inr q ↦ rw q refl
    ]

piece : (lines : Lines) (k : ℤ) (n : ℕ) (e : Edge) → 0 < line_distance lines → map number_of (filter (is_on k) (climb_of lines n e)) ≡ cond (crosses lines k e) (n ∷ []) []
piece lines k n e h = piece_by (line_from lines (bottom lines e)) (line_from lines (top lines e)) k n (crosses lines k e) (crosses_is lines k e h)

cond_append : (b : Bool) (n : ℕ) (ns : List ℕ) → cond b (n ∷ []) [] ++ ns ≡ cond b (n ∷ ns) ns
cond_append true n ns = refl
cond_append false n ns = refl

pub climbs_on : (lines : Lines) (k : ℤ) (n : ℕ) (es : List Edge) → 0 < line_distance lines → map number_of (filter (is_on k) (climbs_of lines n es)) ≡ numbers_on lines k n es
climbs_on lines k n [] h = refl
climbs_on lines k n (e ∷ es) h =
    ap (map number_of) (filter-append (is_on k) (climb_of lines n e) (climbs_of lines (suc n) es))
    ∙ map-append number_of (filter (is_on k) (climb_of lines n e)) (filter (is_on k) (climbs_of lines (suc n) es))
    ∙ ap₂ (λ (xs ys : List ℕ). xs ++ ys) (piece lines k n e h) (climbs_on lines k (suc n) es h)
    ∙ cond_append (crosses lines k e) n (numbers_on lines k (suc n) es)

-- the crossings of line k are those of the edges of these numbers
pub crossings_are : (lines : Lines) (k : ℤ) (all before es : List Edge) (n : ℕ) → all ≡ before ++ es → length before ≡ n
    → map (λ i. bare (crossing_at lines k all i)) (numbers_on lines k n es) ≡ crossings lines k es
crossings_are lines k all before [] n e l = refl
crossings_are lines k all before (x ∷ es) n e l =
    let at : get_or all n nowhere ≡ x = rw e (get_or_at before x es nowhere n l) in
    let f : all ≡ (before ++ (x ∷ [])) ++ es = e ∙ sym (append_assoc before (x ∷ []) es) in
    let more = crossings_are lines k all (before ++ (x ∷ [])) es (suc n) f (omega (arith, length-append before (x ∷ []))) in
    elim (cases_Bool (crosses lines k x)) [
      | inl t ↦ rw t (ap₂ (λ c cs. c ∷ cs) (ap (crossing lines k) at) more)
      | inr t ↦ rw t more
    ]

-- whether an edge crosses line k
pub any_is : (lines : Lines) (k : ℤ) (n : ℕ) (es : List Edge) → numbers_on lines k n es ≡ [] → list_any (crosses lines k) es ≡ false
any_is lines k n [] e = refl
any_is lines k n (x ∷ es) e =
    elim (cases_Bool (crosses lines k x)) [
      | inl t ↦ (let g = rw t at e in absurd (cc))
      | inr t ↦ (let g = rw t at e in rw t (any_is lines k (suc n) es g))
    ]

pub any_some : (lines : Lines) (k : ℤ) (n : ℕ) (es : List Edge) → 0 < length (numbers_on lines k n es) → list_any (crosses lines k) es ≡ true
any_some lines k n [] l = absurd (omega (arith, l))
any_some lines k n (x ∷ es) l =
    elim (cases_Bool (crosses lines k x)) [
      | inl t ↦ rw t refl
      | inr t ↦ (let g = rw t at l in rw t (any_some lines k (suc n) es g))
    ]

-- climbs in another order
module _ (lines : Lines) (edges : List Edge) (climbs : List Climb) (same : SameItems (climbs_of lines 0 edges) climbs) (above : 0 < line_distance lines) where
  pub same_numbers : (k : ℤ) → SameItems (numbers_on lines k 0 edges) (map number_of (filter (is_on k) climbs))
  same_numbers k =
      let s = same_map number_of (filter (is_on k) (climbs_of lines 0 edges)) (filter (is_on k) climbs) (same_filter (is_on k) (climbs_of lines 0 edges) climbs same) in
      let P : List ℕ → Type 0 = λ ns. SameItems ns (map number_of (filter (is_on k) climbs)) in
      subst P (climbs_on lines k 0 edges above) s

  pub none_crosses : (k : ℤ) → All (λ c. is_on k c ≡ false) climbs → list_any (crosses lines k) edges ≡ false
  none_crosses k h =
      let e = filter_none (is_on k) climbs h in
      let l = same_length (numbers_on lines k 0 edges) (map number_of (filter (is_on k) climbs)) (same_numbers k) in
      let z : length (numbers_on lines k 0 edges) ≡ 0 = l ∙ ap (λ cs. length (map number_of cs)) e in
      any_is lines k 0 edges (nil_from_length (numbers_on lines k 0 edges) z)

  pub one_crosses : (k : ℤ) → 0 < length (filter (is_on k) climbs) → list_any (crosses lines k) edges ≡ true
  one_crosses k h =
      let l = same_length (numbers_on lines k 0 edges) (map number_of (filter (is_on k) climbs)) (same_numbers k) in
      any_some lines k 0 edges (omega (arith, l, h, length-map (filter (is_on k) climbs) number_of))

-- of climbs of which the first n have begun at line k and the others have not, those on it are the first that have not ended
pub active_on : (k : ℤ) (n : ℕ) (cs : List Climb) → All (λ c. c.first ≤ℤ k) (take n cs) → All (λ c. k <ℤ c.first) (drop n cs)
    → filter (λ c. int_lt k c.end) (take n cs) ≡ filter (is_on k) cs
active_on k n cs p q =
    let front = filter_same (λ c. int_lt k c.end) (is_on k) (take n cs)
    (All-weaker (λ c. c.first ≤ℤ k) (λ c. int_lt k c.end ≡ is_on k c) (λ c h. let t = le_true c.first k h in rw t refl) (take n cs) p) in
    let rest = filter_none (is_on k) (drop n cs)
    (All-weaker (λ c. k <ℤ c.first) (λ c. is_on k c ≡ false) (λ c h. and_left (int_le c.first k) (int_lt k c.end) (le_false c.first k h)) (drop n cs) q) in
    front
    ∙ sym (append-nil (filter (is_on k) (take n cs)))
    ∙ sym (ap (λ xs. filter (is_on k) (take n cs) ++ xs) rest)
    ∙ sym (filter-append (is_on k) (take n cs) (drop n cs))
    ∙ ap (filter (is_on k)) (take-append-drop n cs)

-- what passes a test in one of two lists with the same items does so in the other
none_missed : {X : Type 0} (p : X → Bool) (xs : List X) → All (λ x. p x ≡ true) xs → total (λ x. cond (p x) 0 1) xs ≡ 0
none_missed p [] h = refl
none_missed p (x ∷ xs) h =
    let e = All-head (λ y. p y ≡ true) x xs h in
    let more = none_missed p xs (All-tail (λ y. p y ≡ true) x xs h) in
    rw e (omega (arith, more))

all_met : {X : Type 0} (p : X → Bool) (xs : List X) → total (λ x. cond (p x) 0 1) xs ≡ 0 → All (λ x. p x ≡ true) xs
all_met p [] e = All-nil (λ y. p y ≡ true)
all_met p (x ∷ xs) e =
    elim (cases_Bool (p x)) [
      | inl f ↦ (let g = rw f at e in All-cons (λ y. p y ≡ true) x xs f (all_met p xs (omega (arith, g))))
      | inr f ↦ (let g = rw f at e in absurd (omega (arith, g)))
    ]

pub all_by_items : {X : Type 0} (p : X → Bool) (xs ys : List X) → SameItems xs ys → All (λ x. p x ≡ true) xs → All (λ x. p x ≡ true) ys
all_by_items p xs ys s h = all_met p ys (sym (s.sums (λ x. cond (p x) 0 1)) ∙ none_missed p xs h)

numbers_cross : (lines : Lines) (k : ℤ) (all before es : List Edge) (n : ℕ) → all ≡ before ++ es → length before ≡ n
    → All (λ i. crosses lines k (get_or all i nowhere) ≡ true) (numbers_on lines k n es)
numbers_cross lines k all before [] n e l = All-nil (λ i. crosses lines k (get_or all i nowhere) ≡ true)
numbers_cross lines k all before (x ∷ es) n e l =
    let at : get_or all n nowhere ≡ x = rw e (get_or_at before x es nowhere n l) in
    let f : all ≡ (before ++ (x ∷ [])) ++ es = e ∙ sym (append_assoc before (x ∷ []) es) in
    let more = numbers_cross lines k all (before ++ (x ∷ [])) es (suc n) f (omega (arith, length-append before (x ∷ []))) in
    let P : ℕ → Type 0 = λ i. crosses lines k (get_or all i nowhere) ≡ true in
    elim (cases_Bool (crosses lines k x)) [
      | inl t ↦ rw t (All-cons P n (numbers_on lines k (suc n) es) (ap (crosses lines k) at ∙ t) more)
      | inr t ↦ rw t more
    ]

all_through : {X Y : Type 0} (P : Y → Type 0) (g : X → Y) (xs : List X) → All P (map g xs) → All (λ x. P (g x)) xs
all_through P g [] h = All-nil (λ x. P (g x))
all_through P g (x ∷ xs) h = All-cons (λ y. P (g y)) x xs (All-head P (g x) (map g xs) h) (all_through P g xs (All-tail P (g x) (map g xs) h))

-- the edges of climbs that are on a line cross it
pub climbs_cross : (lines : Lines) (k : ℤ) (edges : List Edge) (cs : List Climb) → SameItems (numbers_on lines k 0 edges) (map number_of cs)
    → All (λ c. crosses lines k (get_or edges c.number nowhere) ≡ true) cs
climbs_cross lines k edges cs s =
    all_through (λ i. crosses lines k (get_or edges i nowhere) ≡ true) number_of cs
    (all_by_items (λ i. crosses lines k (get_or edges i nowhere)) (numbers_on lines k 0 edges) (map number_of cs) s
    (numbers_cross lines k edges [] edges 0 refl refl))
