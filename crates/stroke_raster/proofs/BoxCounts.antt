-- The pixels of boxes, row by row and stroke by stroke.
use Rattle.std.proofs.Common.{◌≡◌, ℕ, zero, suc, ◌+◌, ◌-◌, ◌*◌, ◌<◌, ◌≤◌, Bool, true, min, List, [], ◌∷◌, ◌++◌, length, get_or, take, sum_by, refl, sym, ap, ◌∙◌, arith, inl, inr, cond}
use Rattle.std.proofs.lemmas.Bool.{cases_lt, cases_Bool}
use Rattle.std.proofs.lemmas.Grind.{take_at_read}
use Rattle.std.proofs.lemmas.List.Sums.{sum_by-append, sum_by-cons}
use Rattle.plot_page.specs.Segments.{Segment}
use Rattle.plot_page.specs.declared.pens.PenSet.{PenSet}
use Rattle.plot_page.specs.Pens.{has_pen}
use Rattle.stroke_raster.specs.Tests.{reached}
use Rattle.stroke_raster.specs.Boxes.{selected, boxes, box_pixels}
use Rattle.stroke_raster.specs.ShownShapes.{nobody, stroke_at}
use Rattle.stroke_raster.proofs.Reached.{reached_more}
use Rattle.stroke_raster.proofs.ReachedRows.{row_reached, runs_reached}
use Rattle.stroke_raster.proofs.Slots.{take_slot}
use Rattle.stroke_raster.proofs.Tops.{selected-push_yes, selected-push_no}

-- one more row of a box
box_more : (inside : Segment → ℕ → ℕ → Bool) (s : Segment) (first n columns : ℕ) → box_pixels inside s first (n + 1) columns ≡ box_pixels inside s first n columns + reached (inside s (first + n)) 0 columns
box_more inside s first n columns = row_reached (inside s) first n 0 columns

one_of : (b : Bool) (n : ℕ) → n ≡ cond b 1 0 → b ≡ true → n ≡ 1
one_of b n h e = h ∙ rw e refl

-- the columns of a span are counted
span : (p : ℕ → Bool) (f u : ℕ) → ((c : ℕ) → f ≤ c → c < u → p c ≡ true) → (n : ℕ) → min u n - f ≤ reached p 0 n
span p f u h zero = omega arith
span p f u h (suc n) =
    let z : n + 1 ≡ suc n = omega arith in
    let y : 0 + n ≡ n = omega arith in
    let e : reached p 0 (suc n) ≡ reached p 0 n + cond (p n) 1 0 = ap (λ (k : ℕ). reached p 0 k) (sym z) ∙ reached_more p 0 n ∙ ap (λ (k : ℕ). reached p 0 n + cond (p k) 1 0) y in
    let i = span p f u h n in
    elim (cases_lt n f) [
      | inl l ↦ omega (arith, l)
      | inr l ↦ elim (cases_lt n u) [
        | inl m ↦ (let t = one_of (p n) (cond (p n) 1 0) refl (h n l m) in omega (arith, e, i, t))
        | inr m ↦ omega (arith, e, i, m)
      ]
    ]

-- one more row of which a span lies in the box
pub box_row : (inside : Segment → ℕ → ℕ → Bool) (s : Segment) (first n columns from upto : ℕ) → ((c : ℕ) → from ≤ c → c < upto → inside s (first + n) c ≡ true) → upto ≤ columns
    → box_pixels inside s first n columns + (upto - from) ≤ box_pixels inside s first (n + 1) columns
box_row inside s first n columns from upto full w =
    let e = box_more inside s first n columns in
    let i = span (inside s (first + n)) from upto full columns in
    omega (arith, e, i)

boxes_rows : (inside : Segment → ℕ → ℕ → Bool) (s : Segment) (first n columns k : ℕ) → box_pixels inside s first n columns ≤ box_pixels inside s first (n + k) columns
boxes_rows inside s first n columns zero = let z : n ≡ n + 0 = omega arith in rw (← z) (omega arith)
boxes_rows inside s first n columns (suc k) =
    let e = box_more inside s first (n + k) columns in
    let i = boxes_rows inside s first n columns k in
    let z : (n + k) + 1 ≡ n + suc k = omega arith in
    let j : box_pixels inside s first (n + k) columns ≤ box_pixels inside s first (n + k + 1) columns = omega (arith, e) in
    let j' : box_pixels inside s first (n + k) columns ≤ box_pixels inside s first (n + suc k) columns = rw z at j in
    omega (arith, i, j')

pub boxes_rows_to : (inside : Segment → ℕ → ℕ → Bool) (s : Segment) (first n m columns : ℕ) → n ≤ m → box_pixels inside s first n columns ≤ box_pixels inside s first m columns
boxes_rows_to inside s first n m columns h = let z : n + (m - n) ≡ m = omega arith in let j = boxes_rows inside s first n columns (m - n) in rw z at j

-- rows and columns that lie in the box
box_part : (inside : Segment → ℕ → ℕ → Bool) (s : Segment) (first low n columns from upto : ℕ) → first ≤ low → ((row c : ℕ) → low ≤ row → row < low + n → from ≤ c → c < upto → inside s row c ≡ true) → upto ≤ columns
    → n * (upto - from) ≤ box_pixels inside s first (low - first + n) columns
box_part inside s first low zero columns from upto h full w = omega arith
box_part inside s first low (suc n) columns from upto h full w =
    let i = box_part inside s first low n columns from upto h (λ row c a b d e. full row c a (omega (arith, b)) d e) w in
    let r : first + (low - first + n) ≡ low + n = omega (arith, h) in
    let b = box_row inside s first (low - first + n) columns from upto (λ c d e. rw r (full (low + n) c (omega arith) (omega arith) d e)) w in
    let z : low - first + n + 1 ≡ low - first + suc n = omega arith in
    let b' = rw z at b in
    omega (arith, i, b')

pub box_part_in : (inside : Segment → ℕ → ℕ → Bool) (s : Segment) (first rows low end columns from upto : ℕ) → first ≤ low → low ≤ end → end ≤ first + rows
    → ((row c : ℕ) → low ≤ row → row < end → from ≤ c → c < upto → inside s row c ≡ true) → upto ≤ columns
    → (end - low) * (upto - from) ≤ box_pixels inside s first rows columns
box_part_in inside s first rows low end columns from upto h order to full w =
    let e : low + (end - low) ≡ end = omega (arith, order) in
    let a = box_part inside s first low (end - low) columns from upto h (λ row c x y. full row c x (omega (arith, y, e))) w in
    let b = boxes_rows_to inside s first (low - first + (end - low)) rows columns (omega (arith, h, order, to)) in
    omega (arith, a, b)

-- the rows of a box in two runs
box_rows_join : (inside : Segment → ℕ → ℕ → Bool) (s : Segment) (first n m columns : ℕ) → box_pixels inside s first (n + m) columns ≡ box_pixels inside s first n columns + box_pixels inside s (first + n) m columns
box_rows_join inside s first n m columns = runs_reached (inside s) first n m 0 columns

-- the rows of boxes in two runs
pub boxes_join : (inside : Segment → ℕ → ℕ → Bool) (ss : List Segment) (first n m columns : ℕ) → boxes inside ss first (n + m) columns ≡ boxes inside ss first n columns + boxes inside ss (first + n) m columns
boxes_join inside [] first n m columns = omega arith
boxes_join inside (s ∷ ss) first n m columns =
    let i = boxes_join inside ss first n m columns in
    let j = box_rows_join inside s first n m columns in
    let a = sum_by-cons (λ (t : Segment). box_pixels inside t first (n + m) columns) s ss in
    let b = sum_by-cons (λ (t : Segment). box_pixels inside t first n columns) s ss in
    let c = sum_by-cons (λ (t : Segment). box_pixels inside t (first + n) m columns) s ss in
    omega (arith, i, j, a, b, c)

-- the rows up to one and those after it
pub boxes_after : (inside : Segment → ℕ → ℕ → Bool) (ss : List Segment) (first at n columns : ℕ) → first ≤ at → boxes inside ss first (at + n - first) columns ≡ boxes inside ss first (at - first) columns + boxes inside ss at n columns
boxes_after inside ss first at n columns h =
    let j = boxes_join inside ss first (at - first) n columns in
    let y : (at - first) + n ≡ at + n - first = omega arith in
    let z : first + (at - first) ≡ at = omega arith in
    ap (λ (k : ℕ). boxes inside ss first k columns) (sym y) ∙ j ∙ ap (λ (k : ℕ). boxes inside ss first (at - first) columns + boxes inside ss k n columns) z

-- fewer rows, fewer pixels
pub boxes_fewer : (inside : Segment → ℕ → ℕ → Bool) (ss : List Segment) (first n m columns : ℕ) → n ≤ m → boxes inside ss first n columns ≤ boxes inside ss first m columns
boxes_fewer inside ss first n m columns h =
    let j = boxes_join inside ss first n (m - n) columns in
    let z : n + (m - n) ≡ m = omega arith in
    let j' : boxes inside ss first m columns ≡ boxes inside ss first n columns + boxes inside ss (first + n) (m - n) columns = ap (λ (k : ℕ). boxes inside ss first k columns) (sym z) ∙ j in
    omega (arith, j')

sum_push : (f : Segment → ℕ) (ss : List Segment) (t : Segment) → sum_by f (ss ++ t ∷ []) ≡ sum_by f ss + f t
sum_push f ss t = let a = sum_by-append f ss (t ∷ []) in let b = sum_by-cons f t [] in omega (arith, a, b)

pub boxes_slot : (pens : PenSet) (inside : Segment → ℕ → ℕ → Bool) (xs : List Segment) (p r n columns : ℕ) → 0 < p → p ≤ length xs → has_pen pens (stroke_at xs p).pen ≡ true
    → boxes inside (selected pens (take p xs)) r n columns ≡ boxes inside (selected pens (take (p - 1) xs)) r n columns + box_pixels inside (stroke_at xs p) r n columns
boxes_slot pens inside xs p r n columns pos fit sel =
    let e = take_slot xs p pos fit in
    let s = selected-push_yes pens (take (p - 1) xs) (stroke_at xs p) sel in
    rw (e, s) (sum_push (λ (t : Segment). box_pixels inside t r n columns) (selected pens (take (p - 1) xs)) (stroke_at xs p))

boxes_push : (pens : PenSet) (inside : Segment → ℕ → ℕ → Bool) (ss : List Segment) (t : Segment) (r n columns : ℕ) → boxes inside (selected pens ss) r n columns ≤ boxes inside (selected pens (ss ++ t ∷ [])) r n columns
boxes_push pens inside ss t r n columns = elim (cases_Bool (has_pen pens t.pen)) [
  | inl e ↦ (let a = sum_push (λ (u : Segment). box_pixels inside u r n columns) (selected pens ss) t in rw (selected-push_yes pens ss t e) (omega (arith, a)))
  | inr e ↦ rw (selected-push_no pens ss t e) (omega arith)
]

boxes_more : (pens : PenSet) (inside : Segment → ℕ → ℕ → Bool) (xs : List Segment) (r n columns a d : ℕ) → a + d ≤ length xs → boxes inside (selected pens (take a xs)) r n columns ≤ boxes inside (selected pens (take (a + d) xs)) r n columns
boxes_more pens inside xs r n columns a zero fit = let e : a ≡ a + 0 = omega arith in rw (← e) (omega arith)
boxes_more pens inside xs r n columns a (suc d) fit =
    let z : (a + d) + 1 ≡ a + suc d = omega arith in
    let e : take (a + suc d) xs ≡ take (a + d) xs ++ get_or xs (a + d) nobody ∷ [] = ap (λ (n : ℕ). take n xs) (sym z) ∙ (take_at_read xs (a + d) nobody (omega (arith, fit))).1 in
    let h = boxes_more pens inside xs r n columns a d (omega (arith, fit)) in
    let q : boxes inside (selected pens (take (a + d) xs)) r n columns ≤ boxes inside (selected pens (take (a + suc d) xs)) r n columns = rw e (boxes_push pens inside (take (a + d) xs) (get_or xs (a + d) nobody) r n columns) in
    omega (arith, h, q)

pub boxes_grow : (pens : PenSet) (inside : Segment → ℕ → ℕ → Bool) (xs : List Segment) (r n columns a b : ℕ) → a ≤ b → b ≤ length xs → boxes inside (selected pens (take a xs)) r n columns ≤ boxes inside (selected pens (take b xs)) r n columns
boxes_grow pens inside xs r n columns a b le fit =
    let e : a + (b - a) ≡ b = omega arith in
    let h = boxes_more pens inside xs r n columns a (b - a) (omega (arith, e)) in
    rw e at h
