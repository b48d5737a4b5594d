-- As many pixels are reached as show a stroke, or more.
use Rattle.std.proofs.Common.{◌≡◌, ℕ, zero, suc, ◌+◌, ◌-◌, ◌<◌, ◌≤◌, Bool, true, false, ◌&&◌, cond, nat_eq, nat_le, List, [], ◌∷◌, ◌++◌, length, take, map, sum_by, count_by, refl, sym, ap, ◌∙◌, arith, inl, inr}
use Rattle.std.proofs.lemmas.Bool.{cases_eq, cases_Bool}
use Rattle.std.proofs.lemmas.Bool.Decides.{nat_tests}
use Rattle.std.proofs.lemmas.List.Sums.{sum_by-cons}
use Rattle.std.specs.List.{range_with_len}
use Rattle.plot_page.specs.Segments.{Segment}
use Rattle.plot_page.specs.declared.pens.PenSet.{PenSet}
use Rattle.plot_page.specs.Pens.{has_pen}
use Rattle.stroke_raster.specs.Tests.{reached}
use Rattle.stroke_raster.specs.Boxes.{selected, boxes, box_pixels}
use Rattle.stroke_raster.specs.Shown.{shown, row_shown}
use Rattle.stroke_raster.specs.Rows.{rows_shown, marked, marked_in_rows}
use Rattle.stroke_raster.specs.ShownShapes.{stroke_at}
use Rattle.stroke_raster.proofs.BoxCounts.{boxes_slot}
use Rattle.stroke_raster.proofs.ReachedRows.{none_has}
use Rattle.stroke_raster.proofs.Slots.{take_slot}
use Rattle.stroke_raster.proofs.Tops.{selected-push_no}

abbrev one : Bool → ℕ
one b = cond b 1 0

-- a pixel shows one stroke more
pixel_more : (b : Bool) (n : ℕ) → one (nat_le 1 (cond (nat_eq n 0) (one b) (n + 1))) ≤ one b + one (nat_le 1 n)
pixel_more true n = elim (nat_le 1 (cond (nat_eq n 0) 1 (n + 1))) as (λ z. one z ≤ 1 + one (nat_le 1 n)) [ true ↦ omega arith | false ↦ omega arith ]
pixel_more false n = elim (cases_eq n 0) [
  | inl e ↦ rw e (omega arith)
  | inr ne ↦ (let t : nat_le 1 n ≡ true = grind (arith, nat_tests) in
      let o : one (nat_le 1 n) ≡ 1 = rw t refl in
      elim (nat_le 1 (cond (nat_eq n 0) 0 (n + 1))) as (λ z. one z ≤ 0 + one (nat_le 1 n)) [ true ↦ omega (arith, o) | false ↦ omega arith ])
]

shown_more : (covers : Segment → ℕ → ℕ → Bool) (pens : PenSet) (s : Segment) (ss : List Segment) (b : Bool) (row c : ℕ) → has_pen pens s.pen ≡ b
    → one (nat_le 1 (shown covers pens (s ∷ ss) row c)) ≤ one (b && covers s row c) + one (nat_le 1 (shown covers pens ss row c))
shown_more covers pens s ss b row c e =
    let m = pixel_more (b && covers s row c) (shown covers pens ss row c) in
    let z : one (nat_le 1 (shown covers pens (s ∷ ss) row c)) ≡ one (nat_le 1 (cond (nat_eq (shown covers pens ss row c) 0) (one (b && covers s row c)) (shown covers pens ss row c + 1))) =
    ap (λ (x : Bool). one (nat_le 1 (cond (nat_eq (shown covers pens ss row c) 0) (one (x && covers s row c)) (shown covers pens ss row c + 1)))) e in
    omega (arith, m, z)

-- so does a row, and so do several rows
row_more : (covers : Segment → ℕ → ℕ → Bool) (pens : PenSet) (s : Segment) (ss : List Segment) (b : Bool) (row : ℕ) → has_pen pens s.pen ≡ b → (cs : List ℕ)
    → marked (map (λ c. shown covers pens (s ∷ ss) row c) cs) ≤ count_by (λ c. b && covers s row c) cs + marked (map (λ c. shown covers pens ss row c) cs)
row_more covers pens s ss b row e [] = omega arith
row_more covers pens s ss b row e (c ∷ cs) =
    let i = row_more covers pens s ss b row e cs in
    let m = shown_more covers pens s ss b row c e in
    let x = sum_by-cons (λ (p : ℕ). one (nat_le 1 p)) (shown covers pens (s ∷ ss) row c) (map (λ k. shown covers pens (s ∷ ss) row k) cs) in
    let y = sum_by-cons (λ (k : ℕ). one (b && covers s row k)) c cs in
    let z = sum_by-cons (λ (p : ℕ). one (nat_le 1 p)) (shown covers pens ss row c) (map (λ k. shown covers pens ss row k) cs) in
    omega (arith, i, m, x, y, z)

rows_more : (covers : Segment → ℕ → ℕ → Bool) (pens : PenSet) (s : Segment) (ss : List Segment) (b : Bool) (columns : ℕ) → has_pen pens s.pen ≡ b → (rs : List ℕ)
    → marked_in_rows (map (λ row. row_shown covers pens (s ∷ ss) columns row) rs)
    ≤ sum_by (λ row. reached (λ c. b && covers s row c) 0 columns) rs + marked_in_rows (map (λ row. row_shown covers pens ss columns row) rs)
rows_more covers pens s ss b columns e [] = omega arith
rows_more covers pens s ss b columns e (r ∷ rs) =
    let i = rows_more covers pens s ss b columns e rs in
    let m = row_more covers pens s ss b r e (range_with_len 0 columns) in
    let x = sum_by-cons marked (row_shown covers pens (s ∷ ss) columns r) (map (λ row. row_shown covers pens (s ∷ ss) columns row) rs) in
    let y = sum_by-cons (λ (row : ℕ). reached (λ c. b && covers s row c) 0 columns) r rs in
    let z = sum_by-cons marked (row_shown covers pens ss columns r) (map (λ row. row_shown covers pens ss columns row) rs) in
    omega (arith, i, m, x, y, z)

-- nothing is shown of no stroke, and nothing is reached by a stroke of another pen
no_marks : (cs : List ℕ) → marked (map (λ c. 0) cs) ≡ 0
no_marks [] = refl
no_marks (c ∷ cs) =
    let i = no_marks cs in
    let x = sum_by-cons (λ (p : ℕ). one (nat_le 1 p)) 0 (map (λ c. 0) cs) in
    omega (arith, i, x)

no_strokes : (covers : Segment → ℕ → ℕ → Bool) (pens : PenSet) (columns : ℕ) (rs : List ℕ) → marked_in_rows (map (λ row. row_shown covers pens [] columns row) rs) ≡ 0
no_strokes covers pens columns [] = refl
no_strokes covers pens columns (r ∷ rs) =
    let i = no_strokes covers pens columns rs in
    let n = no_marks (range_with_len 0 columns) in
    let x = sum_by-cons marked (row_shown covers pens [] columns r) (map (λ row. row_shown covers pens [] columns row) rs) in
    omega (arith, i, n, x)

none_of : (cs : List ℕ) → count_by (λ c. false) cs ≡ 0
none_of [] = refl
none_of (c ∷ cs) =
    let i = none_of cs in
    let x = sum_by-cons (λ (k : ℕ). 0) c cs in
    omega (arith, i, x)

none_in : (columns : ℕ) (rs : List ℕ) → sum_by (λ row. reached (λ c. false) 0 columns) rs ≡ 0
none_in columns [] = refl
none_in columns (r ∷ rs) =
    let i = none_in columns rs in
    let n = none_of (range_with_len 0 columns) in
    let x = sum_by-cons (λ (row : ℕ). reached (λ c. false) 0 columns) r rs in
    omega (arith, i, n, x)

-- the pixels that show a stroke are at most those that the strokes reach
in_rows : (covers : Segment → ℕ → ℕ → Bool) (pens : PenSet) (columns : ℕ) (rs : List ℕ) (ss : List Segment)
    → marked_in_rows (map (λ row. row_shown covers pens ss columns row) rs) ≤ sum_by (λ s. sum_by (λ row. reached (covers s row) 0 columns) rs) (selected pens ss)
in_rows covers pens columns rs [] = let n = no_strokes covers pens columns rs in omega (arith, n)
in_rows covers pens columns rs (s ∷ ss) =
    let i = in_rows covers pens columns rs ss in
    elim (cases_Bool (has_pen pens s.pen)) [
      | inl t ↦ (let m = rows_more covers pens s ss true columns t rs in
          let x = sum_by-cons (λ (u : Segment). sum_by (λ row. reached (covers u row) 0 columns) rs) s (selected pens ss) in
          let k : selected pens (s ∷ ss) ≡ s ∷ selected pens ss = rw t refl in
          rw k (omega (arith, i, m, x)))
      | inr f ↦ (let m = rows_more covers pens s ss false columns f rs in
          let n = none_in columns rs in
          let k : selected pens (s ∷ ss) ≡ selected pens ss = rw f refl in
          rw k (omega (arith, i, m, n)))
    ]

pub shown_at_most : (covers : Segment → ℕ → ℕ → Bool) (pens : PenSet) (ss : List Segment) (columns first n : ℕ)
    → marked_in_rows (rows_shown covers pens ss columns first n) ≤ boxes covers (selected pens ss) first n columns
shown_at_most covers pens ss columns first n = in_rows covers pens columns (range_with_len first n) ss

-- slots of which no pixel is reached are passed over
boxes_skip : (pens : PenSet) (covers : Segment → ℕ → ℕ → Bool) (xs : List Segment) (first rows columns a d : ℕ) → a + d ≤ length xs
    → ((j r c : ℕ) → a < j → j ≤ a + d → r < rows → has_pen pens (stroke_at xs j).pen ≡ true → covers (stroke_at xs j) (first + r) c ≡ false)
    → boxes covers (selected pens (take (a + d) xs)) first rows columns ≡ boxes covers (selected pens (take a xs)) first rows columns
boxes_skip pens covers xs first rows columns a zero fit h = let z : a + 0 ≡ a = omega arith in rw z refl
boxes_skip pens covers xs first rows columns a (suc d) fit h =
    let i = boxes_skip pens covers xs first rows columns a d (omega (arith, fit)) (λ j r c u v. h j r c u (omega (arith, v))) in
    let z : a + suc d - 1 ≡ a + d = omega arith in
    elim (cases_Bool (has_pen pens (stroke_at xs (a + suc d)).pen)) [
      | inl t ↦ (let b = boxes_slot pens covers xs (a + suc d) first rows columns (omega arith) fit t in
          let b' : boxes covers (selected pens (take (a + suc d) xs)) first rows columns ≡ boxes covers (selected pens (take (a + d) xs)) first rows columns + box_pixels covers (stroke_at xs (a + suc d)) first rows columns =
          b ∙ ap (λ (k : ℕ). boxes covers (selected pens (take k xs)) first rows columns + box_pixels covers (stroke_at xs (a + suc d)) first rows columns) z in
          let n : box_pixels covers (stroke_at xs (a + suc d)) first rows columns ≡ 0 = none_has (covers (stroke_at xs (a + suc d))) first rows columns (λ r c u v. h (a + suc d) r c (omega arith) (omega arith) u t) in
          b' ∙ ap (λ (k : ℕ). boxes covers (selected pens (take (a + d) xs)) first rows columns + k) n ∙ omega arith ∙ i)
      | inr f ↦ (let e = take_slot xs (a + suc d) (omega arith) fit in
          let e' : take (a + suc d) xs ≡ take (a + d) xs ++ stroke_at xs (a + suc d) ∷ [] = e ∙ ap (λ (k : ℕ). take k xs ++ stroke_at xs (a + suc d) ∷ []) z in
          ap (λ (ys : List Segment). boxes covers (selected pens ys) first rows columns) e'
          ∙ ap (λ (ys : List Segment). boxes covers ys first rows columns) (selected-push_no pens (take (a + d) xs) (stroke_at xs (a + suc d)) f) ∙ i)
    ]

-- one slot's pixels counted, and those up to the next one passed over
pub counted_step : (covers : Segment → ℕ → ℕ → Bool) (pens : PenSet) (xs : List Segment) (first rows columns p q : ℕ)
    → 0 < p → p ≤ length xs → p < q → q ≤ length xs + 1 → has_pen pens (stroke_at xs p).pen ≡ true
    → ((j r c : ℕ) → p < j → j < q → r < rows → has_pen pens (stroke_at xs j).pen ≡ true → covers (stroke_at xs j) (first + r) c ≡ false)
    → boxes covers (selected pens (take (q - 1) xs)) first rows columns ≡ boxes covers (selected pens (take (p - 1) xs)) first rows columns + box_pixels covers (stroke_at xs p) first rows columns
counted_step covers pens xs first rows columns p q pos fit lt end sel out =
    let e : p + (q - 1 - p) ≡ q - 1 = omega arith in
    let sk = boxes_skip pens covers xs first rows columns p (q - 1 - p) (omega (arith, e)) (λ j r c a b u s. out j r c a (omega (arith, b, e)) u s) in
    let b = boxes_slot pens covers xs p first rows columns pos fit sel in
    ap (λ (n : ℕ). boxes covers (selected pens (take n xs)) first rows columns) (sym e) ∙ sk ∙ b

-- before the first slot nothing is counted
pub counted_start : (covers : Segment → ℕ → ℕ → Bool) (pens : PenSet) (xs : List Segment) (first rows columns q : ℕ) → 0 < q → q ≤ length xs + 1
    → ((j r c : ℕ) → 0 < j → j < q → r < rows → has_pen pens (stroke_at xs j).pen ≡ true → covers (stroke_at xs j) (first + r) c ≡ false)
    → boxes covers (selected pens (take (q - 1) xs)) first rows columns ≡ 0
counted_start covers pens xs first rows columns q pos end out =
    let z : 0 + (q - 1) ≡ q - 1 = omega arith in
    let sk = boxes_skip pens covers xs first rows columns 0 (q - 1) (omega arith) (λ j r c a b u s. out j r c a (omega (arith, b, pos)) u s) in
    ap (λ (n : ℕ). boxes covers (selected pens (take n xs)) first rows columns) (sym z) ∙ sk
