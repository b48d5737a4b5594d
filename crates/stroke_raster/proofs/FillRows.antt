-- The rows and the columns in which an area fills pixels.
use Rattle.std.proofs.Common.{◌≡◌, ℕ, ◌+◌, ◌*◌, ◌<◌, ◌≤◌, Bool, true, false, ◌&&◌, ◌||◌, nat_le, nat_lt, min, max, List, [], ◌∷◌, ◌++◌, length, count_by, Option, Some, None, refl, sym, ap, ap₂, ◌∙◌, arith, inl, inr, ℤ, pos, nat_abs, ◌+ℤ◌, ◌-ℤ◌, ◌*ℤ◌, ◌≤ℤ◌, int_le, int_lt}
use Rattle.std.specs.Int.{int_max, int_min}
use Rattle.std.specs.List.{list_any}
use Rattle.std.proofs.lemmas.Bool.{and_parts, and_from, cases_Bool}
use Rattle.std.proofs.lemmas.Bool.Decides.{nat_tests}
use Rattle.std.proofs.lemmas.Int.{ints, clamps}
use Rattle.exact.proofs.Ring.{mul_assoc_z}
use Rattle.exact.proofs.Rounding.{le_scale}
use Rattle.plot_page.specs.Resolutions.{rows_of}
use Rattle.plot_page.specs.Segments.{Segment}
use Rattle.plot_page.specs.declared.dots.Dots.{Dots}
use Rattle.plot_page.specs.declared.page.Page.{Page}
use Rattle.polygons.specs.Fills.{is_inside}
use Rattle.polygons.specs.declared.lines.Rule.{Rule}
use Rattle.polygons.specs.declared.lines.Rule.TheVariants.{OddCounts, Winding}
use Rattle.polygons.proofs.Tests.{le_true, le_from, lt_from, same_test}
use Rattle.areas.specs.Inside.{falls_past, is_inside_area, rises_past}
use Rattle.areas.specs.Insides.{is_inside_by, is_inside_shape}
use Rattle.areas.specs.Shapes.{Shape}
use Rattle.stroke_raster.specs.declared.strip.Span.{Span}
use Rattle.stroke_raster.specs.Boxes.{in_box, widened}
use Rattle.stroke_raster.specs.Covers.{between, centre, drawn_width, in_window}
use Rattle.stroke_raster.specs.Extents.{end_row_of, first_row_of}
use Rattle.stroke_raster.specs.ShownShapes.{is_filled}
use Rattle.stroke_raster.specs.Slots.{greatest_row, highest, least_row, lowest, tall}
use Rattle.stroke_raster.specs.Spans.{holds}
use Rattle.stroke_raster.proofs.ExtentLemmas.{level_rows}

-- one more edge at the end
pub lowest_more : (y : ℤ) (es : List Segment) (e : Segment) → lowest y (es ++ e ∷ []) ≡ int_min (int_min e.ay e.by) (lowest y es)
lowest_more y [] e = refl
lowest_more y (d ∷ es) e =
    let h = lowest_more y es e in
    ap (int_min (int_min d.ay d.by)) h
    ∙ omega (arith, ints, clamps)

pub highest_more : (y : ℤ) (es : List Segment) (e : Segment) → highest y (es ++ e ∷ []) ≡ int_max (int_max e.ay e.by) (highest y es)
highest_more y [] e = refl
highest_more y (d ∷ es) e =
    let h = highest_more y es e in
    ap (int_max (int_max d.ay d.by)) h
    ∙ omega (arith, ints, clamps)

lowest_under : (y : ℤ) (es : List Segment) → lowest y es ≤ℤ y
lowest_under y [] = omega (arith, ints)
lowest_under y (e ∷ es) = let h = lowest_under y es in omega (arith, ints, clamps, h)

highest_over : (y : ℤ) (es : List Segment) → y ≤ℤ highest y es
highest_over y [] = omega (arith, ints)
highest_over y (e ∷ es) = let h = highest_over y es in omega (arith, ints, clamps, h)

pub min_within : (a b : ℤ) (m : ℕ) → nat_abs a ≤ m → nat_abs b ≤ m → nat_abs (int_min a b) ≤ m
min_within a b m h k = omega (arith, ints, clamps, h, k)

pub max_within : (a b : ℤ) (m : ℕ) → nat_abs a ≤ m → nat_abs b ≤ m → nat_abs (int_max a b) ≤ m
max_within a b m h k = omega (arith, ints, clamps, h, k)

-- a stroke as tall as these heights, if there are edges
pub tall_of : (s : Segment) (es : List Segment) (low high : ℤ) → 0 < length es → low ≡ lowest (int_min s.ay s.by) es → high ≡ highest (int_max s.ay s.by) es
    → ◌≡◌ {A = Segment} (record s { ay = low; by = high }) (tall s es)
tall_of s [] low high h a b = absurd (omega (arith, h))
tall_of s (e ∷ es) low high h a b = rw (a, b) refl

-- the row below is a pixel lower
pub row_below : (h r row : ℕ) → (centre h r row 0).y -ℤ pos 16256 ≡ (centre h r (row + 1) 0).y
row_below h r row = omega (arith, ints)

pub not_below_last : (h r row last : ℕ) → row ≤ last → (centre h r last 0).y ≤ℤ (centre h r row 0).y
not_below_last h r row last l = omega (arith, ints, l)

-- between its ends a height is in the box of an edge
module _ (a b z : ℤ) (d : ℕ) where
  abbrev not_below : Bool
  not_below = int_le (pos 2 *ℤ int_min a b -ℤ pos d) (pos 2 *ℤ z)

  abbrev not_above : Bool
  not_above = int_le (pos 2 *ℤ z) (pos 2 *ℤ int_max a b +ℤ pos d)

  within_ends : a ≤ℤ z → z ≤ℤ b → widened a b d z ≡ true
  within_ends h k = and_from not_below not_above (sym (omega (arith, ints, clamps, h, k))) (sym (omega (arith, ints, clamps, h, k)))

-- and in a taller box
module _ (a b c d z : ℤ) (w : ℕ) where
  taller : a ≤ℤ c → a ≤ℤ d → c ≤ℤ b → d ≤ℤ b → widened c d w z ≡ true → widened a b w z ≡ true
  taller h k m n e =
      let p = and_parts (not_below c d z w) (not_above c d z w) e in
      let low = le_from (pos 2 *ℤ int_min c d -ℤ pos w) (pos 2 *ℤ z) p.0 in
      let high = le_from (pos 2 *ℤ z) (pos 2 *ℤ int_max c d +ℤ pos w) p.1 in
      and_from (not_below a b z w) (not_above a b z w)
      (le_true (pos 2 *ℤ int_min a b -ℤ pos w) (pos 2 *ℤ z) (omega (arith, ints, clamps, h, k, low)))
      (le_true (pos 2 *ℤ z) (pos 2 *ℤ int_max a b +ℤ pos w) (omega (arith, ints, clamps, m, n, high)))

module _ (r : ℕ) (x y : ℤ) where
  abbrev pub passes : Segment → Bool
  passes e = rises_past r e x y || falls_past r e x y

  none_rises : (es : List Segment) → list_any passes es ≡ false → count_by (λ e. rises_past r e x y) es ≡ 0
  none_rises [] h = refl
  none_rises (e ∷ es) h = elim (cases_Bool (rises_past r e x y)) [
    | inl t ↦ (let bad : true ≡ false = rw t at h in cc bad)
    | inr f ↦ elim (cases_Bool (falls_past r e x y)) [
      | inl t ↦ (let bad : true ≡ false = rw (f, t) at h in cc bad)
      | inr g ↦ (let more = none_rises es (rw (f, g) at h) in rw f more)
    ]
  ]

  none_falls : (es : List Segment) → list_any passes es ≡ false → count_by (λ e. falls_past r e x y) es ≡ 0
  none_falls [] h = refl
  none_falls (e ∷ es) h = elim (cases_Bool (rises_past r e x y)) [
    | inl t ↦ (let bad : true ≡ false = rw t at h in cc bad)
    | inr f ↦ elim (cases_Bool (falls_past r e x y)) [
      | inl t ↦ (let bad : true ≡ false = rw (f, t) at h in cc bad)
      | inr g ↦ (let more = none_falls es (rw (f, g) at h) in rw g more)
    ]
  ]

  outside : (rule : Rule) → is_inside rule 0 0 ≡ false
  outside OddCounts = refl
  outside Winding = refl

  -- where none is passed nothing is inside
  pub passed : (rule : Rule) (es : List Segment) → is_inside_area rule r es x y ≡ true → list_any passes es ≡ true
  passed rule es h = elim (cases_Bool (list_any passes es)) [
    | inl t ↦ t
    | inr f ↦ (let bad : false ≡ true = sym (ap₂ (is_inside rule) (none_rises es f) (none_falls es f) ∙ outside rule) ∙ h in cc bad)
  ]

module _ (s : Segment) (page : Page) (dots : Dots) (row column : ℕ) (on_page : row < rows_of page dots)
    (seen : between (pos dots.resolution *ℤ s.window.y0) (pos dots.resolution *ℤ s.window.y1) (centre page.height dots.resolution row column).y ≡ true) where
  abbrev r : ℕ
  r = dots.resolution

  abbrev height : ℤ
  height = (centre page.height dots.resolution row column).y

  -- an edge that the centre is past has it between its ends
  between_its_ends : (x : ℤ) (e : Segment) → passes r x height e ≡ true
      → ((pos r *ℤ int_min e.ay e.by) ≤ℤ height) × (height ≤ℤ (pos r *ℤ int_max e.ay e.by))
  between_its_ends x e h = elim (cases_Bool (rises_past r e x height)) [
    | inl t ↦ (let low = int_le (pos r *ℤ e.ay) height in
        let high = int_lt height (pos r *ℤ e.by) in
        let p = and_parts (low && high) (int_le ((e.bx -ℤ e.ax) *ℤ (height -ℤ pos r *ℤ e.ay)) ((x -ℤ pos r *ℤ e.ax) *ℤ (e.by -ℤ e.ay))) t in
        let q = and_parts low high p.0 in
        let a = le_from (pos r *ℤ e.ay) height q.0 in
        let b = lt_from height (pos r *ℤ e.by) q.1 in
        let m = le_scale r (int_min e.ay e.by) e.ay (omega (arith, ints, clamps)) in
        let n = le_scale r e.by (int_max e.ay e.by) (omega (arith, ints, clamps)) in
        (omega (arith, ints, a, m), omega (arith, ints, b, n)))
    | inr f ↦ (let g : falls_past r e x height ≡ true = rw f at h in
        let low = int_le (pos r *ℤ e.by) height in
        let high = int_lt height (pos r *ℤ e.ay) in
        let p = and_parts (low && high) (int_le ((x -ℤ pos r *ℤ e.ax) *ℤ (e.by -ℤ e.ay)) ((e.bx -ℤ e.ax) *ℤ (height -ℤ pos r *ℤ e.ay))) g in
        let q = and_parts low high p.0 in
        let a = le_from (pos r *ℤ e.by) height q.0 in
        let b = lt_from height (pos r *ℤ e.ay) q.1 in
        let m = le_scale r (int_min e.ay e.by) e.by (omega (arith, ints, clamps)) in
        let n = le_scale r e.ay (int_max e.ay e.by) (omega (arith, ints, clamps)) in
        (omega (arith, ints, a, m), omega (arith, ints, b, n)))
  ]

  any_between : (x a b : ℤ) (es : List Segment) → list_any (passes r x height) es ≡ true
      → ((pos r *ℤ lowest a es) ≤ℤ height) × (height ≤ℤ (pos r *ℤ highest b es))
  any_between x a b [] h = cc h
  any_between x a b (e ∷ es) h = elim (cases_Bool (passes r x height e)) [
    | inl t ↦ (let k = between_its_ends x e t in
        let m = le_scale r (lowest a (e ∷ es)) (int_min e.ay e.by) (omega (arith, ints, clamps)) in
        let n = le_scale r (int_max e.ay e.by) (highest b (e ∷ es)) (omega (arith, ints, clamps)) in
        (omega (arith, ints, k.0, m), omega (arith, ints, k.1, n)))
    | inr f ↦ (let more : list_any (passes r x height) es ≡ true = rw f at h in
        let k = any_between x a b es more in
        let m = le_scale r (lowest a (e ∷ es)) (lowest a es) (omega (arith, ints, clamps)) in
        let n = le_scale r (highest b es) (highest b (e ∷ es)) (omega (arith, ints, clamps)) in
        (omega (arith, ints, k.0, m), omega (arith, ints, k.1, n)))
  ]

  any_rows : (x : ℤ) (es : List Segment) → list_any (passes r x height) es ≡ true
      → (least_row s es page dots ≤ row) × (row < greatest_row s es page dots)
  any_rows x [] h = cc h
  any_rows x (e ∷ es) h =
      let k = any_between x (int_min s.ay s.by) (int_max s.ay s.by) (e ∷ es) h in
      let t = tall s (e ∷ es) in
      level_rows t page dots row column on_page seen (within_ends (pos r *ℤ t.ay) (pos r *ℤ t.by) height (drawn_width s.width r) k.0 k.1)

  pub inside_rows : (x : ℤ) (rule : Option Rule) (es : List Segment) → is_inside_by rule r es x height ≡ true
      → (least_row s es page dots ≤ row) × (row < greatest_row s es page dots)
  inside_rows x None es h = cc h
  inside_rows x (Some rule) es h = any_rows x es (passed r x height rule es h)

  -- the stroke's own rows are among them
  level_own : (es : List Segment) → widened (pos r *ℤ s.ay) (pos r *ℤ s.by) (drawn_width s.width r) height ≡ true
      → (least_row s es page dots ≤ row) × (row < greatest_row s es page dots)
  level_own [] h = level_rows s page dots row column on_page seen h
  level_own (e ∷ es) h =
      let t = tall s (e ∷ es) in
      let a = lowest_under (int_min s.ay s.by) (e ∷ es) in
      let b = highest_over (int_max s.ay s.by) (e ∷ es) in
      level_rows t page dots row column on_page seen (taller (pos r *ℤ t.ay) (pos r *ℤ t.by) (pos r *ℤ s.ay) (pos r *ℤ s.by) height (drawn_width s.width r)
      (le_scale r t.ay s.ay (omega (arith, ints, clamps, a))) (le_scale r t.ay s.by (omega (arith, ints, clamps, a)))
      (le_scale r s.ay t.by (omega (arith, ints, clamps, b))) (le_scale r s.by t.by (omega (arith, ints, clamps, b))) h)

pub own_rows : (s : Segment) (page : Page) (dots : Dots) (es : List Segment) (row column : ℕ) → row < rows_of page dots
    → in_box s page dots row column ≡ true → (least_row s es page dots ≤ row) × (row < greatest_row s es page dots)
own_rows s page dots es row column on_page h =
    let r = dots.resolution in
    let z = centre page.height r row column in
    let d = drawn_width s.width r in
    let across = widened (pos r *ℤ s.ax) (pos r *ℤ s.bx) d z.x in
    let level = widened (pos r *ℤ s.ay) (pos r *ℤ s.by) d z.y in
    let p = and_parts (in_window s.window r z) (across && level) h in
    let w = and_parts (between (pos r *ℤ s.window.x0) (pos r *ℤ s.window.x1) z.x) (between (pos r *ℤ s.window.y0) (pos r *ℤ s.window.y1) z.y) p.0 in
    let v = and_parts across level p.1 in
    level_own s page dots row column on_page w.1 es v.1

-- what is filled is in the rows of the edges
pub filled_rows : (s : Segment) (shape : Shape) (page : Page) (dots : Dots) (row column : ℕ) → row < rows_of page dots
    → is_filled s.window shape page dots row column ≡ true
    → (least_row s shape.strokes page dots ≤ row) × (row < greatest_row s shape.strokes page dots)
filled_rows s shape page dots row column on_page h =
    let p = and_parts (in_window s.window dots.resolution (centre page.height dots.resolution row column))
    (is_inside_shape shape dots.resolution (centre page.height dots.resolution row column).x (centre page.height dots.resolution row column).y) h in
    let w = and_parts (between (pos dots.resolution *ℤ s.window.x0) (pos dots.resolution *ℤ s.window.x1) (centre page.height dots.resolution row column).x)
    (between (pos dots.resolution *ℤ s.window.y0) (pos dots.resolution *ℤ s.window.y1) (centre page.height dots.resolution row column).y) p.0 in
    inside_rows s page dots row column on_page w.1 (centre page.height dots.resolution row column).x shape.rule shape.strokes p.1

-- the columns of a window, by their doubled places
pub window_held : (r : ℕ) (x0 x1 : ℤ) (span : Span) (k : ℕ)
    → ((pos (2 * r) *ℤ x0) ≤ℤ pos ((2 * k + 1) * 16256) → pos ((2 * k + 1) * 16256) ≤ℤ (pos (2 * r) *ℤ x1) → (span.low ≤ k) × (k < span.end))
    → (span.low ≤ k → k < span.end → (pos (2 * r) *ℤ x0) ≤ℤ pos ((2 * k + 1) * 16256))
    → (k < span.end → pos ((2 * k + 1) * 16256) ≤ℤ (pos (2 * r) *ℤ x1))
    → holds span k ≡ between (pos r *ℤ x0) (pos r *ℤ x1) (pos ((2 * k + 1) * 8128))
window_held r x0 x1 span k held from to =
    let e0 : pos (2 * r) *ℤ x0 ≡ pos 2 *ℤ (pos r *ℤ x0) = mul_assoc_z (pos 2) (pos r) x0 in
    let e1 : pos (2 * r) *ℤ x1 ≡ pos 2 *ℤ (pos r *ℤ x1) = mul_assoc_z (pos 2) (pos r) x1 in
    same_test (holds span k) (between (pos r *ℤ x0) (pos r *ℤ x1) (pos ((2 * k + 1) * 8128)))
    (λ h.
    let p = and_parts (nat_le span.low k) (nat_lt k span.end) h in
    let low : span.low ≤ k = grind (arith, nat_tests, p.0) in
    let high : k < span.end = grind (arith, nat_tests, p.1) in
    let a = from low high in
    let b = to high in
    and_from (int_le (pos r *ℤ x0) (pos ((2 * k + 1) * 8128))) (int_le (pos ((2 * k + 1) * 8128)) (pos r *ℤ x1))
    (le_true (pos r *ℤ x0) (pos ((2 * k + 1) * 8128)) (omega (arith, ints, e0, a))) (le_true (pos ((2 * k + 1) * 8128)) (pos r *ℤ x1) (omega (arith, ints, e1, b))))
    (λ h.
    let p = and_parts (int_le (pos r *ℤ x0) (pos ((2 * k + 1) * 8128))) (int_le (pos ((2 * k + 1) * 8128)) (pos r *ℤ x1)) h in
    let a = le_from (pos r *ℤ x0) (pos ((2 * k + 1) * 8128)) p.0 in
    let b = le_from (pos ((2 * k + 1) * 8128)) (pos r *ℤ x1) p.1 in
    let n = held (omega (arith, ints, e0, a)) (omega (arith, ints, e1, b)) in
    let low = n.0 in
    let high = n.1 in
    and_from (nat_le span.low k) (nat_lt k span.end) (grind (arith, nat_tests, low)) (grind (arith, nat_tests, high)))
