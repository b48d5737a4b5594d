-- What the slots of a band show, with those left out that cannot reach it.
use Rattle.std.proofs.Common.{◌≡◌, ℕ, zero, suc, ◌+◌, ◌-◌, ◌*◌, ◌/◌, ◌<◌, ◌≤◌, Bool, true, false, nat_lt, nat_eq}
use Rattle.std.proofs.Common.{◌&&◌, ◌||◌, max, List, [], ◌∷◌, ◌++◌, length, get_or, take, add-zero, refl, sym, ap, ◌∙◌, arith}
use Rattle.std.proofs.Common.{inl, inr, cond}
use Rattle.std.proofs.lemmas.Bool.Decides.{nat_tests}
use Rattle.std.proofs.lemmas.Bool.{cases_Bool}
use Rattle.std.proofs.lemmas.Grind.{take_at_read}
use Rattle.std.proofs.Math.Nat.{div-lt_iff_lt-mul}
use Rattle.plot_page.specs.Segments.{Segment}
use Rattle.plot_page.specs.declared.page.Page.{Page}
use Rattle.plot_page.specs.declared.dots.Dots.{Dots}
use Rattle.plot_page.specs.declared.pens.PenSet.{PenSet}
use Rattle.plot_page.specs.Pens.{has_pen}
use Rattle.areas.specs.declared.area.Area.{Area}
use Rattle.stroke_raster.specs.Boxes.{in_box}
use Rattle.plot_page.specs.Resolutions.{rows_of}
use Rattle.stroke_raster.specs.Chains.{runs, begins}
use Rattle.stroke_raster.specs.Canvases.{Shows}
use Rattle.stroke_raster.specs.ShownShapes.{Reaches, area_at, last_at, nobody, reaches_with, shows_at, stroke_at}
use Rattle.stroke_raster.specs.Slots.{band_of, end_row_at, first_row_at, goes_on}
use Rattle.stroke_raster.proofs.Chains.{Falls, and_true_false}
use Rattle.stroke_raster.proofs.FillRows.{filled_rows, own_rows}

pub goes_on_falls : (ss : List Segment) (areas : List Area) (page : Page) (dots : Dots) (r0 h : ℕ) → Falls (goes_on ss areas page dots r0 h)
goes_on_falls ss areas page dots r0 h k j e = grind (arith, nat_tests)

-- one more slot of a list
pub take_slot : (xs : List Segment) (j : ℕ) → 0 < j → j ≤ length xs → take j xs ≡ take (j - 1) xs ++ stroke_at xs j ∷ []
take_slot xs j pos fit =
    let e : (j - 1) + 1 ≡ j = omega arith in
    let t = take_at_read xs (j - 1) nobody (omega arith) in
    ap (λ (n : ℕ). take n xs) (sym e) ∙ t.1

-- the last of the first p positions for which the test holds
pub last_here : (test : ℕ → Bool) (p : ℕ) → 0 < p → last_at test p ≡ cond (test p) p (last_at test (p - 1))
last_here test zero pos = absurd (omega (arith, pos))
last_here test (suc p) pos = let e : suc p - 1 ≡ p = omega arith in rw e refl

-- positions for which the test does not hold are passed over
pub last_skip : (test : ℕ → Bool) (a d : ℕ) → ((j : ℕ) → a < j → j ≤ a + d → test j ≡ false) → last_at test (a + d) ≡ last_at test a
last_skip test a zero h = ap (last_at test) (add-zero a)
last_skip test a (suc d) h =
    let z : a + suc d ≡ suc (a + d) = omega arith in
    let n : test (suc (a + d)) ≡ false = h (suc (a + d)) (omega arith) (omega arith) in
    ap (last_at test) z ∙ rw n (last_skip test a d (λ j u v. h j u (omega (arith, v))))

pub last_within : (test : ℕ → Bool) (n : ℕ) → last_at test n ≤ n
last_within test zero = omega arith
last_within test (suc n) = let h = last_within test n in either (test (suc n)) h
  where
    either : (b : Bool) → last_at test n ≤ n → cond b (suc n) (last_at test n) ≤ suc n
    either true k = omega arith
    either false k = omega (arith, k)

-- the first strokes decide what their positions are
pub last_as : (test other : ℕ → Bool) (n : ℕ) → ((j : ℕ) → 0 < j → j ≤ n → test j ≡ other j) → last_at test n ≡ last_at other n
last_as test other zero h = refl
last_as test other (suc n) h =
    let e = h (suc n) (omega arith) (omega arith) in
    let more = last_as test other n (λ j u v. h j u (omega (arith, v))) in
    rw (e, more) refl

-- one slot painted, and those up to the next one passed over
pub shows_step : (mark : ℕ → ℕ) (test : ℕ → ℕ → ℕ → Bool) (first rows columns p q : ℕ) (old new : ℕ → ℕ → ℕ)
    → 0 < p → p < q → Shows old mark test (p - 1) first rows columns
    → ((r k : ℕ) → r < rows → k < columns → new r k ≡ cond (test p (first + r) k) (mark p) (old r k))
    → ((j r c : ℕ) → p < j → j < q → r < rows → test j (first + r) c ≡ false)
    → Shows new mark test (q - 1) first rows columns
shows_step mark test first rows columns p q old new pos lt h paint out r k u v =
    let e : p + (q - 1 - p) ≡ q - 1 = omega arith in
    let here : ℕ → Bool = λ j. test j (first + r) k in
    let sk = last_skip (λ j. test j (first + r) k) p (q - 1 - p) (λ j a b. out j r k a (omega (arith, b, e, lt)) u) in
    let now : last_at (λ j. test j (first + r) k) (q - 1) ≡ cond (test p (first + r) k) p (last_at (λ j. test j (first + r) k) (p - 1)) =
    ap (last_at (λ j. test j (first + r) k)) (sym e) ∙ sk ∙ last_here (λ j. test j (first + r) k) p pos in
    paint r k u v ∙ ap (λ (n : ℕ). cond (test p (first + r) k) (mark p) n) (h r k u v)
    ∙ sym (marked_cond mark (test p (first + r) k) p (last_at (λ j. test j (first + r) k) (p - 1)))
    ∙ ap mark (sym now)
  where
    marked_cond : (mark : ℕ → ℕ) (b : Bool) (p n : ℕ) → mark (cond b p n) ≡ cond b (mark p) (mark n)
    marked_cond mark true p n = refl
    marked_cond mark false p n = refl

-- before the first slot nothing is shown
pub shows_start : (mark : ℕ → ℕ) (test : ℕ → ℕ → ℕ → Bool) (first rows columns q : ℕ) (pixel : ℕ → ℕ → ℕ)
    → 0 < q → mark 0 ≡ 0
    → ((r k : ℕ) → r < rows → k < columns → pixel r k ≡ 0)
    → ((j r c : ℕ) → 0 < j → j < q → r < rows → test j (first + r) c ≡ false)
    → Shows pixel mark test (q - 1) first rows columns
shows_start mark test first rows columns q pixel pos zero_is blank out r k u v =
    let z : 0 + (q - 1) ≡ q - 1 = omega arith in
    let sk = last_skip (λ j. test j (first + r) k) 0 (q - 1) (λ j a b. out j r k a (omega (arith, b, pos)) u) in
    let none : last_at (λ j. test j (first + r) k) (q - 1) ≡ 0 = ap (last_at (λ j. test j (first + r) k)) (sym z) ∙ sk in
    blank r k u v ∙ sym zero_is ∙ ap mark (sym none)

-- a position that is not selected, or does not reach the pixel, isn't shown
hidden : (a b : Bool) → (a ≡ true → b ≡ false) → (a && b) ≡ false
hidden true b h = h refl
hidden false b h = refl

numbers : (x k : ℕ) → x < k + 1 → nat_lt x k ≡ false → nat_eq x k ≡ false → false ≡ true
numbers x k m p q = grind (arith, nat_tests)

-- a stroke that is due in no row of a band cannot be reached there: over the numbers of its box's rows
unreached : (low end r0 h bands band k r : ℕ) → 0 < h
    → band ≡ cond (nat_lt (max low r0) end) ((max low r0 - r0) / h) bands
    → (nat_lt band k && nat_lt (r0 + k * h) end) ≡ false → nat_eq band k ≡ false → r < h
    → low ≤ r0 + k * h + r → r0 + k * h + r < end → false ≡ true
unreached low end r0 h bands band k r pos eb nr nb rh from to =
    let due : nat_lt (max low r0) end ≡ true = grind (arith, nat_tests) in
    let b : band ≡ (max low r0 - r0) / h = eb ∙ rw due refl in
    let m : (max low r0 - r0) / h < k + 1 = (div-lt_iff_lt-mul pos).1 (omega arith) in
    let g : nat_lt (r0 + k * h) end ≡ true = grind (arith, nat_tests) in
    numbers ((max low r0 - r0) / h) k m (and_true_false _ (rw (sym b) (rw g at nr))) (rw (sym b) nb)

band_selected : (a b : Bool) (x n : ℕ) → a ≡ true → cond (a && b) x n ≡ cond b x n
band_selected a b x n e = rw e refl

first_false : (a b : Bool) → (a || b) ≡ false → a ≡ false
first_false true b h = h
first_false false b h = refl

outside : (b i : Bool) → (b ≡ true → i ≡ true) → (i ≡ true → false ≡ true) → b ≡ false
outside true i f g = sym (g (f refl))
outside false i f g = refl

-- what is not in the box isn't reached
pub beside : (b i : Bool) → (b ≡ true → i ≡ true) → (i ≡ true → false ≡ true) → b ≡ false
beside b i law h = outside b i law h

module _ (pens : PenSet) (ss : List Segment) (areas : List Area) (page : Page) (dots : Dots) (r0 h bands : ℕ) (reaches : Reaches)
    (law : (t : Segment) (r c : ℕ) → reaches t page dots r c ≡ true → in_box t page dots r c ≡ true) where
  abbrev band : ℕ → ℕ
  band = band_of pens ss areas page dots r0 h bands

  -- what a slot reaches is in its rows
  in_slot_rows : (j row column : ℕ) → row < rows_of page dots
      → reaches_with reaches (stroke_at ss j) (area_at ss areas j) page dots row column ≡ true
      → (first_row_at ss areas page dots j ≤ row) × (row < end_row_at ss areas page dots j)
  in_slot_rows j row column on_page e = elim (cases_Bool (reaches (stroke_at ss j) page dots row column)) [
    | inl t ↦ own_rows (stroke_at ss j) page dots (area_at ss areas j).strokes row column on_page (law (stroke_at ss j) row column t)
    | inr f ↦ filled_rows (stroke_at ss j) (area_at ss areas j) page dots row column on_page (rw f at e)
  ]

  -- a slot that neither goes on nor begins in band k is not reached there
  pub quiet : (k j first : ℕ) → 0 < h → first ≡ r0 + k * h
      → runs band (goes_on ss areas page dots r0 h) k j ≡ false → begins band k j ≡ false
      → (r c : ℕ) → r < h → first + r < rows_of page dots → has_pen pens (stroke_at ss j).pen ≡ true
      → reaches_with reaches (stroke_at ss j) (area_at ss areas j) page dots (first + r) c ≡ false
  quiet k j first pos e nr nb r c rh in_ sel =
      outside (reaches_with reaches (stroke_at ss j) (area_at ss areas j) page dots (first + r) c)
      (reaches_with reaches (stroke_at ss j) (area_at ss areas j) page dots (first + r) c) (λ b. b) (λ b.
      let x = in_slot_rows j (first + r) c in_ b in
      let f = x.0 in
      let t = x.1 in
      unreached (first_row_at ss areas page dots j) (end_row_at ss areas page dots j) r0 h bands (band j) k r pos
      (band_selected (has_pen pens (stroke_at ss j).pen) _ _ bands sel) nr nb rh (omega (arith, f, e)) (omega (arith, t, e)))

  -- so its stroke does not reach it, and it does not show it
  pub quiet_stroke : (k j first : ℕ) → 0 < h → first ≡ r0 + k * h
      → runs band (goes_on ss areas page dots r0 h) k j ≡ false → begins band k j ≡ false
      → (r c : ℕ) → r < h → first + r < rows_of page dots → has_pen pens (stroke_at ss j).pen ≡ true
      → reaches (stroke_at ss j) page dots (first + r) c ≡ false
  quiet_stroke k j first pos e nr nb r c rh in_ sel =
      first_false (reaches (stroke_at ss j) page dots (first + r) c) _ (quiet k j first pos e nr nb r c rh in_ sel)

  pub quiet_slot : (k j first : ℕ) → 0 < h → first ≡ r0 + k * h
      → runs band (goes_on ss areas page dots r0 h) k j ≡ false → begins band k j ≡ false
      → (r c : ℕ) → r < h → first + r < rows_of page dots → shows_at reaches pens ss areas page dots j (first + r) c ≡ false
  quiet_slot k j first pos e nr nb r c rh in_ = hidden _ _ (λ sel. quiet k j first pos e nr nb r c rh in_ sel)

  -- a slot whose stroke is to be painted is selected
  pub due_selected : (p : ℕ) → band p < bands → has_pen pens (stroke_at ss p).pen ≡ true
  due_selected p lt = elim (cases_Bool (has_pen pens (stroke_at ss p).pen)) [
    | inl e ↦ e
    | inr e ↦ (let b : band p ≡ bands = rw e refl in absurd (omega (arith, b)))
  ]

pub slot_is : (xs : List Segment) (i : ℕ) (t : Segment) → i < length xs → t ≡ get_or xs i t → get_or xs i nobody ≡ t
slot_is [] i t h e = absurd (omega (arith, h))
slot_is (x ∷ xs) zero t h e = sym e
slot_is (x ∷ xs) (suc i) t h e = slot_is xs i t (omega (arith, h)) e

pub goes_is : (first r0 k h e f : ℕ) → first ≡ r0 + k * h → e ≡ f → nat_lt (first + h) e ≡ nat_lt (r0 + (k + 1) * h) f
goes_is first r0 k h e f a b = let z : first + h ≡ r0 + (k + 1) * h = omega (arith, a) in rw (z, b) refl

pub take_whole : (xs : List Segment) → take (length xs) xs ≡ xs
take_whole [] = refl
take_whole (x ∷ xs) = ap (λ (ys : List Segment). x ∷ ys) (take_whole xs)

-- what the painting of a stroke leaves, said of an equal stroke and an equal test
pub painted_as : (f f' : Segment → Page → Dots → ℕ → ℕ → Bool) → f ≡ f' → (t t' : Segment) → t ≡ t' → (page : Page) (dots : Dots) (first rows columns rows' columns' : ℕ) → rows ≡ rows' → columns ≡ columns' → (m : ℕ) (old new : ℕ → ℕ → ℕ)
    → ((r k : ℕ) → r < rows → k < columns → new r k ≡ cond (f t page dots (first + r) k) m (old r k))
    → (r k : ℕ) → r < rows' → k < columns' → new r k ≡ cond (f' t' page dots (first + r) k) m (old r k)
painted_as f f' e t t' z page dots first rows columns rows' columns' er ec m old new h r k u v = rw (e, z) at (h r k (omega (arith, u, er)) (omega (arith, v, ec)))

pub line_as : (f f' : Segment → Page → Dots → ℕ → ℕ → Bool) → f ≡ f' → (t : Segment) (page : Page) (dots : Dots) (row from n place : ℕ) (cells cells' : List ℕ)
    → ((i : ℕ) → i < length cells → get_or cells' i 0 ≡ cond (f t page dots row (from + i)) place (get_or cells i 0)) → n ≡ length cells
    → (i : ℕ) → i < n → get_or cells' i 0 ≡ cond (f' t page dots row (from + i)) place (get_or cells i 0)
line_as f f' e t page dots row from n place cells cells' h z i u = rw e at (h i (omega (arith, u, z)))

pub told : (f f' : Segment → Page → Dots → ℕ → ℕ → Bool) → f ≡ f' → (t : Segment) (page : Page) (dots : Dots) (r c : ℕ) → f t page dots r c ≡ false → f' t page dots r c ≡ false
told f f' e t page dots r c h = rw e at h
