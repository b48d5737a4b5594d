-- Rows of numbers that are bits are rows of bits.
use Rattle.std.proofs.Common.{◌≡◌, ℕ, zero, suc, ◌-◌, ◌+◌, ◌*◌, ◌<◌, Bool, true, false, cond, nat_eq, List, length, get_or, drop, map, refl, sym, ap, ◌∙◌, arith, inl, inr}
use Rattle.std.proofs.lemmas.Bool.{cases_lt}
use Rattle.std.proofs.lemmas.Bool.Decides.{nat_tests}
use Rattle.std.proofs.lemmas.Grind.{same_number_lists}
use Rattle.std.proofs.lemmas.List.{get_or-drop, get_or_past}
use Rattle.std.proofs.lemmas.List.FromFn.{get_or-map-range_with_len, length-map-range_with_len}
use Rattle.std.proofs.Math.ListN.{get_or-map}
use Rattle.plot_page.specs.Segments.{Segment}
use Rattle.areas.specs.Shapes.{ShapeList}
use Rattle.plot_page.specs.Pens.{has_pen}
use Rattle.plot_page.specs.declared.page.Page.{Page}
use Rattle.plot_page.specs.declared.dots.Dots.{Dots}
use Rattle.plot_page.specs.declared.pens.PenSet.{PenSet}
use Rattle.plot_page.specs.Resolutions.{columns_of}
use Rattle.stroke_raster.specs.ShownShapes.{last_at, nobody, row_of_shapes, shown_at, shows_at, stroke_at}
use Rattle.bit_rows.specs.Bits as bits
use Rattle.picture_out.specs.declared.form.Form.TheVariants.{Pbm}
use Rattle.png.specs.declared.header.Depth.TheVariants.{One}
use Rattle.png.specs.Packing as numbered
use Rattle.rows.specs.Pictures.{Reach, row_of_list}
use Rattle.rows.specs.Palettes.{number_of, numbers_bytes, numbers_row}
use Rattle.rows.specs.Layouts.{AreBits}
use Rattle.rows.proofs.Numbered.{both, is_chosen, last_passes}

-- a byte of samples that are bits
byte_is : (samples cells : List ℕ) → ((i : ℕ) → get_or samples i 0 ≡ bits.bit_of cells i) → numbered.byte_of One samples ≡ bits.byte_of cells
byte_is samples cells h = rw (h 0, h 1, h 2, h 3, h 4, h 5, h 6, h 7) refl

-- bytes of samples that are bits
row_is : (n : ℕ) (samples cells : List ℕ) → n ≡ bits.bytes_for (length cells) → ((i : ℕ) → get_or samples i 0 ≡ bits.bit_of cells i) → numbered.packed_samples One n samples ≡ bits.packed cells
row_is n samples cells size h =
    let f = λ (k : ℕ). numbered.byte_of One (drop (8 * k) samples) in
    let g = λ (k : ℕ). bits.byte_of (drop (8 * k) cells) in
    same_number_lists (numbered.packed_samples One n samples) (bits.packed cells)
    (length-map-range_with_len f 0 n ∙ size ∙ sym (length-map-range_with_len g 0 (bits.bytes_for (length cells))))
    (λ k lt.
    let inside : k < n = omega (arith, lt, length-map-range_with_len f 0 n) in
    get_or-map-range_with_len f 0 n k k 0 inside (omega arith)
    ∙ byte_is (drop (8 * k) samples) (drop (8 * k) cells) (λ i. get_or-drop (8 * k) samples i 0 ∙ h (8 * k + i) ∙ ap (λ (cell : ℕ). cond (nat_eq cell 0) 0 1) (sym (get_or-drop (8 * k) cells i 0)))
    ∙ sym (get_or-map-range_with_len g 0 (bits.bytes_for (length cells)) k k 0 (omega (arith, inside, size)) (omega arith)))

-- the number of a pixel is 1 if it shows a stroke
number_is : (pens : PenSet) (ss : List Segment) (numbers : List ℕ) (test : ℕ → Bool) (cell : ℕ) → AreBits pens ss numbers → ((j : ℕ) → test j ≡ true → has_pen pens (stroke_at ss j).pen ≡ true)
    → last_at test (length ss) ≡ cell → number_of numbers cell ≡ cond (nat_eq cell 0) 0 1
number_is pens ss numbers test zero are chosen is = refl
number_is pens ss numbers test (suc k) are chosen is =
    let h = last_passes test (length ss) k is in
    let some : nat_eq (suc k) 0 ≡ false = grind (arith, nat_tests) in
    let same : suc k - 1 ≡ k = omega arith in
    ap (λ (b : Bool). cond b 0 (get_or numbers (suc k - 1) 0)) some
    ∙ ap (λ (j : ℕ). get_or numbers j 0) same
    ∙ are k nobody h.0 (is_chosen pens ss test k chosen h.1)
    ∙ sym (ap (λ (b : Bool). cond b 0 1) some)

-- so a row of numbers is the row of a PBM
pub row_of_bits : (pens : PenSet) (ss : ShapeList) (page : Page) (dots : Dots) (numbers : List ℕ) (reaches : Reach) (row : ℕ) → AreBits pens ss.strokes numbers
    → numbers_row One numbers pens ss page dots reaches row ≡ row_of_list Pbm reaches pens ss page dots row
row_of_bits pens ss page dots numbers reaches row are =
    let columns = columns_of page dots in
    let cells : List ℕ = row_of_shapes reaches pens ss.strokes ss.areas page dots row in
    let size : length cells ≡ columns = length-map-range_with_len (λ (k : ℕ). shown_at (shows_at reaches pens ss.strokes ss.areas page dots) (length ss.strokes) row k) 0 columns in
    row_is (numbers_bytes One columns) (map (number_of numbers) cells) cells (omega (arith, size))
    (λ i. get_or-map (number_of numbers) cells i 0 ∙ elim (cases_lt i (length cells)) as (λ _. number_of numbers (get_or cells i 0) ≡ bits.bit_of cells i) [
      | inl lt ↦ number_is pens ss.strokes numbers (λ (j : ℕ). shows_at reaches pens ss.strokes ss.areas page dots j row i) (get_or cells i 0) are (λ s t. both _ _ t)
          (sym (get_or-map-range_with_len (λ (j : ℕ). shown_at (shows_at reaches pens ss.strokes ss.areas page dots) (length ss.strokes) row j) 0 columns i i 0 (omega (arith, lt, size)) (omega arith)))
      | inr le ↦ (let none : get_or cells i 0 ≡ 0 = get_or_past cells i 0 le in rw none refl)
    ])
