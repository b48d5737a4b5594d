-- Cells with images, and their inks.
use Rattle.std.proofs.Common.{◌≡◌, ℕ, ◌+◌, ◌-◌, ◌^◌, ◌<◌, ◌≤◌, List, All, length, get_or, map, sym, ◌∙◌, arith, inl, inr}
use Rattle.std.specs.List.{range_with_len}
use Rattle.std.proofs.lemmas.Bool.{cases_lt}
use Rattle.std.proofs.lemmas.List.{ext_get_or, get_or_default, get_or_past}
use Rattle.std.proofs.lemmas.List.FromFn.{get_or-map-range_with_len, length-map-range_with_len}
use Rattle.plot_page.specs.Segments.{Segment}
use Rattle.plot_page.specs.declared.dots.Dots.{Dots}
use Rattle.plot_page.specs.declared.page.Page.{Page}
use Rattle.plot_page.specs.declared.stroke.TheConstants.{MOST_STROKES}
use Rattle.page_images.specs.PageImages.{ImageShape}
use Rattle.image_raster.specs.Cells.{AreCells, AreWith, cell_with_all}
use Rattle.picture_out.specs.Inks.{ink_at, paper}
use Rattle.rows.specs.ImageCells.{ink_with, inks_up_to, with_images}

-- how many inks there are
pub inks_count : (n : ℕ) (strokes : List Segment) → length (inks_up_to n strokes) ≡ n
unfolding inks_up_to
inks_count n strokes = length-map-range_with_len (ink_with strokes) 1 n

-- and which ones
pub ink_of_cell : (n k : ℕ) (strokes : List Segment) → 1 ≤ k → k ≤ n → ink_at (inks_up_to n strokes) k ≡ ink_with strokes k
unfolding inks_up_to
ink_of_cell n k strokes from to = get_or-map-range_with_len (ink_with strokes) 1 n (k - 1) k paper (omega (arith, from, to)) (omega (arith, from))

-- the cells that were painted
pub are_with : (images : List ImageShape) (page : Page) (dots : Dots) (row : ℕ) (old new : List ℕ) → AreWith images page dots row old new
    → new ≡ with_images images page dots row old
are_with images page dots row old new h =
    let f : ℕ → ℕ = λ column. cell_with_all images page dots row column (get_or old column 0) in
    ext_get_or 0 new (map f (range_with_len 0 (length old))) (h.as_many ∙ sym (length-map-range_with_len f 0 (length old)))
    (λ k lt.
    let inside : k < length old = omega (arith, lt, h.as_many) in
    h.cells k inside ∙ sym (get_or-map-range_with_len f 0 (length old) k k 0 inside (omega arith)))

pub with_images_size : (images : List ImageShape) (page : Page) (dots : Dots) (row : ℕ) (cells : List ℕ) → length (with_images images page dots row cells) ≡ length cells
with_images_size images page dots row cells =
    length-map-range_with_len (λ (column : ℕ). cell_with_all images page dots row column (get_or cells column 0)) 0 (length cells)

-- positions are cells
pub positions_are_cells : (cells : List ℕ) → All (λ cell. cell ≤ MOST_STROKES) cells → AreCells cells
positions_are_cells cells all k = elim (cases_lt k (length cells)) [
  | inl lt ↦ (let few = all k 0 lt in omega (arith, few))
  | inr past ↦ omega (arith, get_or_past cells k 0 past)
]

-- and cells are inks
pub cells_are_inked : (n : ℕ) (strokes : List Segment) (cells : List ℕ) → n ≡ 2 ^ 31 + 2 ^ 24 - 1 → AreCells cells → All (λ cell. cell ≤ length (inks_up_to n strokes)) cells
cells_are_inked n strokes cells is h k d lt =
    let here = h k in
    omega (arith, inks_count n strokes, is, here, get_or_default cells k d 0 lt)
