-- The sums of a pixel, a row at a time.
use Rattle.std.proofs.Common.{◌≡◌, ℕ, ◌+◌, ◌*◌, ◌<◌, ◌≤◌, List, [], length, get_or, map, ap, sym, ◌∙◌, arith, refl}
use Rattle.std.specs.List.{range_with_len}
use Rattle.std.proofs.Math.Nat.{mul-le-mul_left}
use Rattle.std.proofs.lemmas.List.{ext_get_or}
use Rattle.std.proofs.lemmas.List.FromFn.{get_or-map-range_with_len, length-map-range_with_len}
use Rattle.picture_out.specs.declared.inks.Ink.{Ink}
use Rattle.picture_out.specs.Inks.{cell_colour}
use Rattle.smoothing.specs.Smoothings.{Colours, channel, mean, smoothed, total}
use Rattle.smoothing.specs.Cells.{colours_of_cells}
use Rattle.smoothing.specs.Totals.{AreWhite, AtLeast, AtMost, HasCells, HasRows, HaveRows, IsFilled, Replaces, cell_channel, means}
use Rattle.smoothing.specs.declared.sums.Sums.{Sums}
use Rattle.smoothing.proofs.Totals.{total_more, total_white}

times_more : (n k : ℕ) → n * (k + 1) ≡ n * k + n
times_more n k = omega arith

filled_none : (n sum : ℕ) → sum ≡ 255 * (n * n) → IsFilled n 0 sum 0
filled_none n sum is =
    let none : n * 0 ≡ 0 = omega arith in
    (omega (arith, is, none), omega (arith, is))

-- no row is there yet
pub rows_none : (n : ℕ) (finer : Colours) (row column : ℕ) (sums : Sums) → AreWhite n sums → HasRows n finer row column 0 sums
unfolding total
rows_none n finer row column sums white = record {
  red = filled_none n sums.red white.red;
  green = filled_none n sums.green white.green;
  blue = filled_none n sums.blue white.blue;
}

filled_more : (n k mid new before one : ℕ) → IsFilled n k mid before → Replaces n mid new one → IsFilled n (k + 1) new (before + one)
filled_more n k mid new before one filled replaced =
    let more = times_more n k in (
      omega (arith, filled.0, replaced.0, more),
      omega (arith, filled.1, replaced.1),
    )

-- the cells of one row more
pub row_more : (inks : List Ink) (rows : List (List ℕ)) (n i k column : ℕ) (mid new : Sums) → HasRows n (colours_of_cells inks rows) i column k mid
    → HasCells inks (get_or rows (n * i + k) []) (n * column) n mid new → HasRows n (colours_of_cells inks rows) i column (k + 1) new
row_more inks rows n i k column mid new has cells =
    let finer = colours_of_cells inks rows in
    let value : ℕ → ℕ → ℕ = λ c r. total (channel finer c r) (n * column) n in
    let at : (c new : ℕ) (mid : ℕ) → IsFilled n k mid (total (value c) (n * i) k) → Replaces n mid new (value c (n * i + k)) → IsFilled n (k + 1) new (total (value c) (n * i) (k + 1)) =
    λ c new mid filled replaced.
    let next = filled_more n k mid new (total (value c) (n * i) k) (value c (n * i + k)) filled replaced in
    let more = total_more (value c) (n * i) k in
    (omega (arith, next.0, more), next.1) in
    record {
      red = at 0 new.red mid.red has.red cells.red;
      green = at 1 new.green mid.green has.green cells.green;
      blue = at 2 new.blue mid.blue has.blue cells.blue;
    }

-- cells that are 0 are white, and change nothing
pub white_cells : (inks : List Ink) (cells : List ℕ) (first n : ℕ) (sums : Sums) → ((k : ℕ) → k < n → get_or cells (first + k) 0 ≡ 0) → HasCells inks cells first n sums sums
white_cells inks cells first n sums blank =
    let white : (c : ℕ) → c < 3 → (k : ℕ) → k < n → cell_channel inks cells c (first + k) ≡ get_or (cell_colour inks 0) c 0 =
    λ c lt k lt'. ap (λ (cell : ℕ). get_or (cell_colour inks cell) c 0) (blank k lt') in
    record {
      red = (omega (arith, total_white (cell_channel inks cells 0) first n (white 0 (omega arith))), omega arith);
      green = (omega (arith, total_white (cell_channel inks cells 1) first n (white 1 (omega arith))), omega arith);
      blue = (omega (arith, total_white (cell_channel inks cells 2) first n (white 2 (omega arith))), omega arith);
    }

-- so are those of a pixel that lies between two columns, if the cells between these are 0
pub white_between : (inks : List Ink) (cells : List ℕ) (n k from end : ℕ) (sums : Sums) → ((p : ℕ) → from ≤ p → p < end → get_or cells p 0 ≡ 0) → from ≤ n * k → n * (k + 1) ≤ end
    → HasCells inks cells (n * k) n sums sums
white_between inks cells n k from end sums blank low high =
    white_cells inks cells (n * k) n sums (λ j lt. blank (n * k + j) (omega (arith, low)) (omega (arith, high, lt, times_more n k)))

-- a white row is left
filled_enough : (n k sum values : ℕ) → IsFilled n k sum values → k < n → 255 * n ≤ sum
filled_enough n k sum values filled lt =
    let most : n * (k + 1) ≤ n * n = mul-le-mul_left n (omega (arith, lt)) in
    omega (arith, filled.0, most, times_more n k)

pub rows_enough : (n : ℕ) (finer : Colours) (row column k : ℕ) (sums : Sums) → HasRows n finer row column k sums → k < n → AtLeast (255 * n) sums
rows_enough n finer row column k sums has lt = record {
  red = filled_enough n k sums.red _ has.red lt;
  green = filled_enough n k sums.green _ has.green lt;
  blue = filled_enough n k sums.blue _ has.blue lt;
}

-- all rows are there
filled_all : (n sum values : ℕ) → IsFilled n n sum values → sum ≡ values
filled_all n sum values filled = omega (arith, filled.0)

pub rows_most : (n : ℕ) (finer : Colours) (row column : ℕ) (sums : Sums) → HasRows n finer row column n sums → AtMost (255 * (n * n)) sums
rows_most n finer row column sums has = record { red = has.red.1; green = has.green.1; blue = has.blue.1 }

pub means_are : (n : ℕ) (finer : Colours) (row column : ℕ) (sums : Sums) → HasRows n finer row column n sums → means n sums ≡ smoothed n finer row column
means_are n finer row column sums has =
    let red = ap (mean n) (filled_all n sums.red _ has.red) in
    let green = ap (mean n) (filled_all n sums.green _ has.green) in
    let blue = ap (mean n) (filled_all n sums.blue _ has.blue) in
    rw (red, green, blue) refl

-- a row of means is the row of smoothed pixels
pub pixels_are : (n : ℕ) (finer : Colours) (row : ℕ) (sums : List Sums) (pixels : List (List ℕ)) → length pixels ≡ length sums → HaveRows n finer row n sums
    → ((k : ℕ) (d : Sums) → k < length sums → get_or pixels k [] ≡ means n (get_or sums k d)) → pixels ≡ map (smoothed n finer row) (range_with_len 0 (length sums))
pixels_are n finer row sums pixels size has made =
    let none : Sums = record { red = 0; green = 0; blue = 0 } in
    ext_get_or [] pixels (map (smoothed n finer row) (range_with_len 0 (length sums))) (size ∙ sym (length-map-range_with_len (smoothed n finer row) 0 (length sums)))
    (λ k lt.
    let inside : k < length sums = omega (arith, lt, size) in
    made k none inside ∙ means_are n finer row k (get_or sums k none) (has k none inside)
    ∙ sym (get_or-map-range_with_len (smoothed n finer row) 0 (length sums) k k [] inside (omega arith)))
