-- The rows of a band of finer rows, smoothed, are those of the picture.
use Rattle.std.proofs.Common.{◌≡◌, ℕ, zero, suc, ◌+◌, ◌-◌, ◌*◌, ◌<◌, ◌≤◌, true, false, cond, nat_lt, List, [], ◌++◌, All, length, append_assoc, append-nil, length-append, subst, fold, get_or, map, refl, sym, ap, ap₂, ◌∙◌, arith, inl, inr}
use Rattle.std.specs.Prelude.{min}
use Rattle.std.specs.List.{flat_map, range_with_len}
use Rattle.std.proofs.Math.Nat.{mul-le-mul_left}
use Rattle.std.proofs.lemmas.Bool.{cases_lt}
use Rattle.std.proofs.lemmas.Bool.Decides.{nat_tests}
use Rattle.std.proofs.Math.ListN.{get_or-append}
use Rattle.std.proofs.lemmas.List.{ext_get_or, get_or-append_right, get_or_past}
use Rattle.std.proofs.lemmas.List.FromFn.{get_or-map-range_with_len, length-map-range_with_len}
use Rattle.std.proofs.lemmas.List.Sums.{fold-append}
use Rattle.plot_page.specs.Resolutions.{rows_of}
use Rattle.plot_page.specs.declared.dots.Dots.{Dots}
use Rattle.plot_page.specs.declared.dots.TheConstants.{MOST_PIXELS_A_SIDE}
use Rattle.plot_page.specs.declared.page.Page.{Page}
use Rattle.picture_out.specs.declared.inks.Ink.{Ink}
use Rattle.picture_out.specs.Inks.{cell_colour}
use Rattle.stroke_raster.specs.Painting.{Painting, Moves, painted_rows, rows_next}
use Rattle.stroke_raster.specs.ShownShapes.{row_of_shapes}
use Rattle.smoothing.specs.Smoothings.{Colours, channel, mean, mean_channel, smoothed, total}
use Rattle.smoothing.specs.Cells.{colours_of_cells}
use Rattle.smoothing.proofs.Totals.{total_same}
use Rattle.png.specs.declared.header.Layout.{Layout}
use Rattle.png.specs.declared.header.Layout.TheVariants.{Indexed, Grey, Rgb}
use Rattle.rows.specs.Inks.{inks_held}
use Rattle.rows.specs.PixelRows.{layout_bytes, sample_count}
use Rattle.rows.specs.declared.stroke_inks.StrokeInks.{StrokeInks}
use Rattle.rows.specs.Palettes.{with_colour}
use Rattle.rows.specs.Pictures.{Reach, colours_at, finer, inks_of}
use Rattle.rows.specs.Progress.{IsSmoothing, SmoothPainting, painting_shapes, row_pixels}
use Rattle.rows.proofs.Smoothed.{finer_row, finer_rows}

-- a cell of some rows, or 0 past the last of them
pub cell_of_rows : (shows : ℕ → List ℕ) (first n rows r column : ℕ) → (r < n → first + r < rows) → (n ≤ r → rows ≤ first + r)
    → get_or (get_or (map shows (range_with_len first n)) r []) column 0 ≡ cond (nat_lt (first + r) rows) (get_or (shows (first + r)) column 0) 0
cell_of_rows shows first n rows r column within after = elim (cases_lt r n) as (λ _. get_or (get_or (map shows (range_with_len first n)) r []) column 0 ≡ cond (nat_lt (first + r) rows) (get_or (shows (first + r)) column 0) 0) [
  | inl lt ↦ (let there : nat_lt (first + r) rows ≡ true = (let left = within lt in grind (arith, nat_tests)) in
      let row : get_or (map shows (range_with_len first n)) r [] ≡ shows (first + r) = get_or-map-range_with_len shows first n r (first + r) [] lt refl in
      rw (row, there) refl)
  | inr le ↦ (let gone : nat_lt (first + r) rows ≡ false = (let none = after le in grind (arith, nat_tests)) in
      let row : get_or (map shows (range_with_len first n)) r [] ≡ [] = get_or_past (map shows (range_with_len first n)) r [] (omega (arith, le, length-map-range_with_len shows first n)) in
      let paper : get_or {A = ℕ} [] column 0 ≡ 0 = get_or_past [] column 0 (omega arith) in
      rw (row, gone) paper)
]

-- the colours of a band are those of the picture, also past the picture's last row
band_colour : (reaches : Reach) (p : Painting) (r column : ℕ) → r < p.band_rows → p.end ≤ rows_of p.page p.dots → (p.end ≤ p.next + r → rows_of p.page p.dots ≤ p.next + r)
    → colours_of_cells (inks_of p.strokes) (painted_rows reaches p p.next (rows_next p)) r column ≡ colours_at reaches p.pens (painting_shapes p) p.page p.dots (p.next + r) column
band_colour reaches p r column lt within after =
    ap (cell_colour (inks_of p.strokes)) (cell_of_rows (row_of_shapes reaches p.pens p.strokes p.areas p.page p.dots) p.next (rows_next p) (rows_of p.page p.dots) r column
    (λ inside. omega (arith, inside, within)) (λ past. after (omega (arith, past, lt))))

-- smoothed pixels of colours that are the same are the same
pub smoothed_same : (n : ℕ) (f g : Colours) (row other column : ℕ) → ((j c : ℕ) → j < n → f (n * row + j) c ≡ g (n * other + j) c) → smoothed n f row column ≡ smoothed n g other column
smoothed_same n f g row other column same =
    let one : (c : ℕ) → mean_channel n f row column c ≡ mean_channel n g other column c = λ c.
    ap (mean n) (total_same (λ r. total (channel f c r) (n * column) n) (λ r. total (channel g c r) (n * column) n) (n * row) (n * other) n (λ j lt.
    total_same (channel f c (n * row + j)) (channel g c (n * other + j)) (n * column) (n * column) n (λ i _.
    ap (λ (z : List ℕ). get_or z c 0) (same j (n * column + i) lt)))) in
    rw (one 0, one 1, one 2) refl

-- a row of pixels of a band is that of the picture
pub band_pixels : (reaches : Reach) (p : Painting) (times rows at height k columns : ℕ) → IsSmoothing p times rows at height → at < rows → k < min height (rows - at)
    → map (smoothed times (colours_of_cells (inks_of p.strokes) (painted_rows reaches p p.next (rows_next p))) k) (range_with_len 0 columns)
    ≡ map (smoothed times (colours_at reaches p.pens (painting_shapes p) p.page p.dots) (at + k)) (range_with_len 0 columns)
band_pixels reaches p times rows at height k columns made left lt =
    let finer = colours_of_cells (inks_of p.strokes) (painted_rows reaches p p.next (rows_next p)) in
    let all = colours_at reaches p.pens (painting_shapes p) p.page p.dots in
    let low : k + 1 ≤ height = omega (arith, lt) in
    let most : times * (k + 1) ≤ times * height = mul-le-mul_left times low in
    let more : times * (k + 1) ≡ times * k + times = omega arith in
    let parts : times * (at + k) ≡ times * at + times * k = omega arith in
    let begins : p.next ≡ times * at = made.next left in
    let last : at + k + 1 ≤ rows = omega (arith, lt, left) in
    let needed : times * (at + k + 1) ≤ times * rows = mul-le-mul_left times last in
    let further : times * (at + k + 1) ≡ times * (at + k) + times = omega arith in
    let same : (j c : ℕ) → j < times → finer (times * k + j) c ≡ all (times * (at + k) + j) c = λ j c lt'.
    let inside : times * k + j < p.band_rows = omega (arith, lt', most, more, made.band) in
    let there : p.next + (times * k + j) ≡ times * (at + k) + j = omega (arith, begins, parts) in
    band_colour reaches p (times * k + j) c inside made.on_page (λ past. omega (arith, past, there, lt', needed, further, made.enough)) ∙ ap (λ (r : ℕ). all r c) there in
    ext_get_or [] (map (smoothed times finer k) (range_with_len 0 columns)) (map (smoothed times all (at + k)) (range_with_len 0 columns))
    (length-map-range_with_len (smoothed times finer k) 0 columns ∙ sym (length-map-range_with_len (smoothed times all (at + k)) 0 columns))
    (λ i lt'.
    let inside : i < columns = omega (arith, lt', length-map-range_with_len (smoothed times finer k) 0 columns) in
    get_or-map-range_with_len (smoothed times finer k) 0 columns i i [] inside (omega arith)
    ∙ smoothed_same times finer all k (at + k) i same
    ∙ sym (get_or-map-range_with_len (smoothed times all (at + k)) 0 columns i i [] inside (omega arith)))

-- after a band the painting is that of the rows after it
pub is_smoothing_next : (p q : Painting) (times rows at height : ℕ) → IsSmoothing p times rows at height → at < rows → Moves p q → IsSmoothing q times rows (at + min height (rows - at)) height
is_smoothing_next p q times rows at height made left moved =
    let n = rows_of p.page p.dots in
    let same : rows_of q.page q.dots ≡ n = ap₂ rows_of moved.page moved.dots in
    let begins : p.next ≡ times * at = made.next left in
    record {
      least = made.least;
      most = made.most;
      some = made.some;
      few = made.few;
      tall = made.tall;
      within = omega (arith, left);
      band = moved.band_rows ∙ made.band;
      finer = λ row lt. omega (arith, made.finer row lt, moved.end);
      enough = omega (arith, made.enough, same, moved.end);
      on_page = omega (arith, made.on_page, same, moved.end);
      next = λ more.
          let whole : min height (rows - at) ≡ height = omega (arith, more) in
          let parts : times * (at + height) ≡ times * at + times * height = omega arith in
          let there : times * (at + min height (rows - at)) ≡ times * (at + height) = ap (λ (k : ℕ). times * (at + k)) whole in
          let last : times * (at + height) < p.end = made.finer (at + height) (omega (arith, more, whole)) in
          omega (arith, moved.next, begins, parts, there, last, made.band);
    }

-- bands that are begun: the painter of all finer rows then stops where no more are needed
pub smoothing_begins : (p : Painting) (n first end height : ℕ) (page : Page) (dots : Dots) → 1 ≤ n → n ≤ 8 → n * dots.resolution ≤ 1200 → 1 ≤ height → height ≤ 4096 → rows_of page dots ≤ MOST_PIXELS_A_SIDE
    → p.page ≡ page → p.dots ≡ finer n dots → p.end ≡ rows_of page (finer n dots) → p.next ≡ min (n * first) (rows_of page (finer n dots)) → p.band_rows ≡ n * height → first ≤ end → end ≤ rows_of page dots
    → IsSmoothing (record p { end = cond (nat_lt end (rows_of page dots)) (n * end) p.end }) n end first height
smoothing_begins p n first end height page dots some most fine low high tall of_page of_dots ends begins band from to =
    let rows = rows_of page dots in
    let all = rows_of page (finer n dots) in
    let same : rows_of p.page p.dots ≡ all = ap₂ rows_of of_page of_dots in
    let each : (row : ℕ) → row < rows → n * row < all = λ row lt. omega (arith, finer_rows n page dots some fine, finer_row n page.height dots.resolution row some lt) in
    elim (nat_lt end rows) as (λ b. nat_lt end rows ≡ b → IsSmoothing (record p { end = cond b (n * end) p.end }) n end first height) [
      | true ↦ λ e.
          let left : end < rows = grind (arith, nat_tests) in
          let before : (row : ℕ) → row < end → n * row < n * end = λ row lt. (let more : n * (row + 1) ≤ n * end = mul-le-mul_left n (omega (arith, lt)) in let next : n * (row + 1) ≡ n * row + n = omega arith in omega (arith, more, next, some)) in
          record {
            least = some;
            most = most;
            some = low;
            few = high;
            tall = omega (arith, to, tall);
            within = from;
            band = band;
            finer = before;
            enough = omega arith;
            on_page = omega (arith, each end left, same);
            next = λ lt. omega (arith, begins, before first lt, each end left);
          }
      | false ↦ λ e.
          let past : rows ≤ end = grind (arith, nat_tests) in
          record {
            least = some;
            most = most;
            some = low;
            few = high;
            tall = omega (arith, to, tall);
            within = from;
            band = band;
            finer = λ row lt. omega (arith, each row (omega (arith, lt, to)), ends);
            enough = omega (arith, ends, same);
            on_page = omega (arith, ends, same);
            next = λ lt. omega (arith, begins, each first (omega (arith, lt, to)));
          }
    ] refl

-- lists of equal items, joined
flat_same : {A : Type 0} (f g : ℕ → List A) (first other n : ℕ) → ((k : ℕ) → k < n → f (first + k) ≡ g (other + k)) → flat_map f (range_with_len first n) ≡ flat_map g (range_with_len other n)
flat_same f g first other zero same = refl
flat_same f g first other (suc n) same =
    let here : first + 0 ≡ first = omega arith in
    let there : other + 0 ≡ other = omega arith in
    let rest = flat_same f g (first + 1) (other + 1) n (λ k lt.
    let one : first + 1 + k ≡ first + suc k = omega arith in
    let two : other + 1 + k ≡ other + suc k = omega arith in
    ap f one ∙ same (suc k) (omega (arith, lt)) ∙ sym (ap g two)) in
    ap₂ (λ x xs. x ++ xs) (sym (ap f here) ∙ same 0 (omega arith) ∙ ap g there) rest

-- those of some numbers, and of those after them
pub flat_join : {A : Type 0} (f : ℕ → List A) (first m n : ℕ) → flat_map f (range_with_len first (m + n)) ≡ flat_map f (range_with_len first m) ++ flat_map f (range_with_len (first + m) n)
flat_join f first zero n =
    let all : 0 + n ≡ n = omega arith in
    let here : first + 0 ≡ first = omega arith in
    ap (λ (k : ℕ). flat_map f (range_with_len first k)) all ∙ sym (ap (λ (k : ℕ). flat_map f (range_with_len k n)) here)
flat_join f first (suc m) n =
    let all : suc m + n ≡ suc (m + n) = omega arith in
    let there : first + 1 + m ≡ first + suc m = omega arith in
    let front = flat_map f (range_with_len (first + 1) m) in
    ap (λ (k : ℕ). flat_map f (range_with_len first k)) all
    ∙ ap (λ xs. f first ++ xs) (flat_join f (first + 1) m n ∙ ap (λ (k : ℕ). front ++ flat_map f (range_with_len k n)) there)
    ∙ sym (append_assoc (f first) front (flat_map f (range_with_len (first + suc m) n)))

-- the colours of one row more
pub colours_more : (start now next : List (List ℕ)) (f : ℕ → List (List ℕ)) (i : ℕ) (pixels : List (List ℕ)) → now ≡ fold with_colour start (flat_map f (range_with_len 0 i)) → next ≡ fold with_colour now pixels → pixels ≡ f i
    → next ≡ fold with_colour start (flat_map f (range_with_len 0 (i + 1)))
colours_more start now next f i pixels before after are =
    let front = flat_map f (range_with_len 0 i) in
    let here : 0 + i ≡ i = omega arith in
    let last : flat_map f (range_with_len (0 + i) 1) ≡ f i = append-nil (f (0 + i)) ∙ ap f here in
    after ∙ ap₂ (λ (a b : List (List ℕ)). fold with_colour a b) before are
    ∙ sym (fold-append with_colour start front (f i))
    ∙ sym (ap (fold with_colour start) (flat_join f 0 i 1 ∙ ap (λ (xs : List (List ℕ)). front ++ xs) last))

-- those of some rows, and of those after them
pub colours_join : (start now next : List (List ℕ)) (f : ℕ → List (List ℕ)) (first at end : ℕ) → first ≤ at → at ≤ end → now ≡ fold with_colour start (flat_map f (range_with_len first (at - first)))
    → next ≡ fold with_colour now (flat_map f (range_with_len at (end - at))) → next ≡ fold with_colour start (flat_map f (range_with_len first (end - first)))
colours_join start now next f first at end from to before after =
    let front = flat_map f (range_with_len first (at - first)) in
    let back = flat_map f (range_with_len at (end - at)) in
    let parts : end - first ≡ (at - first) + (end - at) = omega arith in
    let there : first + (at - first) ≡ at = omega arith in
    let all : flat_map f (range_with_len first (end - first)) ≡ front ++ back =
    ap (λ (k : ℕ). flat_map f (range_with_len first k)) parts ∙ flat_join f first (at - first) (end - at) ∙ ap (λ (k : ℕ). front ++ flat_map f (range_with_len k (end - at))) there in
    after ∙ ap (λ (a : List (List ℕ)). fold with_colour a back) before ∙ sym (fold-append with_colour start front back) ∙ sym (ap (fold with_colour start) all)

-- the colours of all rows that are made of a band
pub colours_of_band : (b : SmoothPainting) (reaches : Reach) (n count : ℕ) (inks : List Ink) (cells start new : List (List ℕ)) → IsSmoothing b.painting b.times b.end b.next b.height → b.next < b.end
    → n ≡ b.times → inks ≡ inks_of b.painting.strokes → cells ≡ painted_rows reaches b.painting b.painting.next (rows_next b.painting) → count ≡ min b.height (b.end - b.next)
    → new ≡ fold with_colour start (flat_map (λ k. map (smoothed n (colours_of_cells inks cells) k) (range_with_len 0 b.columns)) (range_with_len 0 count))
    → new ≡ fold with_colour start (flat_map (row_pixels b reaches) (range_with_len b.next (b.next + count - b.next)))
colours_of_band b reaches n count inks cells start new made left times_are inks_are cells_are counted h =
    let row : ℕ → List Ink → List (List ℕ) → ℕ → List (List ℕ) = λ times rows_inks rows k. map (smoothed times (colours_of_cells rows_inks rows) k) (range_with_len 0 b.columns) in
    let moved : count ≡ b.next + count - b.next = omega arith in
    let same = flat_same (row n inks cells) (row_pixels b reaches) 0 b.next count (λ k lt.
    let here : 0 + k ≡ k = omega arith in
    ap (row n inks cells) here
    ∙ ap (λ (times : ℕ). row times inks cells k) times_are
    ∙ ap₂ (λ (i : List Ink) (z : List (List ℕ)). row b.times i z k) inks_are cells_are
    ∙ band_pixels reaches b.painting b.times b.end b.next b.height k b.columns made left (omega (arith, lt, counted))) in
    h ∙ ap (fold with_colour start) (same ∙ ap (λ (m : ℕ). flat_map (row_pixels b reaches) (range_with_len b.next m)) moved)

-- the bytes of smoothed pixels, by equal parts
pub smoothed_bytes_same : (layout layout' : Layout) (times times' : ℕ) (inks inks' : StrokeInks) (width width' : ℕ) (cells : List (List ℕ)) (i : ℕ) → layout ≡ layout' → times ≡ times' → inks ≡ inks' → width ≡ width'
    → layout_bytes layout (map (smoothed times (colours_of_cells (inks_held inks) cells) i) (range_with_len 0 width)) ≡ layout_bytes layout' (map (smoothed times' (colours_of_cells (inks_held inks') cells) i) (range_with_len 0 width'))
smoothed_bytes_same layout layout' times times' inks inks' width width' cells i el et ei ew = rw (el, et, ei, ew) refl

-- how many samples pixels have
pub count_few : (layout : Layout) (columns : ℕ) → sample_count layout columns ≤ 3 * columns
count_few (Indexed depth palette) columns = omega arith
count_few Grey columns = omega arith
count_few Rgb columns = omega arith

-- what all pixels of some rows have, those of one row have
pub all_of_row : {A : Type 0} (P : A → Type 0) (f : ℕ → List A) (first n row : ℕ) → All P (flat_map f (range_with_len first n)) → first ≤ row → row < first + n → All P (f row)
all_of_row P f first zero row all from to = absurd (omega (arith, from, to))
all_of_row P f first (suc n) row all from to =
    let rest = flat_map f (range_with_len (first + 1) n) in
    elim (cases_lt first row) as (λ _. All P (f row)) [
      | inl lt ↦ all_of_row P f (first + 1) n row
          (λ k d inside. subst P
          (let back : length (f first) + k - length (f first) ≡ k = omega arith in
          get_or-append_right (f first) rest (length (f first)) (length (f first) + k) d refl (omega arith) ∙ ap (λ (j : ℕ). get_or rest j d) back)
          (all (length (f first) + k) d (omega (arith, inside, length-append (f first) rest))))
          (omega (arith, lt)) (omega (arith, to))
      | inr le ↦ (let here : first ≡ row = omega (arith, le, from) in
          subst (λ (r : ℕ). All P (f r)) here
          (λ k d inside. subst P (get_or-append (f first) rest d k inside) (all k d (omega (arith, inside, length-append (f first) rest)))))
    ]
