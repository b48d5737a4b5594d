-- How far rows and dots reach: past them an image shows nothing.
use Rattle.std.proofs.Common.{◌≡◌, ap, arith, ℕ, ◌+◌, ◌*◌, ◌≤◌, ◌<◌, Bool, true, false, ◌&&◌, nat_lt, ℤ, pos, negsuc, neg_ℤ, nat_abs, ◌*ℤ◌, ◌+ℤ◌, ◌-ℤ◌, ◌≤ℤ◌, ◌<ℤ◌, length, get_or, Option, None, option_map, refl, sym, if◌then◌else◌}
use Rattle.std.proofs.lemmas.Int.{ints}
use Rattle.std.proofs.lemmas.Bool.Decides.{nat_tests}
use Rattle.std.proofs.Math.Nat.{mul_comm}
use Rattle.exact.proofs.Ring.{mul-add_z, mul_comm_z}
use Rattle.exact.proofs.Rounding.{floor_is, le_scale, lt_scale, lt_unscale}
use Rattle.plot_page.specs.declared.colour.Colour.{Colour}
use Rattle.raster_graphics.specs.declared.image.Image.{Image}
use Rattle.raster_graphics.specs.Dots.{colour_in, colour_at, if_shown, shown_at}
use Rattle.raster_graphics.specs.Positions.{position_of}
use Rattle.raster_graphics.proofs.Positions.{none_in_order}
use Rattle.directions.specs.declared.turn.Turn.{Turn}
use Rattle.directions.specs.declared.turn.Turn.TheVariants as turn
use Rattle.plot_page.specs.declared.page.Page.{Page}
use Rattle.plot_page.specs.declared.dots.Dots.{Dots}
use Rattle.stroke_raster.specs.declared.vector.Vector.{Vector}
use Rattle.stroke_raster.specs.Covers.{centre, in_window}
use Rattle.stroke_raster.specs.Gap.{scaled, way}
use Rattle.image_raster.specs.Dots.{across, along, corner, is_number, number_at, shown_at_pixel, shown_in, shown_on_way}
use Rattle.page_images.specs.PageImages.{ImageShape}
use Rattle.image_raster.specs.Ways.{away, goes_right, shown_turned}

-- before the first row, or the first dot
pub number_below : (density r : ℕ) (z : ℤ) → 0 < density → 0 < r → z <ℤ pos 0 → number_at density r z <ℤ pos 0
number_below density r z d h below =
    let k = 16256 * r in
    let floor = floor_is (z *ℤ pos density) k (omega arith) in
    let q = number_at density r z in
    let turned = mul_comm_z z (pos density) in
    let less = lt_scale density z (pos 0) d below in
    let none : density * 0 ≡ 0 = omega arith in
    let zero_left : (pos density *ℤ pos 0) ≡ pos 0 = ap pos none in
    let none_2 : k * 0 ≡ 0 = omega arith in
    let zero_right : (pos k *ℤ pos 0) ≡ pos 0 = ap pos none_2 in
    lt_unscale k q (pos 0) (omega (arith, ints))

-- past the last one of n
pub number_from : (density r n extent : ℕ) (z : ℤ) → 0 < r → n * (16256 * r) ≤ extent * density → pos extent ≤ℤ z
    → pos n ≤ℤ number_at density r z
number_from density r n extent z h far past =
    let k = 16256 * r in
    let floor = floor_is (z *ℤ pos density) k (omega arith) in
    let q = number_at density r z in
    let turned = mul_comm_z z (pos density) in
    let most = le_scale density (pos extent) z past in
    let e : density * extent ≡ extent * density = mul_comm density extent in
    let e_2 : n * k ≡ k * n = mul_comm n k in
    let next = mul-add_z (pos k) q (pos 1) in
    let one : (pos k *ℤ pos 1) ≡ pos k = ap pos (let u : k * 1 ≡ k = omega arith in u) in
    let reached : (pos k *ℤ pos n) <ℤ (pos k *ℤ (q +ℤ pos 1)) = rw next (omega (arith, ints)) in
    let l = lt_unscale k (pos n) (q +ℤ pos 1) reached in
    omega (arith, ints)

-- an image shows nothing at numbers below 0
neither : (a b : Bool) (x : Option Colour) → (a ≡ false) → (if a && b then x else None) ≡ None
neither a b x h = rw h refl

nor : (a b : Bool) (x : Option Colour) → (b ≡ false) → (if a && b then x else None) ≡ None
nor true b x h = rw h refl
nor false b x h = refl

negative : (z : ℤ) → z <ℤ pos 0 → is_number z ≡ false
negative (pos n) h = absurd (omega (arith, ints))
negative (negsuc n) h = refl

pub no_row_below : (image : Image) (row column : ℤ) → row <ℤ pos 0 → shown_in image row column ≡ None
no_row_below image row column h = neither (is_number row) (is_number column) _ (negative row h)

pub no_dot_below : (image : Image) (row column : ℤ) → column <ℤ pos 0 → shown_in image row column ≡ None
no_dot_below image row column h = nor (is_number row) (is_number column) _ (negative column h)

-- nor past its rows and its dots
not_less : (m n : ℕ) → n ≤ m → nat_lt m n ≡ false
not_less m n h = grind (arith, nat_tests)

none_if : (b : Bool) (x : Option Colour) → x ≡ None → (if b then x else None) ≡ None
none_if true x h = h
none_if false x h = refl

no_colour : (b : Bool) (x : Option Colour) → x ≡ None → if_shown b x ≡ None
no_colour b x h = ap (if_shown b) h

pub no_row_from : (image : Image) (row column : ℤ) (n : ℕ) → ((k : ℕ) → k < length image.numbers → get_or image.numbers k 0 < n) → pos n ≤ℤ row
    → shown_in image row column ≡ None
no_row_from image (negsuc m) column n below h = absurd (omega (arith, ints))
no_row_from image (pos row) column n below h =
    let none : position_of row image.numbers ≡ None =
    sym (none_in_order row image.numbers (λ k l e. absurd (omega (arith, ints, below k l, e, h)))) in
    none_if (is_number (pos row) && is_number column) (shown_at image row (nat_abs column))
    (no_colour image.settings.is_opaque (colour_at image row (nat_abs column))
    (none_if (nat_lt (nat_abs column) image.width) _ (ap (option_map (λ position. colour_in image position (nat_abs column))) none)))

pub no_dot_from : (image : Image) (row column : ℤ) → pos image.width ≤ℤ column → shown_in image row column ≡ None
no_dot_from image row (negsuc m) h = absurd (omega (arith, ints))
no_dot_from image row (pos column) h =
    let past : nat_lt column image.width ≡ false = not_less column image.width (omega (arith, ints)) in
    none_if (is_number row && is_number (pos column)) (shown_at image (nat_abs row) column)
    (no_colour image.settings.is_opaque (colour_at image (nat_abs row) column) (rw past refl))

-- where a way leads before the first row, or dot, along x
pub none_before : (turn : Turn) (image : Image) (r : ℕ) (w : Vector) → 0 < image.settings.resolution → 0 < r → away turn w.x <ℤ pos 0
    → shown_turned turn image r w ≡ None
none_before turn.None image r w d h less =
    no_row_below image (number_at image.settings.resolution r (across turn.None w)) (number_at image.settings.resolution r (along turn.None w)) (number_below image.settings.resolution r w.x d h less)
none_before turn.Quarter image r w d h less =
    no_dot_below image (number_at image.settings.resolution r (across turn.Quarter w)) (number_at image.settings.resolution r (along turn.Quarter w)) (number_below image.settings.resolution r (neg_ℤ w.x) d h less)
none_before turn.Half image r w d h less =
    no_row_below image (number_at image.settings.resolution r (across turn.Half w)) (number_at image.settings.resolution r (along turn.Half w)) (number_below image.settings.resolution r (neg_ℤ w.x) d h less)
none_before turn.ThreeQuarters image r w d h less =
    no_dot_below image (number_at image.settings.resolution r (across turn.ThreeQuarters w)) (number_at image.settings.resolution r (along turn.ThreeQuarters w)) (number_below image.settings.resolution r w.x d h less)

-- how many rows, or dots, lie along x, of so many rows
abbrev pub count_of : Turn → Image → ℕ → ℕ
count_of turn.None image rows = rows
count_of turn.Quarter image rows = image.width
count_of turn.Half image rows = rows
count_of turn.ThreeQuarters image rows = image.width

-- and past the last one
pub none_past : (turn : Turn) (image : Image) (r : ℕ) (w : Vector) (rows : ℕ) → ((k : ℕ) → k < length image.numbers → get_or image.numbers k 0 < rows)
    → pos (count_of turn image rows) ≤ℤ number_at image.settings.resolution r (away turn w.x) → shown_turned turn image r w ≡ None
none_past turn.None image r w rows below h =
    no_row_from image (number_at image.settings.resolution r (across turn.None w)) (number_at image.settings.resolution r (along turn.None w)) rows below h
none_past turn.Quarter image r w rows below h =
    no_dot_from image (number_at image.settings.resolution r (across turn.Quarter w)) (number_at image.settings.resolution r (along turn.Quarter w)) h
none_past turn.Half image r w rows below h =
    no_row_from image (number_at image.settings.resolution r (across turn.Half w)) (number_at image.settings.resolution r (along turn.Half w)) rows below h
none_past turn.ThreeQuarters image r w rows below h =
    no_dot_from image (number_at image.settings.resolution r (across turn.ThreeQuarters w)) (number_at image.settings.resolution r (along turn.ThreeQuarters w)) h

pub rows_past : (turn : Turn) (image : Image) (r : ℕ) (w : Vector) (rows : ℕ) → count_of turn image rows ≡ rows
    → ((k : ℕ) → k < length image.numbers → get_or image.numbers k 0 < rows)
    → pos rows ≤ℤ number_at image.settings.resolution r (away turn w.x) → shown_turned turn image r w ≡ None
rows_past turn image r w rows e below h = none_past turn image r w rows below (rw e h)

-- the centres of columns
abbrev middle : ℕ → ℤ
middle column = pos ((2 * column + 1) * 8128)

-- at so many rows, or dots, an image shows nothing, nor farther away
abbrev pub IsPast : ImageShape → ℕ → Type 0
IsPast i count = (r : ℕ) (w : Vector) → pos count ≤ℤ number_at i.image.settings.resolution r (away i.turn w.x) → shown_on_way i r w ≡ None

-- so it is at a distance in which they lie
past_extent : (i : ImageShape) (r count : ℕ) (w : Vector) (extent : ℤ) → 0 < r → IsPast i count → pos 0 ≤ℤ extent
    → ((z : ℕ) → extent ≤ℤ pos z → count * (16256 * r) ≤ z * i.image.settings.resolution) → extent ≤ℤ away i.turn w.x → shown_on_way i r w ≡ None
past_extent i r count w extent h past some far l = by_size (away i.turn w.x) refl
  where
    by_size : (z : ℤ) → z ≡ away i.turn w.x → shown_on_way i r w ≡ None
    by_size (negsuc n) e = absurd (omega (arith, ints, some, l, e))
    by_size (pos n) e =
        past r w (number_from i.image.settings.resolution r count n (away i.turn w.x) h (far n (rw e l)) (omega (arith, ints, e)))

right_of : (turn : Turn) (x : ℤ) → goes_right turn ≡ true → away turn x ≡ x
right_of turn x e = rw e refl

left_of : (turn : Turn) (x : ℤ) → goes_right turn ≡ false → away turn x ≡ neg_ℤ x
left_of turn x e = rw e refl

-- the way from an image's corner to the centre of a pixel
abbrev way_to : ImageShape → Page → Dots → ℕ → ℕ → Vector
way_to i page dots row column = way (scaled (pos dots.resolution) (corner i)) (centre page.height dots.resolution row column)

nothing_at : (i : ImageShape) (page : Page) (dots : Dots) (row column : ℕ) → shown_on_way i dots.resolution (way_to i page dots row column) ≡ None
    → shown_at_pixel i page dots row column ≡ None
nothing_at i page dots row column h =
    none_if (in_window i.frame.window dots.resolution (centre page.height dots.resolution row column)) (shown_on_way i dots.resolution (way_to i page dots row column)) h

-- the columns before its corner, and those from its extent on, if it goes to the right
pub none_left : (i : ImageShape) (page : Page) (dots : Dots) (row column : ℕ) (at : ℤ) → 0 < i.image.settings.resolution → 0 < dots.resolution
    → goes_right i.turn ≡ true → at ≡ pos dots.resolution *ℤ i.frame.ax → middle column <ℤ at → shown_at_pixel i page dots row column ≡ None
none_left i page dots row column at d h e same l =
    let w = way_to i page dots row column in
    let a = right_of i.turn w.x e in
    nothing_at i page dots row column (none_before i.turn i.image dots.resolution w d h (rw a (omega (arith, ints, same, l))))

pub none_right : (i : ImageShape) (page : Page) (dots : Dots) (row column : ℕ) (at extent : ℤ) (count : ℕ) → 0 < dots.resolution
    → IsPast i count → pos 0 ≤ℤ extent → ((z : ℕ) → extent ≤ℤ pos z → count * (16256 * dots.resolution) ≤ z * i.image.settings.resolution)
    → goes_right i.turn ≡ true → at ≡ pos dots.resolution *ℤ i.frame.ax → (at +ℤ extent) ≤ℤ middle column → shown_at_pixel i page dots row column ≡ None
none_right i page dots row column at extent count h past some far e same l =
    let w = way_to i page dots row column in
    let a = right_of i.turn w.x e in
    nothing_at i page dots row column (past_extent i dots.resolution count w extent h past some far (rw a (omega (arith, ints, same, l))))

-- and if it goes to the left
pub none_left_of_left : (i : ImageShape) (page : Page) (dots : Dots) (row column : ℕ) (at extent : ℤ) (count : ℕ) → 0 < dots.resolution
    → IsPast i count → pos 0 ≤ℤ extent → ((z : ℕ) → extent ≤ℤ pos z → count * (16256 * dots.resolution) ≤ z * i.image.settings.resolution)
    → goes_right i.turn ≡ false → at ≡ pos dots.resolution *ℤ i.frame.ax → middle column <ℤ (at -ℤ extent +ℤ pos 1)
    → shown_at_pixel i page dots row column ≡ None
none_left_of_left i page dots row column at extent count h past some far e same l =
    let w = way_to i page dots row column in
    let a = left_of i.turn w.x e in
    nothing_at i page dots row column (past_extent i dots.resolution count w extent h past some far (rw a (omega (arith, ints, same, l))))

pub none_right_of_left : (i : ImageShape) (page : Page) (dots : Dots) (row column : ℕ) (at : ℤ) → 0 < i.image.settings.resolution
    → 0 < dots.resolution → goes_right i.turn ≡ false → at ≡ pos dots.resolution *ℤ i.frame.ax → (at +ℤ pos 1) ≤ℤ middle column
    → shown_at_pixel i page dots row column ≡ None
none_right_of_left i page dots row column at d h e same l =
    let w = way_to i page dots row column in
    let a = left_of i.turn w.x e in
    nothing_at i page dots row column (none_before i.turn i.image dots.resolution w d h (rw a (omega (arith, ints, same, l))))
