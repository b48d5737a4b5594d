-- The last stroke or image that covers a pixel is what it shows.
use Rattle.std.proofs.Common.{◌≡◌, ◌∙◌, ap, refl, arith, ℕ, ◌≤◌, ◌<◌, ◌^◌, Bool, true, false, ◌||◌, nat_le, List, [], ◌∷◌, ◌++◌, Option, Some, None, All, if◌then◌else◌, inl, inr}
use Rattle.std.proofs.lemmas.Bool.{cases_lt}
use Rattle.std.proofs.lemmas.Bool.Decides.{nat_tests}
use Rattle.std.proofs.lemmas.List.Elements.{All-head, All-tail}
use Rattle.plot_page.specs.declared.colour.Colour.{Colour}
use Rattle.plot_page.specs.declared.dots.Dots.{Dots}
use Rattle.plot_page.specs.declared.page.Page.{Page}
use Rattle.page_images.specs.PageImages.{ImageShape}
use Rattle.image_raster.specs.Dots.{shown_at_pixel}
use Rattle.image_raster.specs.Cells.{mark_of, is_mark, is_over, covered, cell_with, cell_with_all}
use Rattle.image_raster.specs.Laws.{LastShapeIsShown, ShowsNothing}

no_less : (m n : ℕ) → m ≤ n → nat_le m n ≡ true
no_less m n h = grind (arith, nat_tests)

less : (m n : ℕ) → n < m → nat_le m n ≡ false
less m n h = grind (arith, nat_tests)

or_right : (a b : Bool) → b ≡ true → (a || b) ≡ true
or_right true b h = refl
or_right false b h = h

or_left : (a b : Bool) → a ≡ true → (a || b) ≡ true
or_left a b h = rw h refl

neither : (a b : Bool) → a ≡ false → b ≡ false → (a || b) ≡ false
neither a b h k = rw (h, k) refl

-- each image that comes after a stroke lies over the cell
abbrev IsUnder : ℕ → ℕ → Type 0
IsUnder position cell = (before : ℕ) → position ≤ before → is_over before cell ≡ true

under_position : (position : ℕ) → IsUnder position position
under_position position before h = or_left (nat_le position before) (is_mark position) (no_less position before h)

under_mark : (position : ℕ) (colour : Colour) → IsUnder position (mark_of colour)
under_mark position colour before h =
    or_right (nat_le (mark_of colour) before) (is_mark (mark_of colour)) (no_less (2 ^ 31) (mark_of colour) (omega arith))

under_if : (b : Bool) (position x y : ℕ) → IsUnder position x → IsUnder position y → IsUnder position (if b then x else y)
under_if true position x y h k = h
under_if false position x y h k = k

stays_under : (position before : ℕ) (shown : Option Colour) (cell : ℕ) → IsUnder position cell → IsUnder position (covered before shown cell)
stays_under position before None cell h = h
stays_under position before (Some colour) cell h = under_if (is_over before cell) position (mark_of colour) cell (under_mark position colour) h

all_under : (images : List ImageShape) (page : Page) (dots : Dots) (row column position cell : ℕ) → IsUnder position cell
    → IsUnder position (cell_with_all images page dots row column cell)
all_under [] page dots row column position cell h = h
all_under (i ∷ more) page dots row column position cell h =
    all_under more page dots row column position (cell_with i page dots row column cell)
    (stays_under position i.before (shown_at_pixel i page dots row column) cell h)

-- images that show nothing change nothing
nothing : (i : ImageShape) (page : Page) (dots : Dots) (row column cell : ℕ) → ShowsNothing page dots row column i
    → cell_with i page dots row column cell ≡ cell
nothing i page dots row column cell h = ap (λ (shown : Option Colour). covered i.before shown cell) h

all_nothing : (images : List ImageShape) (page : Page) (dots : Dots) (row column cell : ℕ) → All (ShowsNothing page dots row column) images
    → cell_with_all images page dots row column cell ≡ cell
all_nothing [] page dots row column cell h = refl
all_nothing (i ∷ more) page dots row column cell h =
    ap (cell_with_all more page dots row column) (nothing i page dots row column cell (All-head (ShowsNothing page dots row column) i more h))
    ∙ all_nothing more page dots row column cell (All-tail (ShowsNothing page dots row column) i more h)

-- an image before a stroke lies under it
hidden : (before position : ℕ) (shown : Option Colour) → before < position → position < 2 ^ 31 → covered before shown position ≡ position
hidden before position None h k = refl
hidden before position (Some colour) h k =
    let e : is_over before position ≡ false = neither (nat_le position before) (is_mark position) (less position before h) (less (2 ^ 31) position k) in
    rw e refl

shows_stroke : (images : List ImageShape) (page : Page) (dots : Dots) (row column position : ℕ) → position < 2 ^ 31
    → All (λ (i : ImageShape). position ≤ i.before → ShowsNothing page dots row column i) images
    → cell_with_all images page dots row column position ≡ position
shows_stroke [] page dots row column position h all = refl
shows_stroke (i ∷ more) page dots row column position h all =
    let P : ImageShape → Type 0 = λ j. position ≤ j.before → ShowsNothing page dots row column j in
    let one : cell_with i page dots row column position ≡ position = elim (cases_lt i.before position) [
      | inl before ↦ hidden i.before position (shown_at_pixel i page dots row column) before h
      | inr after ↦ nothing i page dots row column position (All-head P i more all after)
    ] in
    ap (cell_with_all more page dots row column) one ∙ shows_stroke more page dots row column position h (All-tail P i more all)

-- images one after another
joined : (before after : List ImageShape) (page : Page) (dots : Dots) (row column cell : ℕ)
    → cell_with_all (before ++ after) page dots row column cell
    ≡ cell_with_all after page dots row column (cell_with_all before page dots row column cell)
joined [] after page dots row column cell = refl
joined (i ∷ more) after page dots row column cell = joined more after page dots row column (cell_with i page dots row column cell)

shows_colour : (before : ℕ) (colour : Colour) (cell : ℕ) → is_over before cell ≡ true → covered before (Some colour) cell ≡ mark_of colour
shows_colour before colour cell e = rw e refl

shows_image : (before after : List ImageShape) (i : ImageShape) (page : Page) (dots : Dots) (row column position : ℕ) (colour : Colour)
    → position ≤ i.before → shown_at_pixel i page dots row column ≡ Some colour → All (ShowsNothing page dots row column) after
    → cell_with_all (before ++ i ∷ after) page dots row column position ≡ mark_of colour
shows_image before after i page dots row column position colour h e none =
    let cell = cell_with_all before page dots row column position in
    let over : is_over i.before cell ≡ true = all_under before page dots row column position position (under_position position) i.before h in
    joined before (i ∷ after) page dots row column position
    ∙ ap (λ (shown : Option Colour). cell_with_all after page dots row column (covered i.before shown cell)) e
    ∙ ap (cell_with_all after page dots row column) (shows_colour i.before colour cell over)
    ∙ all_nothing after page dots row column (mark_of colour) none

pub last_shape_is_shown_lem : LastShapeIsShown
last_shape_is_shown_lem = record { stroke = shows_stroke; image = shows_image }
