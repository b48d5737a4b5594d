-- How shapes are counted and measured, one after another.
use Rattle.std.proofs.Common.{◌≡◌, ◌∙◌, ℕ, ◌+◌, Bool, true, false, not, ◌&&◌, ◌||◌, List, [], ◌∷◌, ◌++◌, All, map, fold, refl, ap, arith, sym}
use Rattle.std.specs.List.{list_all}
use Rattle.std.specs.Prelude.{if◌then◌else◌}
use Rattle.std.proofs.lemmas.List.Elements.{All-head, All-tail}
use Rattle.areas.specs.Shapes.{Shape, plain, stroke_shape}
use Rattle.areas.specs.Walks.{HasNoStrokes}
use Rattle.plot_page.specs.Pens.{has_pen}
use Rattle.plot_page.specs.Segments.{Segment}
use Rattle.plot_page.specs.declared.page.Page.{Page}
use Rattle.plot_page.specs.declared.pens.PenSet.{PenSet}
use Rattle.page_fit.specs.Census.{census_of, counted, is_beside, lies_on}
use Rattle.page_fit.specs.Extents.{extent_of, holds_page, reach}
use Rattle.page_fit.specs.Shapes.{counted_all, diagonal_of, diagonals, lies_off, shapes_census, shapes_extent}
use Rattle.page_fit.specs.declared.census.Census.{Census}

-- with one more stroke that is not off the page, if so many are cut
abbrev cut_so : Census → ℕ → Census
cut_so c n = record { strokes = c.strokes + 1; off_page = c.off_page; cut = n }

-- a stroke by itself is counted as it was
choices : (selected beside on holds : Bool) (c : Census) →
    (if not selected then c else
    if beside then record { strokes = c.strokes + 1; off_page = c.off_page + 1; cut = c.cut } else
    if on || not holds then record { strokes = c.strokes + 1; off_page = c.off_page; cut = c.cut } else
    record { strokes = c.strokes + 1; off_page = c.off_page; cut = c.cut + 1 })
    ≡ (if not selected then c else
    if beside then record { strokes = c.strokes + 1; off_page = c.off_page + 1; cut = c.cut } else
    record { strokes = c.strokes + 1; off_page = c.off_page; cut = c.cut + (0 + (if not on && holds then 1 else 0)) })
choices false beside on holds c = refl
choices true true on holds c = refl
choices true false true holds c = ap (cut_so c) (omega arith)
choices true false false true c = refl
choices true false false false c = ap (cut_so c) (omega arith)

pub one_counted : (pens : PenSet) (page : Page) (census : Census) (s : Segment) → counted pens page census s ≡ counted_all pens page census (s ∷ [])
one_counted pens page census s = choices (has_pen pens s.pen) (is_beside page (reach s)) (lies_on page s) (holds_page page s.window) census

module _ (pens : PenSet) (page : Page) where
  abbrev count : Census → Shape → Census
  count census shape = counted_all pens page census shape.strokes

  -- shapes without strokes do not count
  pub none_counted : (rest : List Shape) (census : Census) → All HasNoStrokes rest → fold count census rest ≡ census
  none_counted [] census none = refl
  none_counted (shape ∷ rest) census none =
      ap (λ (ss : List Segment). fold count (counted_all pens page census ss) rest) (All-head HasNoStrokes shape rest none)
      ∙ none_counted rest census (All-tail HasNoStrokes shape rest none)

  -- and lie off the page
  pub none_off : (rest : List Shape) → All HasNoStrokes rest → list_all (λ shape. lies_off pens page shape.strokes) rest ≡ true
  none_off [] none = refl
  none_off (shape ∷ rest) none =
      ap (λ (ss : List Segment). lies_off pens page ss && list_all (λ it. lies_off pens page it.strokes) rest) (All-head HasNoStrokes shape rest none)
      ∙ none_off rest (All-tail HasNoStrokes shape rest none)

  -- strokes by themselves are counted as they were
  plain_counted : (strokes : List Segment) (census : Census) → fold count census (map stroke_shape strokes) ≡ fold (counted pens page) census strokes
  plain_counted [] census = refl
  plain_counted (s ∷ more) census =
      ap (λ (c : Census). fold count c (map stroke_shape more)) (sym (one_counted pens page census s)) ∙ plain_counted more (counted pens page census s)

  pub plain_census : (strokes : List Segment) → shapes_census pens page (plain strokes) ≡ census_of pens page strokes
  plain_census strokes = plain_counted strokes (record { strokes = 0; off_page = 0; cut = 0 })

-- shapes without strokes have no diagonals
pub no_diagonals : (rest : List Shape) → All HasNoStrokes rest → diagonals rest ≡ []
no_diagonals [] none = refl
no_diagonals (shape ∷ rest) none =
    ap (λ (ss : List Segment). diagonal_of ss ++ diagonals rest) (All-head HasNoStrokes shape rest none)
    ∙ no_diagonals rest (All-tail HasNoStrokes shape rest none)

-- strokes by themselves are their diagonals
plain_diagonals : (strokes : List Segment) → diagonals (map stroke_shape strokes) ≡ strokes
plain_diagonals [] = refl
plain_diagonals (s ∷ more) = ap (λ (ss : List Segment). s ∷ ss) (plain_diagonals more)

pub plain_extent : (pens : PenSet) (page : Page) (strokes : List Segment) → shapes_extent pens page (plain strokes) ≡ extent_of pens page strokes
plain_extent pens page strokes = ap (extent_of pens page) (plain_diagonals strokes)
