-- What functions of strokes say of one stroke, if its pen is selected.
use Rattle.std.proofs.Common.{◌≡◌, ◌∙◌, ap, refl, Bool, true, false, not, ◌&&◌, ◌||◌, [], ◌∷◌, Some, None, if◌then◌else◌}
use Rattle.areas.specs.Shapes.{plain}
use Rattle.page_fit.specs.Census.{is_beside}
use Rattle.page_fit.specs.Extents.{is_empty, reach, seen}
use Rattle.page_fit.specs.Moves.{are_movable, is_movable}
use Rattle.page_fit.specs.Shapes.{is_off_page, shapes_extent}
use Rattle.page_fit.specs.declared.around.Corner.{Corner}
use Rattle.plot_page.specs.Pens.{has_pen}
use Rattle.plot_page.specs.Segments.{Segment}
use Rattle.plot_page.specs.declared.page.Page.{Page}
use Rattle.plot_page.specs.declared.pens.PenSet.{PenSet}
use Rattle.directions.specs.declared.turn.Turn.{Turn}
use Rattle.turning.specs.Turns.{are_turnable, is_turnable}

and_true : (b : Bool) → (b && true) ≡ b
and_true true = refl
and_true false = refl

module _ (pens : PenSet) (s : Segment) (selected : has_pen pens s.pen ≡ true) where
  one : (b : Bool) → ((not (has_pen pens s.pen) || b) && true) ≡ b
  one b = ap (λ (has : Bool). (not has || b) && true) selected ∙ and_true b

  pub movable_frame : (corner : Corner) → are_movable pens corner (s ∷ []) ≡ is_movable corner s
  movable_frame corner = one (is_movable corner s)

  pub turnable_frame : (turn : Turn) (page : Page) → are_turnable pens turn page (s ∷ []) ≡ is_turnable turn page s
  turnable_frame turn page = one (is_turnable turn page s)

  pub frame_off_page : (page : Page) → is_off_page pens page (plain (s ∷ [])) ≡ is_beside page (reach s)
  frame_off_page page = one (is_beside page (reach s))

  -- what is seen of the stroke, if something is
  pub extent_of_frame : (page : Page) → shapes_extent pens page (plain (s ∷ [])) ≡ (if not (is_empty (seen page s)) then Some (seen page s) else None)
  extent_of_frame page = ap (λ (has : Bool). if has && not (is_empty (seen page s)) then Some (seen page s) else None) selected
