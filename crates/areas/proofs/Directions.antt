-- From which edge on, and in which direction, edges are taken does not matter.
use Rattle.std.proofs.Common.{◌≡◌, ℕ, List, ◌++◌, map, count_by, ap₂, ◌∙◌, arith, ℤ}
use Rattle.plot_page.specs.Segments.{Segment}
use Rattle.polygons.specs.Fills.{is_inside}
use Rattle.polygons.specs.declared.lines.Rule.{Rule}
use Rattle.areas.specs.Inside.{rises_past, falls_past, is_inside_area}
use Rattle.areas.specs.Laws.{turned, DirectionIsFree}
use Rattle.areas.proofs.Counts.{count_append, count_mapped, inside_turned}
use Rattle.areas.proofs.Turns.{rises_turned, falls_turned}

module _ (rule : Rule) (r : ℕ) (x y : ℤ) where
  from_other_ends : (edges : List Segment) → is_inside_area rule r (map turned edges) x y ≡ is_inside_area rule r edges x y
  from_other_ends edges =
      let up = count_mapped (λ e. rises_past r e x y) (λ e. falls_past r e x y) turned (λ e. rises_turned r e x y) edges in
      let down = count_mapped (λ e. falls_past r e x y) (λ e. rises_past r e x y) turned (λ e. falls_turned r e x y) edges in
      ap₂ (is_inside rule) up down
      ∙ inside_turned rule (count_by (λ e. falls_past r e x y) edges) (count_by (λ e. rises_past r e x y) edges)

  from_another : (front back : List Segment) → is_inside_area rule r (back ++ front) x y ≡ is_inside_area rule r (front ++ back) x y
  from_another front back =
      let a = count_append (λ e. rises_past r e x y) back front in
      let b = count_append (λ e. rises_past r e x y) front back in
      let c = count_append (λ e. falls_past r e x y) back front in
      let d = count_append (λ e. falls_past r e x y) front back in
      ap₂ (is_inside rule) (omega (arith, a, b)) (omega (arith, c, d))

pub direction_is_free_lem : DirectionIsFree
direction_is_free_lem = record {
  turned = λ rule r edges x y. from_other_ends rule r x y edges;
  rotated = λ rule r front back x y. from_another rule r x y front back;
}
