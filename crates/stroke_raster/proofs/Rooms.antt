-- Room for each area.
use Rattle.std.proofs.Common.{◌≡◌, ℕ, ◌-◌, ◌≤◌, List, [], ◌∷◌, length, min, take, drop, nat_eq, arith, length-drop, inl, inr}
use Rattle.std.specs.List.{All}
use Rattle.std.proofs.lemmas.Bool.{cases_Bool}
use Rattle.std.proofs.lemmas.List.{length-take}
use Rattle.std.proofs.lemmas.List.Elements.{All-head, All-tail}
use Rattle.plot_page.specs.Segments.{Segment}
use Rattle.areas.specs.Sweeps.{HasRoomFor}
use Rattle.areas.specs.Shapes.{ending_at}
use Rattle.areas.specs.declared.area.Area.{Area}
use Rattle.areas.specs.declared.sweep.AreaSweep.{AreaSweep}
use Rattle.stroke_raster.specs.Painters.{HasRoomForAll}
use Rattle.stroke_raster.specs.ShownShapes.{shape_of}

few_edges : (strokes : List Segment) (a : Area) → length (drop a.first (take a.end strokes)) ≤ min (a.end - a.first) (length strokes)
few_edges strokes a =
    let t = length-take a.end strokes in
    let d = length-drop a.first (take a.end strokes) in
    omega (arith, t, d)

-- the area at any position has at most so many edges
edges_at : (strokes : List Segment) (most position : ℕ) (areas : List Area) → All (λ a. a.end - a.first ≤ most) areas
    → length (shape_of strokes (ending_at position areas)).strokes ≤ min most (length strokes)
edges_at strokes most position [] h = omega arith
edges_at strokes most position (a ∷ more) h = elim (cases_Bool (nat_eq a.end position)) [
  | inl t ↦ (let first = All-head (λ (b : Area). b.end - b.first ≤ most) a more h in
      let few = few_edges strokes a in
      rw t (omega (arith, few, first)))
  | inr f ↦ rw f (edges_at strokes most position more (All-tail (λ (b : Area). b.end - b.first ≤ most) a more h))
]

pub enough_room : (strokes : List Segment) (areas : List Area) (most edges : ℕ) (sweep : AreaSweep) → All (λ a. a.end - a.first ≤ most) areas
    → edges ≡ min most (length strokes) → HasRoomFor edges sweep → HasRoomForAll strokes areas sweep
enough_room strokes areas most edges sweep h e has = λ position.
    let few = edges_at strokes most position areas h in
    record {
      near = omega (arith, few, e, has.near);
      crossings = omega (arith, few, e, has.crossings);
      ranges = omega (arith, few, e, has.ranges);
      few = has.few;
    }
