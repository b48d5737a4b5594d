use Rattle.std.proofs.Common.{◌≡◌, ◌+◌, ◌<◌, ◌≤◌, ◌^◌, nat_abs, ◌++◌, ◌∷◌, [], List, length, take, ap, ap₂, sym, ◌∙◌, arith, to_z, FitsSigned}
use Rattle.std.specs.Int.{int_max, int_min}
use Rattle.std.proofs.lemmas.Int.{clamps, ints, to_z-of_z}
use Rattle.std.proofs.lemmas.List.{take_all}
use mir.Syntax.{w32}
use Rattle.std.proofs.lemmas.Grind.{take_at_read}
use Rattle.plot_page.specs.Segments.{Segment}
use Rattle.stroke_raster.specs.ShownShapes.{nobody}
use Rattle.stroke_raster.specs.Slots.{highest, lowest}
use Rattle.stroke_raster.proofs.FillRows.{highest_more, lowest_more, max_within, min_within, tall_of}
use Rattle.stroke_raster.proofs.Slots.{slot_is}
use Rattle.stroke_raster.proofs.placed_area.tall.Goals as goal

pub loop-edge-init : goal.loop-edge-init
loop-edge-init c =
    let ay : FitsSigned w32 c.stroke.inside.ay = omega (arith, ints, c.stroke.invariant.ay) in
    let by : FitsSigned w32 c.stroke.inside.by = omega (arith, ints, c.stroke.invariant.by) in
    let low = simp to_z-of_z at c.min-low.ensures.value in
    let high = simp to_z-of_z at c.max-high.ensures.value in
    let fl : FitsSigned w32 c.min-low.result = omega (arith, ints, clamps, low, c.stroke.invariant.ay, c.stroke.invariant.by) in
    let fh : FitsSigned w32 c.max-high.result = omega (arith, ints, clamps, high, c.stroke.invariant.ay, c.stroke.invariant.by) in
    simp to_z-of_z (record {
      low = low ∙ ap (λ (s : Segment). int_min s.ay s.by) c.stroke.view_is;
      high = high ∙ ap (λ (s : Segment). int_max s.ay s.by) c.stroke.view_is;
      low_near = omega (arith, ints, clamps, low, c.stroke.invariant.ay, c.stroke.invariant.by);
      high_near = omega (arith, ints, clamps, high, c.stroke.invariant.ay, c.stroke.invariant.by);
    })

pub loop-edge-preserved : goal.loop-edge-preserved
loop-edge-preserved c =
    let s = c.args.stroke.now in
    let edges = c.args.edges.now in
    let i = c.loop-edge.edge-index in
    let inv = c.loop-edge.invariant in
    let t = take_at_read edges i nobody c.loop-edge-test.true in
    let e = slot_is edges i c.edge-item.result c.loop-edge-test.true c.edge-item.is in
    let more : take (i + 1) edges ≡ take i edges ++ c.edge-item.result ∷ [] = t.1 ∙ ap (λ (x : Segment). take i edges ++ x ∷ []) e in
    let ay : FitsSigned w32 c.edge.inside.ay = omega (arith, ints, c.edge.invariant.ay) in
    let by : FitsSigned w32 c.edge.inside.by = omega (arith, ints, c.edge.invariant.by) in
    let least = simp to_z-of_z at c.min.ensures.value in
    let most = simp to_z-of_z at c.max.ensures.value in
    let least_near : nat_abs c.min.result ≤ 134217712 = rw least (min_within c.edge.inside.ay c.edge.inside.by (134217712) c.edge.invariant.ay c.edge.invariant.by) in
    let most_near : nat_abs c.max.result ≤ 134217712 = rw most (max_within c.edge.inside.ay c.edge.inside.by (134217712) c.edge.invariant.ay c.edge.invariant.by) in
    let fl : FitsSigned w32 c.min.result = omega (arith, ints, least_near) in
    let fm : FitsSigned w32 c.max.result = omega (arith, ints, most_near) in
    let low = simp to_z-of_z at c.min-low-in-loop-edge.ensures.value in
    let high = simp to_z-of_z at c.max-high-in-loop-edge.ensures.value in
    let low_near : nat_abs c.min-low-in-loop-edge.result ≤ 134217712 = rw low (min_within c.min.result _ (134217712) least_near inv.low_near) in
    let high_near : nat_abs c.max-high-in-loop-edge.result ≤ 134217712 = rw high (max_within c.max.result _ (134217712) most_near inv.high_near) in
    let fn : FitsSigned w32 c.min-low-in-loop-edge.result = omega (arith, ints, low_near) in
    let fh : FitsSigned w32 c.max-high-in-loop-edge.result = omega (arith, ints, high_near) in
    simp to_z-of_z (record {
      low = low
          ∙ ap₂ int_min (least ∙ ap (λ (x : Segment). int_min x.ay x.by) c.edge.view_is) inv.low
          ∙ sym (ap (λ (es : List Segment). lowest (int_min s.ay s.by) es) more ∙ lowest_more (int_min s.ay s.by) (take i edges) c.edge-item.result);
      high = high
          ∙ ap₂ int_max (most ∙ ap (λ (x : Segment). int_max x.ay x.by) c.edge.view_is) inv.high
          ∙ sym (ap (λ (es : List Segment). highest (int_max s.ay s.by) es) more ∙ highest_more (int_max s.ay s.by) (take i edges) c.edge-item.result);
      low_near = low_near;
      high_near = high_near;
    })

pub returns : goal.returns
returns c =
    let inv = c.loop-edge.invariant in
    let all = take_all c.loop-edge.edge-index c.args.edges.now c.loop-edge-test.false in
    let ax : FitsSigned w32 c.stroke.inside.ax = omega (arith, ints, c.stroke.invariant.ax) in
    let bx : FitsSigned w32 c.stroke.inside.bx = omega (arith, ints, c.stroke.invariant.bx) in
    let some : 0 < length c.args.edges.now = grind (arith, c.if-is_empty.false, c.is_empty.ensures) in
    let low = rw all at inv.low in
    let high = rw all at inv.high in
    simp to_z-of_z
    (ap (λ (s : Segment). record s { ay = to_z w32 c.loop-edge.low-bits; by = to_z w32 c.loop-edge.high-bits }) c.stroke.view_is
    ∙ tall_of c.args.stroke.now c.args.edges.now _ _ some low high)
