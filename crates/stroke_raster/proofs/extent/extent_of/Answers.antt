use Rattle.std.proofs.Common.{◌≡◌, ℕ, ℤ, ◌*◌, ◌^◌, ◌≤◌, arith, ◌∙◌, nat_abs, pos, ◌-ℤ◌, ◌*ℤ◌, FitsSigned, ap, subst}
use mir.Syntax.{w32, w64}
use Rattle.std.proofs.lemmas.Int.{ints, to_z-of_z}
use Rattle.plot_page.specs.Segments.{Segment}
use Rattle.stroke_raster.specs.Extents.{low_side, high_side, top_side, bottom_side, first_place, end_place}
use Rattle.stroke_raster.proofs.ExtentLemmas.{Box, box_x, box_y, box_full, top_small}
use Rattle.stroke_raster.proofs.extent.extent_of.Goals as goal

pub overflow_sub-top : goal.overflow_sub-top
overflow_sub-top c =
    let b : nat_abs c.top_of-top.result ≤ 2 ^ 34 = c.top_of-top.ensures.small in
    let f : FitsSigned w64 c.top_of-top.result = omega (arith, ints, b) in
    let g : FitsSigned w64 (pos 2 *ℤ c.top_of-top.result) = omega (arith, ints, b) in
    let h : FitsSigned w64 c.sides_of-y.result.high = omega (arith, ints, c.sides_of-y.ensures.high_small) in
    let th : FitsSigned w64 (pos 2 *ℤ c.top_of-top.result -ℤ c.sides_of-y.result.high) = omega (arith, ints, b, c.sides_of-y.ensures.high_small) in
    simp to_z-of_z th

pub overflow_sub-top-2 : goal.overflow_sub-top-2
overflow_sub-top-2 c =
    let b : nat_abs c.top_of-top.result ≤ 2 ^ 34 = c.top_of-top.ensures.small in
    let f : FitsSigned w64 c.top_of-top.result = omega (arith, ints, b) in
    let g : FitsSigned w64 (pos 2 *ℤ c.top_of-top.result) = omega (arith, ints, b) in
    let l : FitsSigned w64 c.sides_of-y.result.low = omega (arith, ints, c.sides_of-y.ensures.low_small) in
    let tl : FitsSigned w64 (pos 2 *ℤ c.top_of-top.result -ℤ c.sides_of-y.result.low) = omega (arith, ints, b, c.sides_of-y.ensures.low_small) in
    simp to_z-of_z tl

made : (c : goal.After-places_between-2) → Box c.args.stroke.now c.args.page.now.height c.args.dots.resolution c.sides_of-x.result.low c.sides_of-x.result.high c.sides_of-y.result.low c.sides_of-y.result.high (pos 2 *ℤ c.top_of-top.result)
made c =
    let fx0 : FitsSigned w32 c.stroke.inside.window.x0 = omega (arith, ints, c.stroke.invariant.x0) in
    let fx1 : FitsSigned w32 c.stroke.inside.window.x1 = omega (arith, ints, c.stroke.invariant.x1) in
    let fy0 : FitsSigned w32 c.stroke.inside.window.y0 = omega (arith, ints, c.stroke.invariant.y0) in
    let fy1 : FitsSigned w32 c.stroke.inside.window.y1 = omega (arith, ints, c.stroke.invariant.y1) in
    let fax : FitsSigned w32 c.stroke.inside.ax = omega (arith, ints, c.stroke.invariant.ax) in
    let fay : FitsSigned w32 c.stroke.inside.ay = omega (arith, ints, c.stroke.invariant.ay) in
    let fbx : FitsSigned w32 c.stroke.inside.bx = omega (arith, ints, c.stroke.invariant.bx) in
    let fby : FitsSigned w32 c.stroke.inside.by = omega (arith, ints, c.stroke.invariant.by) in
    record {
      left_is = subst (λ (d : ℕ). c.sides_of-x.result.low ≡ low_side c.args.dots.resolution d c.args.stroke.now.window.x0 c.args.stroke.now.ax c.args.stroke.now.bx) c.drawn_width_of-d.ensures.value
          (subst (λ (s : Segment). c.sides_of-x.result.low ≡ low_side c.args.dots.resolution c.drawn_width_of-d.result s.window.x0 s.ax s.bx) c.stroke.view_is (simp to_z-of_z at c.sides_of-x.ensures.low));
      right_is = subst (λ (d : ℕ). c.sides_of-x.result.high ≡ high_side c.args.dots.resolution d c.args.stroke.now.window.x1 c.args.stroke.now.ax c.args.stroke.now.bx) c.drawn_width_of-d.ensures.value
          (subst (λ (s : Segment). c.sides_of-x.result.high ≡ high_side c.args.dots.resolution c.drawn_width_of-d.result s.window.x1 s.ax s.bx) c.stroke.view_is (simp to_z-of_z at c.sides_of-x.ensures.high));
      bottom_is = subst (λ (d : ℕ). c.sides_of-y.result.low ≡ low_side c.args.dots.resolution d c.args.stroke.now.window.y0 c.args.stroke.now.ay c.args.stroke.now.by) c.drawn_width_of-d.ensures.value
          (subst (λ (s : Segment). c.sides_of-y.result.low ≡ low_side c.args.dots.resolution c.drawn_width_of-d.result s.window.y0 s.ay s.by) c.stroke.view_is (simp to_z-of_z at c.sides_of-y.ensures.low));
      upper_is = subst (λ (d : ℕ). c.sides_of-y.result.high ≡ high_side c.args.dots.resolution d c.args.stroke.now.window.y1 c.args.stroke.now.ay c.args.stroke.now.by) c.drawn_width_of-d.ensures.value
          (subst (λ (s : Segment). c.sides_of-y.result.high ≡ high_side c.args.dots.resolution c.drawn_width_of-d.result s.window.y1 s.ay s.by) c.stroke.view_is (simp to_z-of_z at c.sides_of-y.ensures.high));
      top_is = ap (λ z. pos 2 *ℤ z) c.top_of-top.ensures.value;
    }

-- the facts before the record let `simp` drop the conversions of numbers that fit
pub returns : goal.returns
returns c =
    let stroke = c.args.stroke.now in
    let page = c.args.page.now in
    let dots = c.args.dots in
    let top = pos 2 *ℤ c.top_of-top.result in
    let x = c.sides_of-x.result in
    let y = c.sides_of-y.result in
    let b : nat_abs c.top_of-top.result ≤ 2 ^ 34 = c.top_of-top.ensures.small in
    let f : FitsSigned w64 c.top_of-top.result = omega (arith, ints, b) in
    let g : FitsSigned w64 (pos 2 *ℤ c.top_of-top.result) = omega (arith, ints, b) in
    let h : FitsSigned w64 c.sides_of-y.result.high = omega (arith, ints, c.sides_of-y.ensures.high_small) in
    let l : FitsSigned w64 c.sides_of-y.result.low = omega (arith, ints, c.sides_of-y.ensures.low_small) in
    let th : FitsSigned w64 (pos 2 *ℤ c.top_of-top.result -ℤ c.sides_of-y.result.high) = omega (arith, ints, b, c.sides_of-y.ensures.high_small) in
    let tl : FitsSigned w64 (pos 2 *ℤ c.top_of-top.result -ℤ c.sides_of-y.result.low) = omega (arith, ints, b, c.sides_of-y.ensures.low_small) in
    let fl : FitsSigned w64 c.sides_of-x.result.low = omega (arith, ints, c.sides_of-x.ensures.low_small) in
    let fr : FitsSigned w64 c.sides_of-x.result.high = omega (arith, ints, c.sides_of-x.ensures.high_small) in
    let box = made c in
    let height : ℤ = pos 2 *ℤ pos (16 * page.height * dots.resolution) in
    record {
      rows = omega (arith, c.places_between.ensures.end, c.rows.ensures.count);
      columns = omega (arith, c.places_between-2.ensures.end, c.columns.ensures.count);
      rows_order = c.places_between.ensures.order;
      columns_order = c.places_between-2.ensures.order;
      low =
          (simp to_z-of_z at c.places_between.ensures.low_is)
          ∙ ap (λ (t : ℤ). first_place (t -ℤ y.high) (t -ℤ y.low) c.rows.result) box.top_is
          ∙ ap (λ (u : ℤ). first_place (height -ℤ u) (height -ℤ y.low) c.rows.result) box.upper_is
          ∙ ap (λ (u : ℤ). first_place (top_side stroke page dots) (height -ℤ u) c.rows.result) box.bottom_is
          ∙ ap (λ (n : ℕ). first_place (top_side stroke page dots) (bottom_side stroke page dots) n) c.rows.ensures.count;
      end =
          (simp to_z-of_z at c.places_between.ensures.end_is)
          ∙ ap (λ (t : ℤ). end_place (t -ℤ y.low) c.rows.result) box.top_is
          ∙ ap (λ (u : ℤ). end_place (height -ℤ u) c.rows.result) box.bottom_is
          ∙ ap (λ (n : ℕ). end_place (bottom_side stroke page dots) n) c.rows.ensures.count;
      row_in = λ row column u e.
          let in_y = box_y stroke page.height dots.resolution x.low x.high y.low y.high top box row column e in
          let inside = simp to_z-of_z at (c.places_between.ensures.holds row) in
          inside (omega (arith, u, c.rows.ensures.count)) in_y.0 in_y.1;
      column_in = λ row column u e.
          let in_x = box_x stroke page.height dots.resolution x.low x.high y.low y.high top box row column e in
          let inside = simp to_z-of_z at (c.places_between-2.ensures.holds column) in
          inside (omega (arith, u, c.columns.ensures.count)) in_x.0 in_x.1;
      full = λ row column rl rh cl ch.
          let left = simp to_z-of_z at (c.places_between-2.ensures.from column cl ch) in
          let right = simp to_z-of_z at (c.places_between-2.ensures.to column ch) in
          let upper = simp to_z-of_z at (c.places_between.ensures.from row rl rh) in
          let lower = simp to_z-of_z at (c.places_between.ensures.to row rh) in
          box_full stroke page.height dots.resolution x.low x.high y.low y.high top box row column left right upper lower;
    }
