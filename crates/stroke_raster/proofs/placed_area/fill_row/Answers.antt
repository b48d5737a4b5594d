use Rattle.std.proofs.Common.{List, nat_eq, ap, sym, ◌∙◌, arith, pos, ◌*ℤ◌, FitsSigned}
use Rattle.std.proofs.lemmas.Int.{ints, to_z-of_z}
use mir.Syntax.{w32, w64}
use Rattle.areas.specs.Crossings.{is_in_any}
use Rattle.areas.specs.Inside.{is_inside_area}
use Rattle.areas.specs.declared.range.ColumnRange.{ColumnRange}
use Rattle.stroke_raster.specs.Covers.{between, centre}
use Rattle.stroke_raster.specs.Spans.{holds}
use Rattle.stroke_raster.proofs.FillRows.{row_below}
use Rattle.stroke_raster.proofs.Filled.{seen, unseen}
use Rattle.stroke_raster.proofs.placed_area.fill_row.Goals as goal

pub returns-then-not-is_between-clause-pixels : goal.returns-then-not-is_between-clause-pixels
returns-then-not-is_between-clause-pixels g c =
    let f = c.args.area.now in
    let y0 : FitsSigned w32 c.args.area.now.window.y0 = omega (arith, ints, c.requires.window.y0) in
    let y1 : FitsSigned w32 c.args.area.now.window.y1 = omega (arith, ints, c.requires.window.y1) in
    let h : FitsSigned w64 c.centre_of-height.result.y = omega (arith, ints, c.centre_of-height.ensures.small.y) in
    let tested = simp to_z-of_z at c.is_between.ensures in
    let level = rw c.centre_of-height.ensures.value at tested in
    λ r k u v.
    unseen (nat_eq r c.args.at) (between (pos f.dots.resolution *ℤ f.window.y0) (pos f.dots.resolution *ℤ f.window.y1) (centre f.page.height f.dots.resolution c.args.row k).y)
    (between (pos f.dots.resolution *ℤ f.window.x0) (pos f.dots.resolution *ℤ f.window.x1) (centre f.page.height f.dots.resolution c.args.row k).x)
    (is_inside_area f.rule f.dots.resolution f.edges.now (centre f.page.height f.dots.resolution c.args.row k).x (centre f.page.height f.dots.resolution c.args.row k).y)
    _ _ (sym level ∙ c.if-not-is_between.true)

pub fill_ranges-requires-clause-ranges : goal.fill_ranges-requires-clause-ranges
fill_ranges-requires-clause-ranges g c =
    rw (c.ranges-2.ensures, c.requires.width) (rw c.columns-count.ensures.count at c.next_row.ensures.ranges_in)

pub returns-clause-pixels : goal.returns-clause-pixels
returns-clause-pixels g c =
    let f = c.args.area.now in
    let y0 : FitsSigned w32 c.args.area.now.window.y0 = omega (arith, ints, c.requires.window.y0) in
    let y1 : FitsSigned w32 c.args.area.now.window.y1 = omega (arith, ints, c.requires.window.y1) in
    let h : FitsSigned w64 c.centre_of-height.result.y = omega (arith, ints, c.centre_of-height.ensures.small.y) in
    let tested = simp to_z-of_z at c.is_between.ensures in
    let level = rw c.centre_of-height.ensures.value at tested in
    let follows = c.requires.follows in
    let found = simp to_z-of_z at c.next_row.ensures.inside in
    let inside = (rw c.centre_of-height.ensures.value at found) f.edges.now follows.bottom follows.follows follows.above in
    λ r k u v.
    c.fill_ranges.ensures.pixels r k u v
    ∙ seen (nat_eq r c.args.at) (between (pos f.dots.resolution *ℤ f.window.y0) (pos f.dots.resolution *ℤ f.window.y1) (centre f.page.height f.dots.resolution c.args.row k).y)
    (between (pos f.dots.resolution *ℤ f.window.x0) (pos f.dots.resolution *ℤ f.window.x1) (centre f.page.height f.dots.resolution c.args.row k).x)
    (is_inside_area f.rule f.dots.resolution f.edges.now (centre f.page.height f.dots.resolution c.args.row k).x (centre f.page.height f.dots.resolution c.args.row k).y)
    (holds c.args.columns k) (is_in_any c.ranges-2.result.now k) _ _ (sym level ∙ c.if-not-is_between.false)
    (c.requires.columns k (omega (arith, v, c.requires.width)))
    (ap (λ (ranges : List ColumnRange). is_in_any ranges k) c.ranges-2.ensures ∙ inside k (omega (arith, v, c.requires.width, c.columns-count.ensures.count)))

pub returns-then-not-is_between-clause-follows : goal.returns-then-not-is_between-clause-follows
returns-then-not-is_between-clause-follows g c = λ bottom follows.
    let f = c.args.area.now in
    let h : FitsSigned w64 c.centre_of-height.result.y = omega (arith, ints, c.centre_of-height.ensures.small.y) in
    let next = simp to_z-of_z at c.next_row.ensures.next in
    let lower = (rw c.centre_of-height.ensures.value at next) f.edges.now bottom follows in
    rw (row_below f.page.height f.dots.resolution c.args.row) at lower

pub returns-clause-follows : goal.returns-clause-follows
returns-clause-follows g c = λ bottom follows.
    let f = c.args.area.now in
    let h : FitsSigned w64 c.centre_of-height.result.y = omega (arith, ints, c.centre_of-height.ensures.small.y) in
    let next = simp to_z-of_z at c.next_row.ensures.next in
    let lower = (rw c.centre_of-height.ensures.value at next) f.edges.now bottom follows in
    rw (row_below f.page.height f.dots.resolution c.args.row) at lower
