use Rattle.std.proofs.Common.{◌+◌, ◌-◌, ◌≤◌, ◌&&◌, ℕ, cond, nat_eq, refl, ap, sym, ◌∙◌, arith, FitsSigned}
use mir.Syntax.{w64}
use Rattle.std.proofs.lemmas.Int.{ints, to_z-of_z}
use Rattle.stroke_raster.specs.PlacedAreas.{fills}
use Rattle.stroke_raster.proofs.FillRows.{not_below_last}
use Rattle.stroke_raster.proofs.Filled.{not_true, row_before, row_next, rows_all}
use Rattle.stroke_raster.proofs.placed_area.fill_area.Goals as goal

pub loop-row-init : goal.loop-row-init
loop-row-init g c =
    let top : FitsSigned w64 c.centre_of-top.result.y = omega (arith, ints, c.centre_of-top.ensures.small.y) in
    let bottom : FitsSigned w64 c.centre_of-bottom.result.y = omega (arith, ints, c.centre_of-bottom.ensures.small.y) in
    let begun = simp to_z-of_z at c.begin.ensures.follows in
    let follows = rw c.centre_of-top.ensures.value at begun in
    record {
      sound = c.requires.sound;
      height = refl;
      width = refl;
      room = c.begin.ensures.room;
      follows = simp to_z-of_z follows;
      pixels = λ r k u v. row_before (c.args.band.low + r) c.max-low.result (fills c.args.area.now (c.args.band.low + r) k) _ _
          (λ l. not_true _ (λ f. let x = c.requires.held (c.args.band.low + r) k (omega (arith, u, c.requires.height, c.requires.on_page)) f in omega (arith, x.0, l, c.max-low.ensures)));
    }

pub loop-row-preserved : goal.loop-row-preserved
loop-row-preserved g c =
    let inv = c.loop-row.invariant in
    let low : c.args.band.low ≤ c.loop-row.row = omega (arith, c.loop-row.auto.row, c.max-low.ensures, c.loop-row-test.true, c.min-end.ensures) in
    record {
      sound = c.fill_row.ensures.sound;
      height = c.fill_row.ensures.height ∙ inv.height;
      width = c.fill_row.ensures.width ∙ inv.width;
      room = λ n h. c.fill_row.ensures.room n (inv.room n h);
      follows = c.fill_row.ensures.follows _ inv.follows;
      pixels = λ r k u v.
          c.fill_row.ensures.pixels r k (omega (arith, u, inv.height)) (omega (arith, v, inv.width))
          ∙ ap (λ (x : ℕ). cond (nat_eq r (c.loop-row.row - c.args.band.low) && fills c.args.area.now c.loop-row.row k) (g.C.Canvas.mark c.args.position) x) (inv.pixels r k u v)
          ∙ row_next c.args.band.low r c.loop-row.row (c.loop-row.row - c.args.band.low) (fills c.args.area.now (c.args.band.low + r) k) (fills c.args.area.now c.loop-row.row k) _ _
          (omega (arith, low)) (λ e. ap (λ (n : ℕ). fills c.args.area.now n k) (sym e));
    }

pub returns : goal.returns
returns g c =
    let inv = c.loop-row.invariant in
    record {
      sound = inv.sound;
      height = inv.height;
      width = inv.width;
      pixels = λ r k u v. inv.pixels r k u v
          ∙ rows_all (c.args.band.low + r) c.loop-row.row (fills c.args.area.now (c.args.band.low + r) k) _ _
          (λ l. not_true _ (λ f. let x = c.requires.held (c.args.band.low + r) k (omega (arith, u, c.requires.height, c.requires.on_page)) f in
          omega (arith, x.1, l, u, c.requires.height, c.loop-row-test.false, c.min-end.ensures, c.max-low.ensures)));
      room = inv.room;
    }

pub fill_row-requires-clause-follows : goal.fill_row-requires-clause-follows
fill_row-requires-clause-follows g c =
    let f = c.args.area.now in
    let bottom : FitsSigned w64 c.centre_of-bottom.result.y = omega (arith, ints, c.centre_of-bottom.ensures.small.y) in
    let above = not_below_last f.page.height f.dots.resolution c.loop-row.row (c.min-end.result - 1) (omega (arith, c.loop-row-test.true)) in
    record {
      bottom = _;
      above = simp to_z-of_z (rw c.centre_of-bottom.ensures.value above);
      follows = c.loop-row.invariant.follows;
    }
