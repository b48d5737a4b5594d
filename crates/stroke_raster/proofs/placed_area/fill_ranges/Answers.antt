use Rattle.std.proofs.Common.{ℕ, take, get_or, ap, sym, ◌∙◌, refl, cond, ◌&&◌, nat_eq, Bool, arith}
use Rattle.std.proofs.lemmas.List.{take_all}
use Rattle.std.proofs.lemmas.List.Folds.{list_any_more}
use Rattle.areas.specs.Crossings.{is_in, is_in_any}
use Rattle.areas.specs.declared.range.ColumnRange.{ColumnRange}
use Rattle.stroke_raster.specs.Spans.{holds}
use Rattle.stroke_raster.proofs.Filled.{filled_more, filled_none}
use Rattle.stroke_raster.proofs.placed_area.fill_ranges.Goals as goal

abbrev nowhere : ColumnRange
nowhere = record { first = 0; end = 0 }

pub loop-range-init : goal.loop-range-init
loop-range-init g c = record {
  sound = c.requires.sound;
  height = refl;
  width = refl;
  pixels = λ r k u v. filled_none (nat_eq r c.args.at) (holds c.args.columns k) _ _;
}

pub fill-requires-clause-sound : goal.fill-requires-clause-sound
fill-requires-clause-sound g c = c.loop-range.invariant.sound

pub fill-requires-clause-tall : goal.fill-requires-clause-tall
fill-requires-clause-tall g c = omega (arith, c.loop-range.invariant.height, c.requires.at_in)

pub fill-requires-clause-wide : goal.fill-requires-clause-wide
fill-requires-clause-wide g c =
    let r = c.requires.ranges c.loop-range.range-index nowhere c.loop-range-test.true in
    omega (arith, r.some, r.within, c.common-span.ensures.end, c.loop-range.invariant.width)

pub loop-range-preserved : goal.loop-range-preserved
loop-range-preserved g c =
    let inv = c.loop-range.invariant in
    let ranges = c.args.ranges.now in
    let i = c.loop-range.range-index in
    let mark = g.C.Canvas.mark c.args.position in
    record {
      sound = c.fill.ensures.sound;
      height = c.fill.ensures.height ∙ inv.height;
      width = c.fill.ensures.width ∙ inv.width;
      pixels = λ r k u v.
          let here : Bool = nat_eq r c.args.at in
          let old : ℕ = g.C.Canvas.pixel c.args.canvas.now r k in
          c.fill.ensures.pixels r k (omega (arith, u, inv.height)) (omega (arith, v, inv.width))
          ∙ ap (λ (x : ℕ). cond (nat_eq r c.args.at && holds c.common-span.result k) (g.C.Canvas.mark c.args.position) x) (inv.pixels r k u v)
          ∙ filled_more (nat_eq r c.args.at) (holds c.args.columns k) (is_in (get_or ranges i nowhere) k) (is_in_any (take i ranges) k) (holds c.common-span.result k)
          (g.C.Canvas.mark c.args.position) (g.C.Canvas.pixel c.args.canvas.now r k) (c.common-span.ensures.held k)
          ∙ ap (λ (b : Bool). cond (nat_eq r c.args.at && (holds c.args.columns k && b)) (g.C.Canvas.mark c.args.position) (g.C.Canvas.pixel c.args.canvas.now r k))
          (sym (list_any_more (λ range. is_in range k) ranges i nowhere c.loop-range-test.true));
    }

pub returns : goal.returns
returns g c =
    let inv = c.loop-range.invariant in
    let e = take_all c.loop-range.range-index c.args.ranges.now c.loop-range-test.false in
    record {
      sound = inv.sound;
      height = inv.height;
      width = inv.width;
      pixels = λ r k u v. rw e at (inv.pixels r k u v);
    }
