use Rattle.std.proofs.Common.{◌≡◌, ℕ, ◌<◌, length, sym, ap, ◌∙◌, arith}
use Rattle.areas.specs.Views.{areas_in}
use Rattle.stroke_raster.specs.Slots.{band_of, goes_on}
use Rattle.stroke_raster.proofs.Chains.{build_start, build_step, build_end}
use Rattle.stroke_raster.proofs.walk.chain.Goals as goal

pub slots-init : goal.slots-init
slots-init c =
    let s = c.args.scene.now in
    let band = band_of s.pens s.strokes.now (areas_in s.areas) s.page s.dots s.first_row s.band_rows (length c.args.heads.now) in
    record {
      within = omega arith;
      built = build_start (length s.strokes.now) (length c.args.heads.now) band c.args.heads.now c.args.links.now c.requires.none c.requires.zero;
    }

pub slots-preserved : goal.slots-preserved
slots-preserved c =
    let s = c.args.scene.now in
    let xs = c.args.scene.now.strokes.now in
    let inv = c.slots.invariant in
    let fit = inv.within in
    let pos : 0 < c.slots.slot = omega (arith, c.slots-test.true) in
    let lh : length c.slots.heads ≡ length c.args.heads.now = omega (arith, c.slots.auto.heads) in
    let e : length c.link.new.heads ≡ length c.slots.heads = omega (arith, c.link.auto.heads) in
    let x : c.band_of_slot-band.result ≡ band_of s.pens s.strokes.now (areas_in s.areas) s.page s.dots s.first_row s.band_rows (length c.slots.heads) c.slots.slot =
    c.band_of_slot-band.ensures ∙ ap (λ (b : ℕ). band_of s.pens s.strokes.now (areas_in s.areas) s.page s.dots s.first_row s.band_rows b c.slots.slot) (sym lh) in
    record {
      within = omega arith;
      built = rw e (build_step (length xs) (band_of s.pens s.strokes.now (areas_in s.areas) s.page s.dots s.first_row s.band_rows (length c.slots.heads)) c.slots.heads c.slots.links c.link.new.heads c.link.new.links c.slots.slot c.band_of_slot-band.result
          pos fit (omega (arith, c.slots.auto.links, c.requires.slots)) x c.link.ensures.heads c.link.ensures.links inv.built);
    }

pub returns : goal.returns
returns c =
    let s = c.args.scene.now in
    let xs = c.args.scene.now.strokes.now in
    let z : c.slots.slot ≡ 0 = omega (arith, c.slots-test.false) in
    record { linked = build_end (length xs) (length c.slots.heads) (band_of s.pens s.strokes.now (areas_in s.areas) s.page s.dots s.first_row s.band_rows (length c.slots.heads)) (goes_on s.strokes.now (areas_in s.areas) s.page s.dots s.first_row s.band_rows) c.slots.heads c.slots.links (rw z at c.slots.invariant.built) }
