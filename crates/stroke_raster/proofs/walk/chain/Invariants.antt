use Rattle.std.proofs.Common.{◌≤◌, length}
use Rattle.areas.specs.Views.{areas_in}
use Rattle.stroke_raster.specs.Chains.{Built}
use Rattle.stroke_raster.specs.Slots.{band_of}
use Rattle.stroke_raster.proofs.walk.chain.Given as goal

-- the slots after `slot` are chained
abbrev pub invariant-slots : goal.invariant-slots
invariant-slots l = record {
  within : l.slot ≤ length l.scene.strokes.now;
  built : Built (length l.scene.strokes.now) (length l.heads) (band_of l.scene.pens l.scene.strokes.now (areas_in l.scene.areas) l.scene.page l.scene.dots l.scene.first_row l.scene.band_rows (length l.heads)) l.heads l.links l.slot;
}

abbrev pub decreases-slots : goal.decreases-slots
decreases-slots l = l.slot
