use Rattle.std.proofs.Common.{◌≡◌, ◌≤◌, ◌+◌, ◌-◌, min, take, length}
use Rattle.plot_page.specs.Segments.{Segment}
use Rattle.stroke_raster.specs.Boxes.{in_box, selected, boxes}
use Rattle.stroke_raster.specs.Canvases.{Shows}
use Rattle.stroke_raster.specs.Chains.{Ahead, Kept}
use Rattle.areas.specs.Views.{areas_in}
use Rattle.stroke_raster.specs.Painters.{HasRoomForAll}
use Rattle.stroke_raster.specs.Scenes.{scene_test, width_of}
use Rattle.stroke_raster.specs.Slots.{band_of, goes_on}
use Rattle.stroke_raster.specs.Tests.{MOST_TESTS}
use Rattle.stroke_raster.proofs.walk.paint_band.Given as goal

-- the slots before `slot` are painted, and those of them that go on are chained
abbrev pub invariant-slots : goal.invariant-slots
invariant-slots g l =
    let reaches = g.G.Gauge.reaches in
    let count = g.G.Gauge.count in
    let canvas = g.C.Canvas in
    let covers = λ (s : Segment). reaches l.fn.gauge s l.scene.page l.scene.dots in
    let inside = λ (s : Segment). in_box s l.scene.page l.scene.dots in
    let areas = areas_in l.scene.areas in
    let band = band_of l.scene.pens l.scene.strokes.now areas l.scene.page l.scene.dots l.scene.first_row l.scene.band_rows (length l.heads) in
    let goes = goes_on l.scene.strokes.now areas l.scene.page l.scene.dots l.scene.first_row l.scene.band_rows in
    let painted = take (l.slot - 1) l.scene.strokes.now in
    record {
      lesser : l.slot ≡ min l.old l.new;
      ahead : Ahead (length l.scene.strokes.now) band goes l.band l.fn.links l.links l.old l.new (min l.old l.new);
      kept : Kept (length l.scene.strokes.now) band goes l.band l.links l.tail (min l.old l.new);
      sound : canvas.is_sound l.canvas;
      height : canvas.height l.canvas ≡ l.rows;
      width : canvas.width l.canvas ≡ width_of l.scene;
      room : HasRoomForAll l.scene.strokes.now areas l.sweep;
      shows : Shows (canvas.pixel l.canvas) canvas.mark (scene_test (reaches l.fn.gauge) l.scene) (l.slot - 1) l.first l.rows (width_of l.scene);
      same : reaches l.gauge ≡ reaches l.fn.gauge;
      least : min (count l.fn.gauge + boxes covers (selected l.scene.pens painted) l.first l.rows (width_of l.scene)) MOST_TESTS ≤ count l.gauge;
      most : count l.gauge ≤ count l.fn.gauge + boxes inside (selected l.scene.pens painted) l.first l.rows (width_of l.scene);
      grows : count l.fn.gauge ≤ count l.gauge;
    }

abbrev pub decreases-slots : goal.decreases-slots
decreases-slots g l = length l.scene.strokes.now + 1 - l.slot
