use Rattle.std.proofs.Common.{◌≡◌, ◌-◌}
use Rattle.image_colours.specs.Counts.{plane_count}
use Rattle.raster_graphics.specs.Rows.{filled}
use Rattle.raster_graphics.specs.Views.{sending_of}
use Rattle.raster_graphics.proofs.line.Line.fill.Given as goal

-- the planes that are left make of the row what all of them make of the row at the start
abbrev pub invariant-loop : goal.invariant-loop
invariant-loop l = record {
  end : l.end ≡ plane_count l.sending.settings.now.coding;
  left : filled (l.end - l.counter) (sending_of l.sending) l.self ≡ filled l.end (sending_of l.sending) l.fn.self;
}
