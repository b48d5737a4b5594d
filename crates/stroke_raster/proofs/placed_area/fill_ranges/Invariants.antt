use Rattle.std.proofs.Common.{◌≡◌, ◌<◌, ◌&&◌, ℕ, cond, nat_eq, take}
use Rattle.areas.specs.Crossings.{is_in_any}
use Rattle.stroke_raster.specs.Spans.{holds}
use Rattle.stroke_raster.proofs.placed_area.fill_ranges.Given as goal

-- the ranges so far are filled
abbrev pub invariant-loop-range : goal.invariant-loop-range
invariant-loop-range g l =
    let canvas = g.C.Canvas in
    record {
      sound : canvas.is_sound l.canvas;
      height : canvas.height l.canvas ≡ canvas.height l.fn.canvas;
      width : canvas.width l.canvas ≡ canvas.width l.fn.canvas;
      pixels : (r k : ℕ) → r < canvas.height l.fn.canvas → k < canvas.width l.fn.canvas → canvas.pixel l.canvas r k
          ≡ cond (nat_eq r l.at && (holds l.columns k && is_in_any (take l.range-index l.ranges) k)) (canvas.mark l.position) (canvas.pixel l.fn.canvas r k);
    }
