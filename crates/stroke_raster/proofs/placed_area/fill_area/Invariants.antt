use Rattle.std.proofs.Common.{◌≡◌, ◌+◌, ◌<◌, ◌&&◌, ℕ, cond, nat_lt}
use Rattle.areas.specs.Sweeps.{HasRoomFor}
use Rattle.stroke_raster.specs.PlacedAreas.{FollowsIn, fills}
use Rattle.stroke_raster.proofs.placed_area.fill_area.Given as goal

-- the rows so far are filled
abbrev pub invariant-loop-row : goal.invariant-loop-row
invariant-loop-row g l =
    let canvas = g.C.Canvas in
    record {
      sound : canvas.is_sound l.canvas;
      height : canvas.height l.canvas ≡ canvas.height l.fn.canvas;
      width : canvas.width l.canvas ≡ canvas.width l.fn.canvas;
      room : (edges : ℕ) → HasRoomFor edges l.fn.sweep → HasRoomFor edges l.sweep;
      follows : FollowsIn l.area l.bottom l.row l.sweep;
      pixels : (r k : ℕ) → r < canvas.height l.fn.canvas → k < canvas.width l.fn.canvas → canvas.pixel l.canvas r k
          ≡ cond (nat_lt (l.band.low + r) l.row && fills l.area (l.band.low + r) k) (canvas.mark l.position) (canvas.pixel l.fn.canvas r k);
    }
