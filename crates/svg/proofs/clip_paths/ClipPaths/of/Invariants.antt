use Rattle.std.proofs.Common.{◌≡◌, ◌≤◌, length, drop}
use Rattle.stroke_runs.specs.Drawn.{drawn}
use Rattle.svg.specs.Clips.{clips_of, with_clips}
use Rattle.svg.proofs.clip_paths.ClipPaths.of.Given as goal

-- with what the strokes that are left are clipped to, they are all
abbrev pub invariant-loop-stroke : goal.invariant-loop-stroke
invariant-loop-stroke l = record {
  all : with_clips l.page l.rectangles.keys (drawn l.pens (drop l.stroke-index l.strokes)) ≡ clips_of l.page l.pens l.strokes;
  few : length l.rectangles.keys ≤ l.stroke-index;
}
