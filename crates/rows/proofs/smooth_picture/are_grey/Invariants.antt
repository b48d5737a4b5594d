use Rattle.std.proofs.Common.{◌≡◌, ◌<◌, ℕ, get_or, true}
use Rattle.plot_page.specs.Segments.{Segment}
use Rattle.plot_page.specs.Pens.{has_pen}
use Rattle.rows.proofs.smooth_picture.are_grey.Given as goal

-- the colour of each selected stroke so far is a shade of grey
abbrev pub invariant-loop-stroke : goal.invariant-loop-stroke
invariant-loop-stroke l = record {
  so_far : (k : ℕ) (s : Segment) → k < l.stroke-index → has_pen l.pens (get_or l.strokes k s).pen ≡ true
      → ((get_or l.strokes k s).colour.green ≡ (get_or l.strokes k s).colour.red) × ((get_or l.strokes k s).colour.blue ≡ (get_or l.strokes k s).colour.red);
}
