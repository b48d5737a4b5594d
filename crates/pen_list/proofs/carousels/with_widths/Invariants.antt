use Rattle.std.proofs.Common.{◌≡◌, ◌<◌, ◌&&◌, ℕ, nat_lt, Some, if◌then◌else◌}
use Rattle.plot_page.specs.Pens.{has_pen}
use Rattle.carousel.specs.Carousels.{colour_of, width_of}
use Rattle.pen_list.proofs.carousels.with_widths.Given as goal

-- the pens below the next one have the width, if they are among those
abbrev pub invariant-loop-pen : goal.invariant-loop-pen
invariant-loop-pen l = record {
  given : (pen : ℕ) → pen < 256 → width_of l.all pen
      ≡ (if has_pen l.pens pen && nat_lt pen l.pen then Some l.width else width_of l.fn.carousel pen);
  kept : (pen : ℕ) → pen < 256 → colour_of l.all pen ≡ colour_of l.fn.carousel pen;
}
