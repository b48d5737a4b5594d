use Rattle.std.proofs.Common.{◌≡◌, ◌<◌, ◌||◌, ◌&&◌, ℕ, nat_lt}
use Rattle.plot_page.specs.Pens.{has_pen}
use Rattle.pen_list.specs.Lists.{is_between}
use Rattle.pen_list.proofs.range.PenRange.added_to.Given as goal

-- the pens of the range that are below the next one are in
abbrev pub invariant-loop-pen : goal.invariant-loop-pen
invariant-loop-pen l = (pen : ℕ) → pen < 256
    → has_pen l.all pen ≡ (has_pen l.fn.pens pen || (is_between l.fn.self.first pen l.fn.self.last && nat_lt pen l.pen))
