use Rattle.std.proofs.Common.{◌≡◌, ◌<◌, ℕ, get_or, true}
use Rattle.plot_page.specs.Segments.{Segment}
use Rattle.plot_page.specs.Pens.{has_pen}
use Rattle.rows.proofs.bit_numbers.are_bits.Given as goal

-- the number of each selected stroke so far is 1
abbrev pub invariant-loop-at : goal.invariant-loop-at
invariant-loop-at l = record {
  so_far : (k : ℕ) (s : Segment) → k < l.at → has_pen l.pens (get_or l.strokes k s).pen ≡ true → get_or l.numbers k 0 ≡ 1;
}
