use Rattle.std.proofs.Common.{◌≡◌, ◌++◌, map}
use Rattle.std.specs.List.{range_with_len}
use Rattle.full_plot.specs.Wedges.{wedge_place}
use Rattle.full_plot.proofs.plotter.FullPlotter.go_round.Given as goal

-- the places so far
abbrev pub invariant-loop-k : goal.invariant-loop-k
invariant-loop-k l =
    l.places.items ≡ l.fn.places.items ++ map (wedge_place l.self.plotter.page l.self.plotter.state l.wedge) (range_with_len 0 l.k)
