use Rattle.std.proofs.Common.{◌≡◌, ℕ, map}
use Rattle.std.specs.List.{range_with_len}
use Rattle.hpgl_plot.specs.Frames.{place}
use Rattle.hpgl_plot.specs.Paths.{curve_point}
use Rattle.hpgl_plot.proofs.plotter.Plotter.chord_places.Given as goal

-- the places so far
abbrev pub invariant-loop-k : goal.invariant-loop-k
invariant-loop-k l =
    l.places.items ≡ map (λ (k : ℕ). place l.self.page l.self.state.frame (curve_point l.curve k)) (range_with_len 1 l.k)
