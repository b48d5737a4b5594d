use Rattle.std.proofs.Common.{◌≡◌, drop}
use Rattle.full_plot.specs.Polygons.{reached_all}
use Rattle.full_plot.proofs.polygons_traced.reach_places.Given as goal

-- the places that are left lead to what all of them lead to
abbrev pub invariant-loop-place : goal.invariant-loop-place
invariant-loop-place l = reached_all l.is_drawn l.buffer (drop l.place-index l.places) ≡ reached_all l.fn.is_drawn l.fn.buffer l.fn.places
