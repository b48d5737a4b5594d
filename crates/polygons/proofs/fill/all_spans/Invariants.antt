use Rattle.std.proofs.Common.{◌≡◌, ◌++◌, length}
use Rattle.std.specs.List.{flat_map}
use Rattle.polygons.specs.Fills.{spans}
use Rattle.polygons.proofs.fill.all_spans.Given as goal

abbrev pub invariant-lines : goal.invariant-lines
invariant-lines l = l.found.items ++ flat_map (λ line. line) l.fill ≡ spans l.fn.lines l.fn.rule l.fn.edges

abbrev pub decreases-lines : goal.decreases-lines
decreases-lines l = length l.fill
