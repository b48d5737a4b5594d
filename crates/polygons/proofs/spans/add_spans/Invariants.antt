use Rattle.std.proofs.Common.{◌≡◌, ◌++◌, ◌<◌, [], map, take, drop, length, get_or, count_by, not}
use Rattle.polygons.specs.Fills.{spans_after}
use Rattle.polygons.specs.Climbs.{bare}
use Rattle.polygons.proofs.spans.add_spans.Given as goal

abbrev pub invariant-loop-crossing : goal.invariant-loop-crossing
invariant-loop-crossing l = record {
  rest_is : l.rest ≡ drop 1 l.crossings;
  some : l.crossing-index < length l.crossings;
  last_is : bare l.last ≡ get_or (map bare l.crossings) l.crossing-index (bare l.last);
  upward_is : l.upward ≡ count_by (λ c. c.is_upward) (take l.crossing-index (map bare l.crossings));
  others_is : l.others ≡ count_by (λ c. not c.is_upward) (take l.crossing-index (map bare l.crossings));
  spans_are : l.spans.items ++ spans_after l.rule (take l.crossing-index (map bare l.crossings)) (drop l.crossing-index (map bare l.crossings))
      ≡ l.fn.spans.items ++ spans_after l.rule [] (map bare l.crossings);
}
