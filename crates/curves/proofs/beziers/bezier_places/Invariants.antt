use Rattle.std.proofs.Common.{◌≡◌, ◌^◌, map}
use Rattle.std.specs.List.{All, range_with_len}
use Rattle.directions.specs.Bounds.{IsWithin}
use Rattle.curves.specs.Beziers.{curve_place}
use Rattle.curves.proofs.beziers.bezier_places.Given as goal

abbrev pub invariant-loop-k : goal.invariant-loop-k
invariant-loop-k l = record {
  value : l.places.items ≡ map (λ j. curve_place l.chords j l.fn.p0 l.fn.p1 l.fn.p2 l.fn.p3) (range_with_len 1 l.k);
  within : All (IsWithin (2 ^ 27)) l.places.items;
}
