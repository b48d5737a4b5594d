use Rattle.std.proofs.Common.{◌≡◌, ◌≤◌, length, vec_capacity}
use Rattle.image_rows.specs.Changes.{changes}
use Rattle.image_rows.specs.Rows.{changed, sized, breaks_off_from}
use Rattle.image_rows.specs.Views.{IsBegun, going_on}
use Rattle.image_rows.proofs.row.put_changes.Given as goal

-- the row is done before the place, and the changes that are left make the rest of it
abbrev pub invariant-loop-rest : goal.invariant-loop-rest
invariant-loop-rest l = record {
  begun : IsBegun l.size l.plane.items;
  within : l.place ≤ length l.plane.items;
  row : sized l.size (going_on l.plane.items l.place (changes l.compression l.rest)) ≡ sized l.size (changed l.fn.plane.items (changes l.compression l.input));
  ending : breaks_off_from l.size l.place (changes l.compression l.rest) ≡ breaks_off_from l.size 0 (changes l.compression l.input);
  capacity : vec_capacity l.fn.plane ≤ vec_capacity l.plane;
}

abbrev pub decreases-loop-rest : goal.decreases-loop-rest
decreases-loop-rest l = length l.rest
