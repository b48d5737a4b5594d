use Rattle.std.proofs.Common.{◌≡◌, ◌<◌, ◌≤◌, ◌||◌, ℕ, drop}
use Rattle.plot_page.specs.Pens.{has_pen}
use Rattle.pen_list.proofs.Ranges.{NoComma}
use Rattle.pen_list.specs.Lists.{are_ranges, ranges_have}
use Rattle.pen_list.proofs.list.read_ranges.Given as goal

-- what was read and what is left list the pens of the whole text
abbrev pub invariant-loop-at : goal.invariant-loop-at
invariant-loop-at l = record {
  from : l.from ≤ l.at;
  no_comma : NoComma l.text l.from l.at;
  good : are_ranges (drop l.from l.text) ≡ are_ranges l.text;
  listed : (pen : ℕ) → pen < 256 → (has_pen l.pens pen || ranges_have (drop l.from l.text) pen) ≡ ranges_have l.text pen;
}
