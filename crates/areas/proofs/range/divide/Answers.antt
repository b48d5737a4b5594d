use Rattle.std.proofs.Common.{List, ap, ◌∙◌}
use Rattle.areas.specs.declared.range.ColumnRange.{ColumnRange}
use Rattle.areas.specs.Crossings.{is_in_any}
use Rattle.areas.proofs.Ranges.{ranges_all, ranges_done, ranges_in}
use Rattle.areas.proofs.range.divide.Goals as goal

pub returns-clause-inside : goal.returns-clause-inside
returns-clause-inside c k l =
    let cs = c.args.crossings.now in
    let done = ranges_done c.args.rule c.args.columns cs _ _ _ _ _ _ _ c.loop-crossing-test.false c.loop-crossing.invariant.0 c.is_inside-is_inside-2.ensures c.add_range.ensures.added in
    ap (λ (ranges : List ColumnRange). is_in_any ranges k) done ∙ ranges_all c.args.rule c.args.columns cs k c.requires.ordered l

pub returns-clause-ranges : goal.returns-clause-ranges
returns-clause-ranges c =
    let cs = c.args.crossings.now in
    let done = ranges_done c.args.rule c.args.columns cs _ _ _ _ _ _ _ c.loop-crossing-test.false c.loop-crossing.invariant.0 c.is_inside-is_inside-2.ensures c.add_range.ensures.added in
    rw done (ranges_in c.args.rule c.args.columns cs 0 0 0 c.requires.within)
