use Rattle.std.proofs.Common.{List, drop, take, ap, ◌∙◌, arith, pos, ◌-ℤ◌, rules, FitsSigned}
use mir.Syntax.{w64}
use Rattle.std.proofs.lemmas.Int.{ints, to_z-of_z}
use Rattle.std.proofs.lemmas.List.{with_items_is}
use Rattle.std.specs.Vec.{with_items}
use Rattle.areas.specs.declared.crossing.Crossing.{Crossing}
use Rattle.areas.specs.declared.range.ColumnRange.{ColumnRange}
use Rattle.areas.specs.Crossings.{AreCrossings, is_in_any, is_inside_at}
use Rattle.areas.proofs.Descent.{part_is}
use Rattle.areas.proofs.Gathered.{all_somewhere, inside_is}
use Rattle.areas.proofs.Sweeping.{swept_below}
use Rattle.areas.proofs.sweep.AreaSweep.next_row.Goals as goal

pub cross-count-requires-clause-in_row : goal.cross-count-requires-clause-in_row
cross-count-requires-clause-in_row c =
    let fh : FitsSigned w64 c.args.height = search rules in
    let s = c.requires.follows in
    let near = c.start_among-self.new.near in
    let at = c.start_among-self.result in
    let end = c.args.self.now.end in
    let written = with_items_is c.args.self.now.near near (omega (arith, c.start_among-self.ensures.same, c.as_mut_slice.ensures.len, c.args.self.now.near.ok.0)) in
    let starts = rw c.as_mut_slice.ensures.value at (simp to_z-of_z at c.start_among-self.ensures.swept) in
    let swept = starts s.edges s.low s.follows.swept in
    let part = part_is at end near (omega (arith, c.start_among-self.ensures.few, s.follows.order)) in
    simp to_z-of_z (rw (c.as_slice.ensures.value ∙ written, part) swept.in_row)

pub descend_among-kept-requires-clause-somewhere : goal.descend_among-kept-requires-clause-somewhere
descend_among-kept-requires-clause-somewhere c =
    let fh : FitsSigned w64 c.args.height = search rules in
    let s = c.requires.follows in
    let near = c.start_among-self.new.near in
    let at = c.start_among-self.result in
    let end = c.args.self.now.end in
    let written = with_items_is c.args.self.now.near near (omega (arith, c.start_among-self.ensures.same, c.as_mut_slice.ensures.len, c.args.self.now.near.ok.0)) in
    let starts = rw c.as_mut_slice.ensures.value at (simp to_z-of_z at c.start_among-self.ensures.swept) in
    let swept = starts s.edges s.low s.follows.swept in
    let few = c.args.dots.at_most in
    rw (c.as_mut_slice-3.ensures.value ∙ written) (all_somewhere c.args.dots.resolution c.args.height few c.requires.near (drop at (take end near)) swept.in_row)

pub divide-self-requires-clause-within : goal.divide-self-requires-clause-within
divide-self-requires-clause-within c =
    let fh : FitsSigned w64 c.args.height = search rules in
    let row = c.cross-count.new.room in
    let kept = with_items_is c.args.self.now.crossings row (omega (arith, c.cross-count.ensures.same, c.as_mut_slice-2.ensures.len, c.args.self.now.crossings.ok.0)) in
    let are = simp to_z-of_z at c.cross-count.ensures.are in
    rw (c.as_slice-2.ensures.value ∙ kept) are.within

pub returns-clause-inside : goal.returns-clause-inside
returns-clause-inside c edges low follows above k l =
    let fh : FitsSigned w64 c.args.height = search rules in
    let r = c.args.dots.resolution in
    let near = c.start_among-self.new.near in
    let at = c.start_among-self.result in
    let end = c.args.self.now.end in
    let written = with_items_is c.args.self.now.near near (omega (arith, c.start_among-self.ensures.same, c.as_mut_slice.ensures.len, c.args.self.now.near.ok.0)) in
    let starts = rw c.as_mut_slice.ensures.value at (simp to_z-of_z at c.start_among-self.ensures.swept) in
    let swept = starts edges low follows.swept in
    let under = simp to_z-of_z at c.start_among-self.ensures.below in
    let part = part_is at end near (omega (arith, c.start_among-self.ensures.few, follows.order)) in
    let row = c.cross-count.new.room in
    let ranged = with_items_is c.args.self.now.ranges c.divide-self.new.room (omega (arith, c.divide-self.ensures.same, c.as_mut_slice-4.ensures.len, c.args.self.now.ranges.ok.0)) in
    let kept = with_items_is c.args.self.now.crossings row (omega (arith, c.cross-count.ensures.same, c.as_mut_slice-2.ensures.len, c.args.self.now.crossings.ok.0)) in
    let seen = c.as_slice-2.ensures.value ∙ kept in
    let from : AreCrossings r c.args.height c.args.columns (drop at (take end near)) (take c.cross-count.result row) =
    rw (c.as_slice.ensures.value ∙ written, part) at (simp to_z-of_z at c.cross-count.ensures.are) in
    ap (λ (ranges : List ColumnRange). is_in_any (take c.divide-self.result ranges) k) ranged
    ∙ c.divide-self.ensures.inside k l
    ∙ ap (λ (crossings : List Crossing). is_inside_at c.args.rule (take c.cross-count.result crossings) k) seen
    ∙ inside_is r c.args.height c.args.columns c.args.rule edges low (take at near) (drop at (take end near)) _ k l above swept under from

pub returns-clause-next : goal.returns-clause-next
returns-clause-next c edges low follows =
    let fh : FitsSigned w64 c.args.height = search rules in
    let r = c.args.dots.resolution in
    let near = c.start_among-self.new.near in
    let at = c.start_among-self.result in
    let end = c.args.self.now.end in
    let after = c.descend_among-kept.new.near in
    let written = with_items_is c.args.self.now.near near (omega (arith, c.start_among-self.ensures.same, c.as_mut_slice.ensures.len, c.args.self.now.near.ok.0)) in
    let rewritten = with_items_is (with_items c.args.self.now.near near) after
    (omega (arith, c.descend_among-kept.ensures.same, c.as_mut_slice-3.ensures.len, c.start_among-self.ensures.same, c.as_mut_slice.ensures.len, c.args.self.now.near.ok.0)) in
    let starts = rw c.as_mut_slice.ensures.value at (simp to_z-of_z at c.start_among-self.ensures.swept) in
    let swept = starts edges low follows.swept in
    let read = c.as_mut_slice-3.ensures.value ∙ written in
    let lower : FitsSigned w64 (c.args.height -ℤ pos 16256) = omega (arith, ints, c.requires.near) in
    let moved = rw read at (simp to_z-of_z at c.descend_among-kept.ensures.below) in
    let waiting = rw read at c.descend_among-kept.ensures.waiting in
    let row = c.cross-count.new.room in
    let ranges = with_items_is c.args.self.now.ranges c.divide-self.new.room (omega (arith, c.divide-self.ensures.same, c.as_mut_slice-4.ensures.len, c.args.self.now.ranges.ok.0)) in
    let crossings = with_items_is c.args.self.now.crossings row (omega (arith, c.cross-count.ensures.same, c.as_mut_slice-2.ensures.len, c.args.self.now.crossings.ok.0)) in
    record {
      order = omega arith;
      few = rw rewritten (omega (arith, follows.few, c.descend_among-kept.ensures.few, c.descend_among-kept.ensures.same, c.as_mut_slice-3.ensures.len, c.start_among-self.ensures.same, c.as_mut_slice.ensures.len));
      crossings = rw crossings (omega (arith, follows.crossings, c.descend_among-kept.ensures.few, c.cross-count.ensures.same, c.as_mut_slice-2.ensures.len));
      ranges = rw ranges (omega (arith, follows.ranges, c.descend_among-kept.ensures.few, c.divide-self.ensures.same, c.as_mut_slice-4.ensures.len));
      swept = rw (rewritten, waiting) (swept_below r edges low c.args.height (take at near) (drop at (take end near)) _ swept moved);
    }
