use Rattle.std.proofs.Common.{◌≡◌, ◌+◌, ◌∙◌, ◌++◌, ◌∷◌, [], lit<, length, sym, rules}
use Rattle.std.proofs.lemmas.Iterator.Consumers.{YieldsList-turn, YieldsList-end}
use Rattle.std.proofs.lemmas.Iterator.Splits.{YieldsList-from_str_split}
use Rattle.std.proofs.lemmas.List.{length_push}
use Rattle.pen_list.proofs.Given.{all_given, bad_here, bad_later, has_next, none_bad}
use Rattle.pen_list.specs.Assignments.{assignments}
use Rattle.pen_list.specs.Widths.{width_written}
use Rattle.pen_list.proofs.carousels.read_widths.Goals as goal

pub returns-in_default-clause-bad : goal.returns-in_default-clause-bad
returns-in_default-clause-bad c =
    let its = assignments c.args.text.now in
    let turn = YieldsList-turn (YieldsList-from_str_split {s = c.into_iter-assignment-iterator.result} 44 c.args.text.now (lit< tt) (search rules) (search rules) (search rules)) c.loop-assignment.yielded _ c.loop-assignment.yielded_by _ _ c.in-Some.assignment c.in-Some.is c.next.ensures.steps in
    let here = bad_here width_written its (length c.loop-assignment.yielded) c.in-Some.assignment.now turn.0 turn.1 (sym c.in_default.ensures.found) in
    sym c.loop-assignment.invariant.good ∙ here

pub loop-assignment-preserved : goal.loop-assignment-preserved
loop-assignment-preserved c =
    let its = assignments c.args.text.now in
    let n = length c.loop-assignment.yielded in
    let it = c.in-Some.assignment.now in
    let turn = YieldsList-turn (YieldsList-from_str_split {s = c.into_iter-assignment-iterator.result} 44 c.args.text.now (lit< tt) (search rules) (search rules) (search rules)) c.loop-assignment.yielded _ c.loop-assignment.yielded_by _ _ c.in-Some.assignment c.in-Some.is c.next.ensures.steps in
    let more : length (c.loop-assignment.yielded ++ c.in-Some.assignment ∷ []) ≡ n + 1 = length_push c.loop-assignment.yielded c.in-Some.assignment in
    let found = c.in-Some-width_given.ensures in
    record {
      good = rw more (bad_later width_written its n it turn.0 turn.1 (sym found.found) ∙ c.loop-assignment.invariant.good);
      given = λ pen below.
          rw more (has_next width_written its n it turn.0 turn.1 pen _ _ _ _ _ (found.width) (found.pens pen below) (c.loop-assignment.invariant.given pen below) (c.with_widths-read.ensures.widths pen below));
      kept = λ pen below. c.with_widths-read.ensures.colours pen below ∙ c.loop-assignment.invariant.kept pen below;
    }

pub returns : goal.returns
returns c =
    let its = assignments c.args.text.now in
    let end = YieldsList-end (YieldsList-from_str_split {s = c.into_iter-assignment-iterator.result} 44 c.args.text.now (lit< tt) (search rules) (search rules) (search rules)) c.loop-assignment.yielded _ c.loop-assignment.yielded_by _ _ c.in-None.is c.next.ensures.steps in
    let n = length c.loop-assignment.yielded in
    record {
      bad = sym c.loop-assignment.invariant.good ∙ none_bad width_written its n end.1;
      widths = λ pen below. rw (all_given width_written its n end.1 pen) at (c.loop-assignment.invariant.given pen below);
      colours = λ pen below. c.loop-assignment.invariant.kept pen below;
    }
