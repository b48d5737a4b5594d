use Rattle.std.proofs.Common.{arith, sym, ◌∙◌}
use Rattle.std.proofs.Math.Bool.{or_assoc}
use Rattle.pen_list.proofs.Ranges.{EndsAt, good_range, last_decides, listed_by_last, listed_by_range, no_comma_more, wrong_range}
use Rattle.pen_list.proofs.list.read_ranges.Goals as goal
use Rattle.pen_list.proofs.list.read_ranges.Goals.{then-byte-eq44+in_ok-read, else-byte-eq44}

pub returns-in_err-read-clause-found : goal.returns-in_err-read-clause-found
returns-in_err-read-clause-found c =
    let before = c.loop-at.invariant in
    let ends : EndsAt c.args.text.now c.loop-at.from c.loop-at.at = record {
      begun = before.from;
      inside = c.loop-at-test.true;
      no_comma = before.no_comma;
      comma_here = c.if-byte-eq44.true;
    } in
    let wrong = wrong_range c.args.text.now c.loop-at.from c.loop-at.at ends (sym c.in_err-read.ensures.found) in
    rw c.from_residual.ensures (sym wrong ∙ before.good)

pub loop-at-preserved : goal.loop-at-preserved
loop-at-preserved c =
    let text = c.args.text.now in
    let from = c.loop-at.from in
    let at = c.loop-at.at in
    let before = c.loop-at.invariant in
    elim c.if-byte-eq44.branch [
      | then-byte-eq44+in_ok-read w ↦
          let ends : EndsAt text from at = record {
            begun = before.from;
            inside = c.loop-at-test.true;
            no_comma = before.no_comma;
            comma_here = w.if-byte-eq44.true;
          } in
          record {
            from = omega arith;
            no_comma = λ k a b. absurd (omega arith);
            good = rw w.from-is (good_range text from at ends (sym w.in_ok-read.ensures.found) ∙ before.good);
            listed = λ pen below.
                let had = rw (listed_by_range text from at ends pen) at (before.listed pen below) in
                rw (w.from-is, w.pens-is, w.added_to-pens.ensures pen below, ← w.in_ok-read.ensures.pens pen, or_assoc) had;
          }
      | else-byte-eq44 w ↦ record {
        from = omega arith;
        no_comma = λ k a b. no_comma_more text from at before.no_comma w.if-byte-eq44.false k (omega arith) b;
        good = rw w.from-is before.good;
        listed = λ pen below. rw (w.from-is, w.pens-is) (before.listed pen below);
      }
    ]

pub returns-in_err-read-2-clause-found : goal.returns-in_err-read-2-clause-found
returns-in_err-read-2-clause-found c =
    let last = last_decides c.args.text.now c.loop-at.from (λ k a b. c.loop-at.invariant.no_comma k a (omega arith)) in
    rw c.from_residual-in_err-read-2.ensures (c.in_err-read-2.ensures.found ∙ sym last ∙ c.loop-at.invariant.good)

pub returns-clause-found : goal.returns-clause-found
returns-clause-found c =
    let last = last_decides c.args.text.now c.loop-at.from (λ k a b. c.loop-at.invariant.no_comma k a (omega arith)) in
    c.in_ok-read-2.ensures.found ∙ sym last ∙ c.loop-at.invariant.good

pub returns-clause-pens : goal.returns-clause-pens
returns-clause-pens c pen below =
    let last = listed_by_last c.args.text.now c.loop-at.from (λ k a b. c.loop-at.invariant.no_comma k a (omega arith)) pen in
    rw (c.added_to.ensures pen below, ← c.in_ok-read-2.ensures.pens pen, ← last) (c.loop-at.invariant.listed pen below)
