use Rattle.std.proofs.Common.{◌≡◌, ◌||◌, Bool, ap₂, sym, ◌∙◌, [], arith, false}
use Rattle.std.specs.Str.{bytes_eq}
use Rattle.std.proofs.lemmas.Bool.{not-true, not-false}
use Rattle.std.proofs.lemmas.List.Folds.{list_any_at, list_any_more}
use Rattle.rows.proofs.PixelRows.{place_at}
use Rattle.rows.proofs.palette.position_of.Goals as goal

pub loop-at-preserved : goal.loop-at-preserved
loop-at-preserved c =
    let lt = c.loop-at-test.true in
    let differs : bytes_eq c.args.colour _ ≡ false = not-true _ (sym (c.if-ne.ensures {u = tt})) in
    record {
      within = omega arith;
      none = list_any_more (bytes_eq c.args.colour) c.args.colours.now c.loop-at.at [] lt ∙ ap₂ (λ (a b : Bool). a || b) c.loop-at.invariant.none differs;
    }

pub returns-else-ne-clause-has : goal.returns-else-ne-clause-has
returns-else-ne-clause-has c = λ lt.
    list_any_at (bytes_eq c.args.colour) c.args.colours.now c.loop-at.at [] lt (not-false _ (sym (c.if-ne.ensures {u = tt})))

pub returns-else-ne-clause-place : goal.returns-else-ne-clause-place
returns-else-ne-clause-place c =
    place_at c.args.colours.now c.args.colour c.loop-at.at c.loop-at.invariant.within c.loop-at.invariant.none (λ _. not-false _ (sym (c.if-ne.ensures {u = tt})))

pub returns-after-loop-at-clause-place : goal.returns-after-loop-at-clause-place
returns-after-loop-at-clause-place c =
    place_at c.args.colours.now c.args.colour c.loop-at.at c.loop-at.invariant.within c.loop-at.invariant.none (λ lt. absurd (omega (arith, lt, c.loop-at-test.false)))
