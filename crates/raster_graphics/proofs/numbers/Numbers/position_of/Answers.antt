use Rattle.std.proofs.Common.{◌∙◌, ap, arith}
use Rattle.raster_graphics.specs.Positions.{position_of}
use Rattle.raster_graphics.proofs.Positions.{none_passed, one_passed, found_at, none_found}
use Rattle.raster_graphics.proofs.numbers.Numbers.position_of.Goals as goal

pub loop-position-init : goal.loop-position-init
loop-position-init c = none_passed c.args.row c.as_slice-numbers.result.now

pub loop-position-preserved : goal.loop-position-preserved
loop-position-preserved c = one_passed c.args.row c.loop-position.position c.as_slice-numbers.result.now c.loop-position-test.true
    c.if-number-row.false c.loop-position.invariant

pub returns-then-number-row-clause-value : goal.returns-then-number-row-clause-value
returns-then-number-row-clause-value c =
    found_at c.args.row c.loop-position.position c.as_slice-numbers.result.now c.loop-position-test.true c.if-number-row.true
    c.loop-position.invariant
    ∙ ap (position_of c.args.row) (c.as_slice-numbers.ensures.value ∙ c.self.view_is)

pub returns-then-number-row-clause-near : goal.returns-then-number-row-clause-near
returns-then-number-row-clause-near c = omega (arith, c.loop-position-test.true, c.as_slice-numbers.type_inv.1)

pub returns-clause-value : goal.returns-clause-value
returns-clause-value c =
    none_found c.args.row c.loop-position.position c.as_slice-numbers.result.now c.loop-position-test.false
    c.loop-position.invariant
    ∙ ap (position_of c.args.row) (c.as_slice-numbers.ensures.value ∙ c.self.view_is)
