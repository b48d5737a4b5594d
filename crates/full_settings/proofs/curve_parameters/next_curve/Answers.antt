use Rattle.std.proofs.Common.{refl}
use Rattle.full_settings.proofs.curve_parameters.next_curve.Goals as goal

-- six numbers, one after another
pub returns-clause-some : goal.returns-clause-some
returns-clause-some c =
    rw (
      c.in_ok-ax.ensures.steps,
      c.in_ok-ay.ensures.steps,
      c.in_ok-bx.ensures.steps,
      c.in_ok-by.ensures.steps,
      c.in_ok-cx.ensures.steps,
      c.in_ok-cy.ensures.steps,
    ) refl
