use Rattle.std.proofs.Common.{Option, ap, sym}
use Rattle.stroke_runs.specs.declared.role.Role.{Role}
use Rattle.pdf.specs.Steps.{step_text}
use Rattle.pdf.proofs.Contained.{fills_as, nothing}
use Rattle.pdf.proofs.steps.put_step.Goals as goal

pub returns-in-None-clause-fills : goal.returns-in-None-clause-fills
returns-in-None-clause-fills g c =
    fills_as (nothing c.requires.open) (ap (λ (o : Option Role). step_text c.args.page.now c.args.path.now o c.args.stroke.now) (sym c.in-None.is))
