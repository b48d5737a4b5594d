use Rattle.stroke_raster.proofs.StripLemmas.{newton}
use Rattle.stroke_raster.proofs.slope.nearer.Goals as goal

pub returns-clause-enough : goal.returns-clause-enough
returns-clause-enough c = newton c.args.square c.args.guess c.requires.some
