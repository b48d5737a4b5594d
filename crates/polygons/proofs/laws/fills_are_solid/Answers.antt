use Rattle.polygons.proofs.SolidLaws.{fills_are_solid_lem}
use Rattle.polygons.proofs.laws.fills_are_solid.Goals as goal

pub returns : goal.returns
returns c = fills_are_solid_lem
