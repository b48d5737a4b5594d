use Rattle.dxf.specs.declared.groups.TheConstants.{GRAIN}
use Rattle.dxf.proofs.Heights.{divided_first}
use Rattle.dxf.proofs.forms.square_over.Goals as goal

pub returns : goal.returns
returns c = divided_first GRAIN c.args.grains c.args.number c.requires.some
