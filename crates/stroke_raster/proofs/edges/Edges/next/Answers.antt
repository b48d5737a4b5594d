use Rattle.std.proofs.Common.{arith, refl}
use Rattle.stroke_raster.proofs.EdgeLemmas.{edge_falls, edge_rises}
use Rattle.stroke_raster.proofs.edges.Edges.next.Goals as goal

pub returns-then-self : goal.returns-then-self
returns-then-self c = λ t page from row d last. edge_falls t page from c.args.self.now row c.args.at _ d last c.if-self.true (omega (arith, c.requires.low))

pub returns-else-self : goal.returns-else-self
returns-else-self c = λ t page from row d last. edge_rises t page from c.args.self.now row c.args.at _ d last c.if-self.false refl
