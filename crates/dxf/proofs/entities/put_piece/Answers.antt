use Rattle.std.proofs.Common.{ap, sym}
use Rattle.pieces.proofs.Texts.{puts_as}
use Rattle.dxf.specs.Steps.{piece_text}
use Rattle.dxf.specs.declared.chains.Pending.{Pending}
use Rattle.dxf.proofs.entities.put_piece.Goals as goal

pub returns-in-Single-clause-puts : goal.returns-in-Single-clause-puts
returns-in-Single-clause-puts g c = puts_as c.put_second.ensures.puts (ap (λ (p : Pending). piece_text c.args.layers.now p c.args.next) (sym c.in-Single.is))
