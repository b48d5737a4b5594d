use Rattle.std.proofs.Common.{ap, sym}
use Rattle.pieces.proofs.Texts.{puts_as}
use Rattle.dxf.specs.Steps.{end_text}
use Rattle.dxf.specs.declared.chains.Pending.{Pending}
use Rattle.dxf.proofs.entities.put_end.Goals as goal

pub returns-in-Single : goal.returns-in-Single
returns-in-Single g c = record { puts = puts_as c.put_single.ensures.puts (ap (λ (p : Pending). end_text c.args.layers.now p) (sym c.in-Single.is)) }

pub returns-in-Open : goal.returns-in-Open
returns-in-Open g c = record { puts = puts_as c.put_polyline_end.ensures.puts (ap (λ (p : Pending). end_text c.args.layers.now p) (sym c.in-Open.is)) }
