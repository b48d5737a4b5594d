use Rattle.std.proofs.Common.{take}
use Rattle.pdf.specs.Documents.{layer_objects}
use Rattle.pdf.specs.Writings.{Adds}
use Rattle.pdf.proofs.layers.put_layers.Given as goal

-- the layers so far
abbrev pub invariant-loop-index : goal.invariant-loop-index
invariant-loop-index g l = Adds g.K.Sink.state l.fn.text l.text l.fn.offsets l.offsets l.before (layer_objects (take l.index l.pens))
