use Rattle.std.proofs.Common.{drop}
use Rattle.pieces.proofs.Texts.{Left}
use Rattle.dxf.specs.Chains.{edge_marks}
use Rattle.dxf.specs.Steps.{left_text}
use Rattle.dxf.specs.declared.chains.Pending.TheVariants.{Nothing}
use Rattle.dxf.proofs.strokes.put_edges.Given as goal

-- the edges that are left
abbrev pub invariant-loop-edge : goal.invariant-loop-edge
invariant-loop-edge g l =
    Left g.K.Sink.state l.fn.text l.text (left_text l.layers l.pending (edge_marks l.closed (drop l.edge-index l.edges))) (left_text l.layers Nothing (edge_marks l.closed l.edges))
