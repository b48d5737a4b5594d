use Rattle.std.proofs.Common.{◌≡◌, ◌+◌, ◌-◌}
use Rattle.pieces.proofs.Texts.{Left}
use Rattle.dxf.specs.Layers.{layers_text, pen_entries}
use Rattle.dxf.proofs.layers.put_layers.Given as goal

-- the pens that are left
abbrev pub invariant-loop-place : goal.invariant-loop-place
invariant-loop-place g l = record {
  left : Left g.K.Sink.state l.fn.text l.text (pen_entries l.layers (l.place + 1) (255 - l.place)) (layers_text l.layers);
  pen : l.pen ≡ l.place;
}
