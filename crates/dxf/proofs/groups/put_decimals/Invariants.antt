use Rattle.std.proofs.Common.{◌-◌, ◌<◌}
use Rattle.pieces.proofs.Texts.{Left}
use Rattle.dxf.specs.Groups.{decimals}
use Rattle.dxf.proofs.groups.put_decimals.Given as goal

-- the decimals that are left
abbrev pub invariant-loop-place : goal.invariant-loop-place
invariant-loop-place g l = record {
  left : Left g.K.Sink.state l.fn.text l.text (decimals (7 - l.place) l.rest) (decimals 7 l.fn.parts);
  few : l.rest < 10000000;
}
