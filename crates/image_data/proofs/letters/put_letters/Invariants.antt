use Rattle.std.proofs.Common.{◌≡◌, drop}
use Rattle.pieces.proofs.Texts.{Left}
use Rattle.image_data.specs.Base64.{letters, waiting_after}
use Rattle.image_data.proofs.letters.put_letters.Given as goal

-- the bytes that are left
abbrev pub invariant-loop-byte : goal.invariant-loop-byte
invariant-loop-byte g l = record {
  left : Left g.K.Sink.state l.fn.text l.text (letters l.result (drop l.byte-index l.bytes)) (letters l.fn.waiting l.bytes);
  after : waiting_after l.result (drop l.byte-index l.bytes) ≡ waiting_after l.fn.waiting l.bytes;
}
