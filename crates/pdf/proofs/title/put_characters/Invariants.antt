use Rattle.std.proofs.Common.{◌≤◌, length, drop}
use Rattle.std.specs.Str.{chars}
use Rattle.pdf.specs.Numbers.{utf_16_text}
use Rattle.pieces.proofs.Texts.{Left}
use Rattle.pdf.proofs.title.put_characters.Given as goal

-- the characters that are left
abbrev pub invariant-loop-character : goal.invariant-loop-character
invariant-loop-character g l = record {
  left : Left g.K.Sink.state l.fn.text l.text (utf_16_text (drop (length l.yielded) (chars l.title))) (utf_16_text (chars l.title));
  within : length l.yielded ≤ length (chars l.title);
}
