use Rattle.std.proofs.Common.{drop}
use Rattle.pieces.proofs.Texts.{Left}
use Rattle.svg.specs.Titles.{text_bytes}
use Rattle.svg.proofs.titles.put_characters.Given as goal

-- the code points that are left
abbrev pub invariant-loop-code_point : goal.invariant-loop-code_point
invariant-loop-code_point g l =
    Left g.K.Sink.state l.fn.text l.text (text_bytes (drop l.code_point-index l.code_points)) (text_bytes l.code_points)
