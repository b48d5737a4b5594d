use Rattle.std.proofs.Common.{drop}
use Rattle.pieces.proofs.Texts.{Left}
use Rattle.dxf.specs.Letters.{letters_text}
use Rattle.dxf.proofs.letters.put_code_points.Given as goal

-- the code points that are left
abbrev pub invariant-loop-code_point : goal.invariant-loop-code_point
invariant-loop-code_point g l = Left g.K.Sink.state l.fn.text l.text (letters_text (drop l.code_point-index l.code_points)) (letters_text l.code_points)
