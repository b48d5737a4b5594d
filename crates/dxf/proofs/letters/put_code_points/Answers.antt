use Rattle.std.proofs.Common.{List, ℕ, ap}
use Rattle.std.proofs.lemmas.List.{drop_more}
use Rattle.pieces.proofs.Texts.{next_put}
use Rattle.dxf.specs.Letters.{letters_text}
use Rattle.dxf.proofs.letters.put_code_points.Goals as goal

pub loop-code_point-preserved : goal.loop-code_point-preserved
loop-code_point-preserved g c =
    next_put c.loop-code_point.invariant c.put_code_point.ensures.puts
    (ap (λ (z : List ℕ). letters_text z) (drop_more c.args.code_points.now c.loop-code_point.code_point-index 0 c.loop-code_point-test.true))
