use Rattle.std.proofs.Common.{◌+◌, ◌++◌, ◌∙◌, ℕ, List, ap, drop, sym}
use Rattle.std.proofs.lemmas.List.{drop_more}
use Rattle.pieces.proofs.Texts.{next_put}
use Rattle.svg.specs.Titles.{character_text, text_bytes}
use Rattle.svg.proofs.titles.put_characters.Goals as goal

pub loop-code_point-preserved : goal.loop-code_point-preserved
loop-code_point-preserved g c =
    let i = c.loop-code_point.code_point-index in
    let all = c.args.code_points.now in
    next_put c.loop-code_point.invariant c.put_character.ensures.puts
    (ap (λ (z : List ℕ). text_bytes z) (drop_more all i 0 c.loop-code_point-test.true)
    ∙ ap (λ (n : ℕ). character_text n ++ text_bytes (drop (i + 1) all)) (sym c.character.ensures))
