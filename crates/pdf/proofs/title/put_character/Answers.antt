use Rattle.std.proofs.Common.{◌++◌, ◌∙◌, List, ℕ, ap₂}
use Rattle.pieces.proofs.Texts.{◌then◌, puts_as}
use Rattle.pdf.proofs.Lists.{character_apart}
use Rattle.pdf.proofs.title.put_character.Goals as goal

pub returns-else-character-lt65536 : goal.returns-else-character-lt65536
returns-else-character-lt65536 g c = record {
  puts = puts_as (c.put-else-character-lt65536.ensures.puts then c.put-else-character-lt65536-2.ensures.puts)
      (ap₂ (λ (x y : List ℕ). x ++ y) c.four_digits-else-character-lt65536.ensures c.four_digits-else-character-lt65536-2.ensures
      ∙ character_apart c.args.character c.if-character-lt65536.false);
}
