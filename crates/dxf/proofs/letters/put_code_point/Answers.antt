use Rattle.std.proofs.Common.{◌++◌, ◌∷◌, ◌∙◌, [], ℕ, Bool, ap, codes, cond, sym}
use Rattle.pieces.proofs.Texts.{◌then◌, puts_as}
use Rattle.dxf.specs.Letters.{four_digits, letter}
use Rattle.dxf.proofs.letters.put_code_point.Goals as goal

pub returns-else-is_plain : goal.returns-else-is_plain
returns-else-is_plain g c =
    let point = c.args.code_point in
    let digits = c.four_digits.ensures ∙ ap (λ (n : ℕ). four_digits n) c.letter.ensures in
    record {
      puts = puts_as (c.put-else-is_plain.ensures.puts then puts_as c.put-else-is_plain-2.ensures.puts digits)
          (ap (λ (b : Bool). cond b (point ∷ []) (codes "\\U+" ++ four_digits (letter point))) (sym (sym c.is_plain.ensures ∙ c.if-is_plain.false)));
    }
