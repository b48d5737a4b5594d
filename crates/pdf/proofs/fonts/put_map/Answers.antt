use Rattle.std.proofs.Common.{◌++◌, ◌∙◌, List, ℕ, ap}
use Rattle.pieces.proofs.Texts.{◌then◌, puts_as}
use Rattle.pdf.proofs.FontLists.{first_part, last_part, second_part, third_part, unicode_whole}
use Rattle.pdf.proofs.fonts.put_map.Goals as goal

pub returns : goal.returns
returns g c =
    let all = c.put.ensures.puts then c.put-2.ensures.puts then c.put-3.ensures.puts then c.put-4.ensures.puts then c.put-5.ensures.puts then c.put-6.ensures.puts in
    record {
      puts = puts_as all
          (ap (λ (d : List ℕ). ((((first_part ++ second_part) ++ d) ++ third_part) ++ d) ++ last_part) c.two_digits-digits.ensures ∙ unicode_whole c.args.row);
    }
