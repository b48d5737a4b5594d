use Rattle.std.proofs.Common.{◌∷◌, ℕ, List, ap, decimal}
use Rattle.pieces.proofs.Texts.{◌then◌, puts_as}
use Rattle.plot_report.specs.Report.{space}
use Rattle.plot_report.proofs.Lengths.{kind_joined}
use Rattle.plot_report.proofs.lines.put_note_line.Goals as goal

pub returns-clause-puts : goal.returns-clause-puts
returns-clause-puts g c =
    let note = c.args.note.now in
    let rest = puts_as (c.put_number.ensures.puts then c.put_kind.ensures.puts) (ap (λ (z : List ℕ). space ∷ z) (kind_joined (decimal note.at) note.kind note.code)) in
    c.put.ensures.puts then rest then c.put-2.ensures.puts
