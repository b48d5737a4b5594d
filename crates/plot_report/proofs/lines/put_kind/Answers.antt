use Rattle.std.proofs.Common.{◌∷◌, ap, sym}
use Rattle.std.specs.List.{join_with_byte}
use Rattle.hpgl_plot.specs.declared.note.NoteKind.{NoteKind}
use Rattle.pieces.proofs.Texts.{◌then◌, puts_as}
use Rattle.plot_report.specs.Report.{kind_words, space}
use Rattle.plot_report.proofs.lines.put_kind.Goals as goal

pub returns-in-Stray-clause-puts : goal.returns-in-Stray-clause-puts
returns-in-Stray-clause-puts g c =
    puts_as (c.put_word.ensures.puts then c.put_number.ensures.puts)
    (ap (λ (k : NoteKind). space ∷ join_with_byte space (kind_words k c.args.note.now.code)) (sym c.in-Stray.is))
