use Rattle.pieces.proofs.Texts.{◌then◌}
use Rattle.pdf.proofs.table.put_table.Goals as goal

pub returns : goal.returns
returns g c = record { puts = c.put_table_head.ensures.puts then c.put_entries.ensures.puts }
