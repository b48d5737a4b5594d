use Rattle.std.proofs.Common.{length}
use Rattle.pdf.specs.Documents.{header_text}
use Rattle.pdf.proofs.Offsets.{begins, offsets_size}
use Rattle.pdf.proofs.laws.table_is_right.Goals as goal

pub returns-clause-begins : goal.returns-clause-begins
returns-clause-begins c = begins

pub returns-clause-whole : goal.returns-clause-whole
returns-clause-whole c = λ unit. offsets_size (length (header_text unit)) 0
