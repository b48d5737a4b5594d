use Rattle.std.proofs.Common.{pos, sym, ◌∙◌}
use Rattle.lettering.specs.Columns.{section_letters}
use Rattle.lettering.proofs.Beside.{same_strokes}
use Rattle.lettering.proofs.checked.Lettering.first_letters.Goals as goal

pub returns-then-origin_column-eq0-clause-same : goal.returns-then-origin_column-eq0-clause-same
returns-then-origin_column-eq0-clause-same c = λ cell.
    let signs = c.args.signs in
    let first : _ = sym c.origin_column.ensures.value ∙ c.if-origin_column-eq0.true in
    same_strokes c.args.self.now.style (pos 1) (section_letters signs) cell signs first
