use Rattle.std.proofs.Common.{◌∙◌, ap, List, ◌++◌}
use Rattle.hpgl_text.specs.declared.polyline.coding.Coding.{Coding}
use Rattle.hpgl_text.specs.EntryShapes.{EntryShape}
use Rattle.hpgl_text.specs.Carried.{entries_left}
use Rattle.hpgl_text.proofs.EntriesLeft.{all_left}
use Rattle.hpgl_text.proofs.polyline.entries.Entries.new.Goals as goal

pub returns : goal.returns
returns c =
    let closed = c.args.closed in
    let at = c.args.at in
    let text = c.args.text.now in
    ap (λ (es : List EntryShape). es ++ entries_left closed c.first_coding.result at text) c.new.ensures
    ∙ ap (λ (x : Coding). entries_left closed x at text) c.first_coding.ensures
    ∙ all_left closed at text
