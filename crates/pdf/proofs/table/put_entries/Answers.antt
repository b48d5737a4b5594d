use Rattle.std.proofs.Common.{◌+◌, ◌++◌, ◌∙◌, ℕ, List, ap, sym, drop}
use Rattle.std.proofs.lemmas.List.{drop_all}
use Rattle.pieces.proofs.Texts.{all_put, next_put}
use Rattle.pdf.specs.Objects.{entries_text}
use Rattle.pdf.proofs.Lists.{next_at}
use Rattle.pdf.proofs.table.put_entries.Goals as goal

pub loop-offset-preserved : goal.loop-offset-preserved
loop-offset-preserved g c =
    let l = c.loop-offset in
    let offsets = c.args.offsets.now in
    next_put l.invariant c.put.ensures.puts
    (ap entries_text (next_at offsets l.offset-index c.loop-offset-test.true)
    ∙ ap (λ (z : List ℕ). z ++ entries_text (drop (l.offset-index + 1) offsets)) (sym c.entry.ensures))

pub returns : goal.returns
returns g c =
    let l = c.loop-offset in
    record { puts = all_put l.invariant (ap entries_text (drop_all l.offset-index c.args.offsets.now c.loop-offset-test.false)) }
