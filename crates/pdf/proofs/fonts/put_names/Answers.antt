use Rattle.std.proofs.Common.{◌≡◌, ◌+◌, ◌*◌, ℕ, ap, arith, drop, get_or}
use Rattle.std.proofs.lemmas.List.{drop_all}
use Rattle.pieces.proofs.Texts.{all_left, all_put, next_put}
use Rattle.pdf.specs.Documents.{fonts_text}
use Rattle.pdf.proofs.FontLists.{fonts_next}
use Rattle.pdf.proofs.Lists.{next_at}
use Rattle.pdf.proofs.fonts.put_names.Goals as goal

pub loop-index-init : goal.loop-index-init
loop-index-init g c =
    let same : c.args.number + 2 * 0 ≡ c.args.number = omega arith in
    all_left c.requires.sound (ap (λ (k : ℕ). fonts_text k c.args.rows.now) same)

pub loop-index-preserved : goal.loop-index-preserved
loop-index-preserved g c =
    let l = c.loop-index in
    let xs = c.args.rows.now in
    next_put l.invariant c.put_name.ensures.puts
    (fonts_next (c.args.number + 2 * l.index) (c.args.number + 2 * (l.index + 1)) (drop l.index xs) (drop (l.index + 1) xs) (get_or xs l.index 0) (next_at xs l.index c.loop-index-test.true) (omega arith))

pub returns : goal.returns
returns g c =
    let l = c.loop-index in
    record { puts = all_put l.invariant (ap (λ xs. fonts_text (c.args.number + 2 * l.index) xs) (drop_all l.index c.args.rows.now c.loop-index-test.false)) }
