use Rattle.std.proofs.Common.{arith, ◌≡◌, ◌∙◌, ◌<◌, ◌+◌, ℕ, List, ap, sym}
use Rattle.full_text.specs.Cut.{escape_at, silent_of}
use Rattle.full_text.specs.Left.{left_from, silent_at}
use Rattle.full_text.proofs.Steps.{passes}
use Rattle.full_text.proofs.full_items.past_silence.Goals as goal

pub silent-preserved : goal.silent-preserved
silent-preserved c terminator =
    let plot = c.args.plot.now in
    let language = c.args.language in
    let at = c.silent.at in
    let s : c.any_silent_count-silent.result ≡ silent_at language plot at = c.any_silent_count-silent.ensures.value ∙ ap (λ
    (t : List ℕ). silent_of (escape_at t) language t) c.past.ensures in
    let some : 0 < silent_at language plot at = omega arith in
    c.silent.invariant terminator ∙ passes plot language terminator at c.silent-test.true some ∙ ap (λ (k : ℕ). left_from plot language terminator (at + k)) (sym s)
