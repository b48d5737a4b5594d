use Rattle.std.proofs.Common.{◌+◌, ◌++◌, ◌∙◌, ℕ, List, Some, ap, refl, sym, drop, get_or}
use Rattle.std.proofs.lemmas.List.{drop_all}
use Rattle.pdf.specs.TextSteps.{letter_text, letters_text}
use Rattle.pdf.proofs.Contained.{all_remain, last_filled, next_filled}
use Rattle.pdf.proofs.Lists.{next_at}
use Rattle.pdf.proofs.texts.put_letters.Goals as goal

pub loop-point-init : goal.loop-point-init
loop-point-init g c = all_remain c.requires.open refl

pub loop-point-preserved : goal.loop-point-preserved
loop-point-preserved g c =
    let l = c.loop-point in
    let text = c.args.text.now in
    let i = l.point-index in
    next_filled l.invariant c.put_letter.ensures.fills
    (ap (λ (ps : List ℕ). letters_text l.row ps) (next_at text i c.loop-point-test.true)
    ∙ ap (λ (k : ℕ). letter_text l.row (get_or text i 0) ++ letters_text (Some k) (drop (i + 1) text)) (sym c.row_of.ensures))

pub returns : goal.returns
returns g c =
    let l = c.loop-point in
    record { fills = last_filled l.invariant c.put_end.ensures.fills (ap (λ (ps : List ℕ). letters_text l.row ps) (drop_all l.point-index c.args.text.now c.loop-point-test.false)) }
