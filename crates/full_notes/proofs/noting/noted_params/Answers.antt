use Rattle.std.proofs.Common.{◌≡◌, ◌∙◌, ap, sym, rules, false}
use Rattle.plot_settings.specs.Meanings.{Meaning}
use Rattle.full_notes.specs.Notes.{bad_if}
use Rattle.full_notes.proofs.Noted.{is_own, read_noted}
use Rattle.full_notes.proofs.noting.noted_params.Goals as goal

pub returns-in_default : goal.returns-in_default
returns-in_default c =
    let own : is_own c.args.instruction ≡ false = search rules in
    c.noted_asked.ensures ∙ ap (λ (m : Meaning). bad_if m.is_wrong) c.request_of.ensures.meaning
    ∙ sym (read_noted c.args.context.now c.args.instruction c.args.numbers.now own)
