use Rattle.std.proofs.Common.{◌≡◌, ◌∙◌, ◌+◌, ℕ, List, Bool, Option, ap, sym, arith, length, length-drop}
use Rattle.std.specs.Prelude.{unwrap_or}
use Rattle.full_text.specs.Languages.{entered_by, has_instructions_next}
use Rattle.full_text.proofs.Scans.{next_is, none_is}
use Rattle.full_text.proofs.languages.has_instructions_next.Goals as goal
use Rattle.full_text.proofs.languages.has_instructions_next.Goals.{After-entered_by}

-- the first command after the next ESC decides, or what follows it
next : (c : After-entered_by) → has_instructions_next c.args.text.now ≡ unwrap_or c.entered_by.result (has_instructions_next c.past-left.result.now)
next c =
    next_is c.args.text.now c.escapes.left.now c.past-left.result.now c.in-Some.place c.entered_by.result c.escapes.invariant.0 c.in-Some.ensures.0 c.in-Some.ensures.1
    c.past-left.ensures (c.entered_by.ensures ∙ ap entered_by c.first_asked.ensures)

pub escapes-preserved : goal.escapes-preserved
escapes-preserved c = (
  ap (λ (z : Option Bool). unwrap_or z (has_instructions_next c.past-left.result.now)) (sym c.in_default-entered_by.is)
      ∙ sym (next (goal.at.escapes-preserved c).After-entered_by),
  omega (arith, ap (λ (z : List ℕ). length z) c.past-left.ensures, length-drop (c.in-Some.place + 1) c.escapes.left.now, c.escapes.invariant.1),
)

pub returns-in-Some-entered_by : goal.returns-in-Some-entered_by
returns-in-Some-entered_by c =
    ap (λ (z : Option Bool). unwrap_or z (has_instructions_next c.past-left.result.now)) (sym c.in-Some-entered_by.is)
    ∙ sym (next (goal.at.returns-in-Some-entered_by c).After-entered_by)

pub returns : goal.returns
returns c = sym (none_is c.args.text.now c.escapes.left.now c.escapes.invariant.0 c.in_default.ensures)
