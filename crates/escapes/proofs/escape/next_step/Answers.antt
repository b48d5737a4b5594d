use Rattle.std.proofs.Common.{◌≡◌, ℕ, ◌∷◌, Bool, true, false, if◌then◌else◌, List, length, get_or, Option, Some, None, sym, ap, ◌∙◌, refl}
use Rattle.escapes.specs.declared.command.Command.{Command}
use Rattle.escapes.specs.declared.escape.Chain.{Chain}
use Rattle.escapes.specs.declared.command.Sign.{Sign}
use Rattle.escapes.specs.Commands.{Said, is_small, is_large, sign_of, millionths_of, after_value, finished}
use Rattle.escapes.specs.Escapes.{chain}
use Rattle.escapes.specs.Views.{said, left}
use Rattle.escapes.proofs.Chains.{chain_small, chain_large, chain_none}
use Rattle.std.proofs.lemmas.Bool.{true≢false}
use Rattle.escapes.proofs.escape.next_step.Goals.{else-not-goes_on-via-then-not-goes_on+else-not-is_large_letter, else-not-goes_on-via-else-not-goes_on}
use Rattle.escapes.proofs.escape.next_step.Goals as goal

-- a command, and those after it if the group goes on
step_is : (of : Chain) (text : List ℕ) (goes_on : Bool) (command : Command) (more : Option Chain) (rest : List ℕ)
    → goes_on ≡ is_small (get_or (after_value text) 0 0) → (goes_on ≡ false → is_large (get_or (after_value text) 0 0) ≡ true)
    → (said command, rest) ≡ finished (Some of.group) of.parameter (sign_of text) (millionths_of text) (after_value text)
    → more ≡ (if goes_on then Some of else None)
    → chain (length text) of.group of.parameter text ≡ (said command ∷ (left more rest).0, (left more rest).1)
step_is of text true command more rest small large first m =
    chain_small of.group of.parameter text (sym small)
    ∙ ap (λ (z : Said × List ℕ). (z.0 ∷ (left (Some of) z.1).0, (left (Some of) z.1).1)) (sym first)
    ∙ ap (λ (z : Option Chain). (said command ∷ (left z rest).0, (left z rest).1)) (sym m)
step_is of text false command more rest small large first m =
    chain_large of.group of.parameter text (sym small) (large refl)
    ∙ ap (λ (z : Said × List ℕ). (z.0 ∷ (left None z.1).0, (left None z.1).1)) (sym first)
    ∙ ap (λ (z : Option Chain). (said command ∷ (left z rest).0, (left z rest).1)) (sym m)

-- what is finished by a value is so by the text
finished_by : (of : Chain) (text : List ℕ) (sign : Sign) (millionths : ℕ) (rest : List ℕ) (found : Said × List ℕ)
    → found ≡ finished (Some of.group) of.parameter sign millionths rest → sign ≡ sign_of text
    → millionths ≡ millionths_of text → rest ≡ after_value text
    → found ≡ finished (Some of.group) of.parameter (sign_of text) (millionths_of text) (after_value text)
finished_by of text sign millionths rest found e s m r =
    e ∙ ap (λ (z : Sign). finished (Some of.group) of.parameter z millionths rest) s
    ∙ ap (λ (z : ℕ). finished (Some of.group) of.parameter (sign_of text) z rest) m
    ∙ ap (λ (z : List ℕ). finished (Some of.group) of.parameter (sign_of text) (millionths_of text) z) r

-- src/escape.rt:74:9
pub returns-then-not-is_large_letter-clause-value :
    goal.returns-then-not-is_large_letter-clause-value
returns-then-not-is_large_letter-clause-value c =
    let e : c.byte_at-letter.result ≡ get_or (after_value c.args.text.now) 0 0 = c.byte_at-letter.ensures ∙ ap (λ
    (z : List ℕ). get_or z 0 0) c.first_value-value.ensures.rest in
    chain_none c.args.of.group c.args.of.parameter c.args.text.now
    (ap is_small (sym e) ∙ sym c.is_small_letter-goes_on.ensures ∙ c.if-not-goes_on.true)
    (ap is_large (sym e) ∙ sym c.is_large_letter.ensures ∙ c.if-not-is_large_letter.true)

-- src/escape.rt:65:1
pub returns-clause-value : goal.returns-clause-value
returns-clause-value c =
    let e : c.byte_at-letter.result ≡ get_or (after_value c.args.text.now) 0 0 = c.byte_at-letter.ensures ∙ ap (λ
    (z : List ℕ). get_or z 0 0) c.first_value-value.ensures.rest in
    let large : c.is_small_letter-goes_on.result ≡ false → is_large (get_or (after_value c.args.text.now) 0 0) ≡ true =
    elim c.else-not-goes_on.branch [
      | else-not-goes_on-via-then-not-goes_on+else-not-is_large_letter w ↦ λ small. ap is_large (sym e)
          ∙ sym w.is_large_letter.ensures ∙ w.if-not-is_large_letter.false
      | else-not-goes_on-via-else-not-goes_on w ↦ λ small. absurd (true≢false (sym w.if-not-goes_on.false ∙ small))
    ] in
    step_is c.args.of c.args.text.now c.is_small_letter-goes_on.result c.finish-done.result.command c.more_of.result
    c.finish-done.result.rest.now
    (c.is_small_letter-goes_on.ensures ∙ ap is_small e) large
    (finished_by c.args.of c.args.text.now c.first_value-value.result.sign c.first_value-value.result.millionths
    c.first_value-value.result.rest.now (said c.finish-done.result.command, c.finish-done.result.rest.now)
    c.finish-done.ensures.finished c.first_value-value.ensures.sign c.first_value-value.ensures.millionths
    c.first_value-value.ensures.rest)
    c.more_of.ensures
