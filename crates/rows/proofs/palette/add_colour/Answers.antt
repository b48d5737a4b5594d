use Rattle.std.proofs.Common.{◌≡◌, ℕ, List, [], ◌∷◌, ◌++◌, length, false, refl, sym, ap, subst, ◌∙◌, arith}
use Rattle.std.specs.List.{list_any}
use Rattle.std.specs.Str.{bytes_eq}
use Rattle.std.proofs.lemmas.Slice.Eq.{bytes_eq-Decides}
use Rattle.rows.specs.Known.{HasNumber}
use Rattle.rows.proofs.KnownNumbers.{last_number}
use Rattle.rows.proofs.palette.add_colour.Goals as goal

pub returns-clause-placed : goal.returns-clause-placed
returns-clause-placed c =
    let colour = c.args.colour in
    let old = c.args.colours.now.items in
    let seen = c.as_slice.result.now in
    let number = c.position_of-number.result in
    let all : number ≡ length seen = omega (arith, c.if-number-len.false, c.len.ensures, c.position_of-number.ensures.most, c.as_slice.ensures.len) in
    let none : list_any (bytes_eq colour) old ≡ false = sym (ap (list_any (bytes_eq colour)) c.as_slice.ensures.value) ∙ c.position_of-number.ensures.none all in
    let last : length old ≡ number = sym (ap length c.as_slice.ensures.value) ∙ sym all in
    let pushed : c.push.new.self.items ≡ old ++ colour ∷ [] = c.in_ok-push.ensures.items in
    subst (λ (palette : List (List ℕ)). HasNumber palette colour number) (sym pushed)
    (subst (HasNumber (old ++ colour ∷ []) colour) last (last_number old colour ((bytes_eq-Decides colour colour).1 refl) none))
