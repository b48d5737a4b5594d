use Rattle.std.proofs.Common.{◌≡◌, ◌∙◌, sym, Some, None, get_or, refl}
use Rattle.pen_list.proofs.ColourDigits.{by_pairs, pair_of}
use Rattle.pen_list.proofs.colour.by_six_digits.Goals as goal

pub returns-in_err-pair-2 : goal.returns-in_err-pair-2
returns-in_err-pair-2 c =
    let digits = c.args.digits.now in
    let red : pair_of (get_or digits 0 0) (get_or digits 1 0) ≡ Some c.in_ok-pair.field-0 = sym c.pair.ensures ∙ c.in_ok-pair.was in
    let green : pair_of (get_or digits 2 0) (get_or digits 3 0) ≡ None = sym c.pair-2.ensures ∙ c.in_err-pair-2.was in
    let all = by_pairs digits c.in-len6.len_at_least c.in-len6.len_below in
    c.from_residual-in_err-pair-2.ensures ∙ sym (all ∙ rw (red, green) refl)

pub returns-in_err-pair-3 : goal.returns-in_err-pair-3
returns-in_err-pair-3 c =
    let digits = c.args.digits.now in
    let red : pair_of (get_or digits 0 0) (get_or digits 1 0) ≡ Some c.in_ok-pair.field-0 = sym c.pair.ensures ∙ c.in_ok-pair.was in
    let green : pair_of (get_or digits 2 0) (get_or digits 3 0) ≡ Some c.in_ok-pair-2.field-0 = sym c.pair-2.ensures ∙ c.in_ok-pair-2.was in
    let blue : pair_of (get_or digits 4 0) (get_or digits 5 0) ≡ None = sym c.pair-3.ensures ∙ c.in_err-pair-3.was in
    let all = by_pairs digits c.in-len6.len_at_least c.in-len6.len_below in
    c.from_residual-in_err-pair-3.ensures ∙ sym (all ∙ rw (red, green, blue) refl)

pub returns : goal.returns
returns c =
    let digits = c.args.digits.now in
    let red : pair_of (get_or digits 0 0) (get_or digits 1 0) ≡ Some c.in_ok-pair.field-0 = sym c.pair.ensures ∙ c.in_ok-pair.was in
    let green : pair_of (get_or digits 2 0) (get_or digits 3 0) ≡ Some c.in_ok-pair-2.field-0 = sym c.pair-2.ensures ∙ c.in_ok-pair-2.was in
    let blue : pair_of (get_or digits 4 0) (get_or digits 5 0) ≡ Some c.in_ok-pair-3.field-0 = sym c.pair-3.ensures ∙ c.in_ok-pair-3.was in
    let all = by_pairs digits c.in-len6.len_at_least c.in-len6.len_below in
    sym (all ∙ rw (red, green, blue) refl)
