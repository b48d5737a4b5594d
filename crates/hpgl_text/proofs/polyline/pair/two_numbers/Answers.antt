use Rattle.std.proofs.Common.{◌∙◌, ap, sym, List, ℕ}
use Rattle.hpgl_text.specs.Coded.{coded_number}
use Rattle.hpgl_text.proofs.Pairs.{pair_at}
use Rattle.hpgl_text.proofs.polyline.pair.two_numbers.Goals as goal

pub returns-clause-pair : goal.returns-clause-pair
returns-clause-pair c = λ closed. pair_at c.args.base closed c.args.text.now _ _ c.in-Some.ensures.found
    (ap (λ (t : List ℕ). coded_number c.args.base t) (sym c.past.ensures) ∙ c.in-Some-first_coded.ensures.found)
