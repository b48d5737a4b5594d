use Rattle.std.proofs.Common.{◌++◌, List, Option, add-one, sym, ap, ◌∙◌}
use Rattle.exact.specs.declared.spot.Spot.{Spot}
use Rattle.lettering.specs.Labels.{strokes_from}
use Rattle.lettering.specs.Left.{letter_left}
use Rattle.lettering.specs.Letters.{letter_strokes}
use Rattle.lettering.specs.declared.written.Letter.{Letter}
use Rattle.lettering.proofs.Lists.{drop_none, drop_taken}
use Rattle.lettering.proofs.written.Written.next_of_letter.Goals as goal

pub returns-in_err-stroke-clause-none : goal.returns-in_err-stroke-clause-none
returns-in_err-stroke-clause-none c = λ none.
    let style = c.args.self.now.lettering.now.style in
    let letter = c.in-Some.letter in
    drop_none (letter_strokes style letter.corner letter.code_point) letter.stroke (sym c.in_err-stroke.ensures.value)

pub returns-clause-taken : goal.returns-clause-taken
returns-clause-taken c =
    let w = c.args.self.now in
    let style = w.lettering.now.style in
    let letter = c.in-Some.letter in
    let rest : List (Spot × Spot) = strokes_from style w.letters w.cell w.rest in
    rw add-one
    (ap (λ (o : Option Letter). letter_left style o ++ rest) c.in-Some.is
    ∙ ap (λ (xs : List (Spot × Spot)). xs ++ rest)
    (drop_taken (letter_strokes style letter.corner letter.code_point) letter.stroke c.in_ok-stroke.stroke (sym c.in_ok-stroke.ensures.value)))
