use Rattle.std.proofs.Common.{◌≡◌, ◌∙◌, ap, sym, subst, ℕ, List, Ok, Err}
use Rattle.raster_graphics.specs.Positions.{position_of, Ascends}
use Rattle.raster_graphics.proofs.Positions.{found_in_order, searched_in_order}
use Rattle.raster_graphics.proofs.numbers.Numbers.find.Goals as goal

pub returns-then-numbers-place-clause-value : goal.returns-then-numbers-place-clause-value
returns-then-numbers-place-clause-value c =
    let numbers : List ℕ = c.as_slice-numbers.result.now in
    let same : numbers ≡ c.args.self.now = c.as_slice-numbers.ensures.value ∙ c.self.view_is in
    let up : Ascends numbers = subst Ascends (sym same) c.requires in
    found_in_order c.args.row c.args.row numbers up c.if-place-numbers.true c.if-numbers-place.true ∙ ap (position_of c.args.row) same

pub returns-in-Ok-clause-value : goal.returns-in-Ok-clause-value
returns-in-Ok-clause-value c =
    let numbers : List ℕ = c.as_slice-numbers.result.now in
    let same : numbers ≡ c.args.self.now = c.as_slice-numbers.ensures.value ∙ c.self.view_is in
    let up : Ascends numbers = subst Ascends (sym same) c.requires in
    searched_in_order c.args.row numbers (Ok c.in-Ok.position) up c.in-Ok.ensures.position ∙ ap (position_of c.args.row) same

pub returns-in-Err-clause-value : goal.returns-in-Err-clause-value
returns-in-Err-clause-value c =
    let numbers : List ℕ = c.as_slice-numbers.result.now in
    let same : numbers ≡ c.args.self.now = c.as_slice-numbers.ensures.value ∙ c.self.view_is in
    let up : Ascends numbers = subst Ascends (sym same) c.requires in
    searched_in_order c.args.row numbers (Err c.in-Err.field-0) up c.in-Err.ensures.position ∙ ap (position_of c.args.row) same
