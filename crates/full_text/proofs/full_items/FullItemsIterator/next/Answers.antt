use Rattle.std.proofs.Common.{arith, ◌≡◌, ◌∙◌, ◌+◌, ◌<◌, ◌∷◌, ℕ, List, length, ap, sym}
use Rattle.hpgl_text.specs.Shapes.{ItemShape}
use Rattle.full_text.specs.Cut.{escape_at, item_of, language_of}
use Rattle.full_text.specs.Left.{left_from}
use Rattle.full_text.proofs.Steps.{found_next}
use Rattle.full_text.proofs.full_items.FullItemsIterator.next.Goals as goal
use Rattle.full_text.proofs.full_items.FullItemsIterator.next.Goals.{After-terminator_left_by-self-inside}

-- the item that is cut, and those after it
first : (c : After-terminator_left_by-self-inside)
    → c.args.self.now ≡ c.read_any-item.result.0 ∷ left_from c.self.inside.plot.now c.language_left-self-inside.result c.terminator_left_by-self-inside.result (c.past_silence-at.result + c.read_any-item.result.1)
first c =
    let s = c.self.inside in
    let plot = s.plot.now in
    let at = c.past_silence-at.result in
    let here : at < length plot = omega arith in
    sym c.self.view_is ∙ c.past_silence-at.ensures.left s.terminator
    ∙ found_next plot s.language c.language_left-self-inside.result s.terminator c.terminator_left_by-self-inside.result at c.read_any-item.result.1 c.read_any-item.result.0 here (c.past_silence-at.ensures.loud here)
    (c.read_any-item.ensures.item ∙ ap (λ (t : List ℕ). (item_of (escape_at t) s.language s.terminator at t).item) c.past-text.ensures)
    (c.read_any-item.ensures.bytes ∙ ap (λ (t : List ℕ). (item_of (escape_at t) s.language s.terminator at t).bytes) c.past-text.ensures)
    (c.language_left-self-inside.ensures ∙ ap (λ (t : List ℕ). language_of (escape_at t) s.language) c.past-text.ensures)
    c.terminator_left_by-self-inside.ensures

pub returns-clause-steps : goal.returns-clause-steps
returns-clause-steps c = first (goal.at.returns-clause-steps c).After-terminator_left_by-self-inside

pub returns-clause-goes : goal.returns-clause-goes
returns-clause-goes c = omega (arith, ap (λ (items : List ItemShape). length items) (first (goal.at.returns-clause-goes c).After-terminator_left_by-self-inside))
