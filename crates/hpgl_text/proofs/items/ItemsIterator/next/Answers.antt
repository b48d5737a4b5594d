use Rattle.std.proofs.Common.{arith, ◌≡◌, ◌∙◌, ◌+◌, ◌<◌, ◌∷◌, ℕ, List, length, ap, sym}
use Rattle.hpgl_text.specs.Shapes.{ItemShape}
use Rattle.hpgl_text.specs.Mnemonics.{kind_of}
use Rattle.hpgl_text.specs.Items.{first_item}
use Rattle.hpgl_text.specs.Left.{left_from}
use Rattle.hpgl_text.proofs.Lefts.{found_next}
use Rattle.hpgl_text.proofs.items.ItemsIterator.next.Goals as goal
use Rattle.hpgl_text.proofs.items.ItemsIterator.next.Goals.{After-terminator_left_by-self-inside}

-- the item that is cut, and those after it
first : (c : After-terminator_left_by-self-inside)
    → c.args.self.now ≡ c.read_item-item.result.0 ∷ left_from c.self.inside.profile c.self.inside.plot.now c.terminator_left_by-self-inside.result (c.past_silence-at.result + c.read_item-item.result.1)
first c =
    let s = c.self.inside in
    let plot = s.plot.now in
    let at = c.past_silence-at.result in
    let here : at < length plot = omega arith in
    sym c.self.view_is ∙ c.past_silence-at.ensures.left s.profile s.terminator
    ∙ found_next s.profile plot s.terminator c.terminator_left_by-self-inside.result at c.read_item-item.result.1 c.read_item-item.result.0 here (c.past_silence-at.ensures.loud here)
    (c.read_item-item.ensures.item ∙ ap (λ (t : List ℕ). (first_item (kind_of s.profile) s.terminator at t).item) c.past.ensures) (c.read_item-item.ensures.bytes ∙ ap (λ (t : List ℕ). (first_item (kind_of s.profile) s.terminator at t).bytes) c.past.ensures)
    c.terminator_left_by-self-inside.ensures

pub returns-clause-steps : goal.returns-clause-steps
returns-clause-steps c = first (goal.at.returns-clause-steps c).After-terminator_left_by-self-inside

pub returns-clause-goes : goal.returns-clause-goes
returns-clause-goes c = omega (arith, ap (λ (items : List ItemShape). length items) (first (goal.at.returns-clause-goes c).After-terminator_left_by-self-inside))
