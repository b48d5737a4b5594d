use Rattle.std.proofs.Common.{◌∙◌}
use Rattle.dxf.specs.Cuts.{narrowed}
use Rattle.dxf.proofs.cuts.span_of.Goals as goal

pub returns : goal.returns
returns c =
    let left = c.narrowed-left.ensures ∙ (λ i. narrowed (c.left_side.ensures i) (c.whole_way.ensures i)) in
    let right = c.narrowed-right.ensures ∙ (λ i. narrowed (c.right_side.ensures i) (left i)) in
    let lower = c.narrowed-lower.ensures ∙ (λ i. narrowed (c.lower_side.ensures i) (right i)) in
    c.narrowed.ensures ∙ (λ i. narrowed (c.upper_side.ensures i) (lower i))
