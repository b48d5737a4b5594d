use Rattle.std.proofs.Common.{arith, ◌+◌, ◌++◌, length, ap, ◌∙◌}
use Rattle.line_types.specs.Left.{gap_dash}
use Rattle.line_types.proofs.Lefts.{gap_more, repetition_more}
use Rattle.line_types.proofs.repeated.Repeated.advance.Goals as goal

pub returns-then-self-len-clause-taken : goal.returns-then-self-len-clause-taken
returns-then-self-len-clause-taken c =
    let m = c.args.self.now in
    let s = c.requires.sound in
    gap_more (gap_dash m) (length m.pattern.now) m.repetitions m.repetition m.gap c.requires.more s.gap_in s.gap_drawn

pub returns-else-self-len-clause-taken : goal.returns-else-self-len-clause-taken
returns-else-self-len-clause-taken c =
    let m = c.args.self.now in
    let s = c.requires.sound in
    gap_more (gap_dash m) (length m.pattern.now) m.repetitions m.repetition m.gap c.requires.more s.gap_in s.gap_drawn
    ∙ ap (λ rest. gap_dash m m.repetition m.gap ++ rest) (repetition_more (gap_dash m) (length m.pattern.now) m.repetitions m.repetition (m.gap + 2) c.requires.more (omega arith))
