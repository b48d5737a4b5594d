use Rattle.std.proofs.Common.{◌∙◌, sym}
use Rattle.pen_list.proofs.ColourNames.{named_here, named_later}
use Rattle.pen_list.proofs.colour.named_in.Goals as goal

pub returns-then-eq_ignore_ascii_case : goal.returns-then-eq_ignore_ascii_case
returns-then-eq_ignore_ascii_case c =
    let here = named_here c.args.rows.now c.loop-name.name-index _ c.args.text.now c.loop-name-test.true c.eq_ignore_ascii_case.result c.eq_ignore_ascii_case.ensures.test c.if-eq_ignore_ascii_case.true in
    sym here ∙ c.loop-name.invariant

pub loop-name-preserved : goal.loop-name-preserved
loop-name-preserved c =
    let later = named_later c.args.rows.now c.loop-name.name-index _ c.args.text.now c.loop-name-test.true c.eq_ignore_ascii_case.result c.eq_ignore_ascii_case.ensures.test c.if-eq_ignore_ascii_case.false in
    later ∙ c.loop-name.invariant
