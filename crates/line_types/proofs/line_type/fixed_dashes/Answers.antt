use Rattle.std.proofs.Common.{arith}
use Rattle.line_types.specs.LineTypes.{phase_at}
use Rattle.line_types.specs.Left.{repeated_left}
use Rattle.line_types.proofs.WholeLines.{fixed_is}
use Rattle.line_types.proofs.line_type.fixed_dashes.Goals as goal

pub returns : goal.returns
returns c =
    let line = c.args.line in
    fixed_is c.args.pattern.now c.args.length.ticks c.long-long.result line.from line.to (omega arith) c.long-long.ensures.value c.of.result
    c.phase_at-start.result (phase_at c.args.run line.from c.args.length.ticks) (repeated_left c.new.result) c.phase_at-start.ensures.value c.of.ensures c.new.ensures.all
