use Rattle.std.proofs.Common.{arith}
use Rattle.std.specs.Option.{option_to_list}
use Rattle.line_types.specs.Left.{repeated_left}
use Rattle.line_types.proofs.WholeLines.{adaptive_is}
use Rattle.line_types.proofs.line_type.adaptive_dashes.Goals as goal

pub returns : goal.returns
returns c =
    let line = c.args.line in
    adaptive_is c.args.pattern.now c.args.length.ticks c.long-long.result line.from line.to (omega arith) c.long-long.ensures.value c.of.result
    (repeated_left c.new.result) (option_to_list c.last_dot.result) c.of.ensures c.last_dot.ensures c.new.ensures.all
