use Rattle.std.proofs.Common.{◌+◌, length, sum}
use Rattle.line_types.specs.Lines.{long_of}
use Rattle.line_types.specs.Patterns.{start_of}
use Rattle.line_types.specs.Dashes.{Stretch, dash}
use Rattle.line_types.specs.Left.{distance_by}
use Rattle.line_types.proofs.Lefts.{all_left}
use Rattle.line_types.proofs.repeated.Repeated.new.Goals as goal

pub returns-clause-all : goal.returns-clause-all
returns-clause-all c =
    let from = c.args.line.from in
    let to = c.args.line.to in
    let gaps = c.args.pattern.now in
    let count = c.args.repetitions in
    let stretch : Stretch = record { from = from; to = to; long = long_of from to; start = c.args.start } in
    let distance = distance_by c.args.spacing (long_of from to) count (sum gaps) in
    all_left (λ r j. dash stretch (distance r (start_of gaps j)) (distance r (start_of gaps (j + 1)))) (length gaps) count
