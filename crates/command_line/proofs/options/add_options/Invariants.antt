use Rattle.std.proofs.Common.{take, fold}
use Rattle.clap.specs.Words.{app_of}
use Rattle.command_line.specs.Options.{IsOf}
use Rattle.command_line.specs.Tables.{add_option, row_of}
use Rattle.command_line.proofs.options.add_options.Given as goal

-- the command has its options so far
abbrev pub invariant-loop-row : goal.invariant-loop-row
invariant-loop-row l = IsOf (fold (λ app row. add_option l.kind app (row_of row)) (app_of l.fn.command) (take l.row-index l.rows)) l.command
