use Rattle.std.proofs.Common.{take, fold}
use Rattle.clap.specs.Words.{app_of}
use Rattle.command_line.specs.Options.{IsOf, add_subcommand}
use Rattle.command_line.proofs.options.add_commands.Given as goal

-- the command has the subcommands so far
abbrev pub invariant-loop-name : goal.invariant-loop-name
invariant-loop-name l = IsOf (fold (λ app row. add_subcommand app (row.0.now, row.1)) (app_of l.fn.command) (take l.name-index l.rows)) l.command
