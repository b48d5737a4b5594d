-- The exit status of a command line that gave no matches.
use Rattle.std.specs.Prelude.{ℕ}
use Rattle.clap.specs.declared.error.kind.ErrorKind.{ErrorKind}
use Rattle.clap.specs.declared.error.kind.ErrorKind.TheVariants.{DisplayHelp, DisplayVersion, OutOfMemory}

-- 0 if help or the version was asked for, 4 if memory ran out, and 2 for usage
abbrev pub parse_status_of : ErrorKind → ℕ
parse_status_of DisplayHelp = 0
parse_status_of DisplayVersion = 0
parse_status_of OutOfMemory = 4
parse_status_of _ = 2
