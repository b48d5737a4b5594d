-- The turns that the text after `--rotate` asks for, in degrees counterclockwise.
use Rattle.std.specs.Prelude.{Option, Some, codes, if◌then◌else◌}
use Rattle.std.specs.Prelude.{None as no_turn}
use Rattle.std.specs.Str.{bytes_eq}
use Rattle.clap.specs.Words.{Text}
use Rattle.directions.specs.declared.turn.Turn.{Turn}
use Rattle.directions.specs.declared.turn.Turn.TheVariants.{None, Quarter, Half, ThreeQuarters}

-- the turn, if it is one
abbrev pub turn_named : Text → Option Turn
turn_named text =
    if bytes_eq text (codes "0") then Some None else
    if bytes_eq text (codes "90") then Some Quarter else
    if bytes_eq text (codes "180") then Some Half else
    if bytes_eq text (codes "270") then Some ThreeQuarters else no_turn
