-- What a fault of a command line says.
use Rattle.std.specs.Prelude.{Option, None, List, [], ◌∷◌}
use Rattle.std.specs.Option.{option_or}
use Rattle.clap.specs.Words.{Text}
use Rattle.command_line.specs.declared.fault.LineFault.{LineFault}
use Rattle.command_line.specs.declared.fault.LineFault.TheVariants.{Colours, Widths}

-- a fault that names nothing of the line, or an item of a list that is bad
pub data Refusal : Type 0 where
  Plain : LineFault → Refusal
  BadColours : Text → Refusal
  BadWidths : Text → Refusal

abbrev pub refusal_of : LineFault → Refusal
refusal_of (Colours item) = BadColours item.now
refusal_of (Widths item) = BadWidths item.now
refusal_of fault = Plain fault

-- the first of these that is one
abbrev pub first_of_these : List (Option Refusal) → Option Refusal
first_of_these [] = None
first_of_these (fault ∷ others) = option_or fault (first_of_these others)
