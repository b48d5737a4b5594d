-- What command lines come to, for examples.
use Rattle.std.proofs.Common.{◌≡◌, ◌∷◌, ◌++◌, [], List, Option, codes, map}
use Rattle.std.specs.Prelude.{◌==◌, option_and_then, option_map, if◌then◌else◌}
use Rattle.clap.specs.Words.{Kinds, Text, fault_of, subcommand_of}
use Rattle.picture_job.specs.declared.page_choice.PageChoice.{PageChoice}
use Rattle.command_line.specs.declared.destination.Destination.TheVariants.{File}
use Rattle.command_line.specs.Faults.{Refusal}
use Rattle.command_line.specs.Lines.{choice_in, fault_of_values, kind_named}
use Rattle.command_line.specs.Options.{plot_app}

-- a table of examples: each input has its output
abbrev pub Table : {X Y : Type 0} → (X → Y) → List (X × Y) → Type 0
Table f rows = map (λ it. f it.0) rows ≡ map (λ it. it.1) rows

-- the words of a text that has one space between them, of which the first has begun
abbrev words_after : Text → Text → List Text
words_after word [] = word ∷ []
words_after word (c ∷ cs) = if c == 32 then word ∷ words_after [] cs else words_after (word ++ c ∷ []) cs

-- the words of a command line, the program's name before them
abbrev pub words_of : Text → List Text
words_of [] = codes "plotraster" ∷ []
words_of (c ∷ cs) = codes "plotraster" ∷ words_after [] (c ∷ cs)

-- what is wrong with the values on a command line
abbrev pub value_fault_on : Text → Option Refusal
value_fault_on line = option_and_then (fault_of_values File) (subcommand_of plot_app (words_of line))

-- the kinds of fault on a command line
abbrev pub faults_on : Text → Kinds
faults_on line = fault_of plot_app (words_of line)

-- the choice of the page on a command line
abbrev pub choice_on : Text → Option PageChoice
choice_on line = option_and_then (λ p. option_map (λ kind. choice_in kind p.1) (kind_named p.0)) (subcommand_of plot_app (words_of line))
