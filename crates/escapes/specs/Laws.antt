-- What holds of escapes.
use Rattle.std.specs.Prelude.{◌≡◌, ℕ, ◌+◌, ◌<◌, ◌≤◌, true, List, [], ◌∷◌, ◌++◌, length, sum_by, All, Some, None}
use Rattle.hpgl_text.specs.Bytes.{byte}
use Rattle.escapes.specs.Commands.{Said, is_large, value_limit, data_count}
use Rattle.escapes.specs.Escapes.{escape}

-- an escape takes the begin of a text, of at least a byte
abbrev pub EscapesTakeBytes : Type 0
EscapesTakeBytes = (text : List ℕ) (commands : List Said) (rest : List ℕ) → escape text ≡ Some (commands, rest)
    → (taken : List ℕ) × (0 < length taken) × (text ≡ taken ++ rest)

-- a command has at least its letter and its data
abbrev pub bytes_of : Said → ℕ
bytes_of command = 1 + length command.input

-- an escape has a command, and no byte is in two
pub record CommandsAreApart : Type 0 where
  pub some : (text : List ℕ) (commands : List Said) (rest : List ℕ) → escape text ≡ Some (commands, rest)
      → 0 < length commands
  pub apart : (text : List ℕ) (commands : List Said) (rest : List ℕ) → escape text ≡ Some (commands, rest)
      → sum_by bytes_of commands + length rest ≤ length text

-- the commands of an escape are of one group; without a group, and after ESC %, there is one
pub record CommandsShareTheirGroup : Type 0 where
  pub alike : (text : List ℕ) (first : Said) (more : List Said) (rest : List ℕ) → escape text ≡ Some (first ∷ more, rest)
      → All (λ command. (command.group ≡ first.group) × (command.parameter ≡ first.parameter)) more
  pub alone : (text : List ℕ) (first : Said) (more : List Said) (rest : List ℕ) → escape text ≡ Some (first ∷ more, rest)
      → first.group ≡ None → more ≡ []
  pub language : (text : List ℕ) (first : Said) (more : List Said) (rest : List ℕ) → escape text ≡ Some (first ∷ more, rest)
      → first.group ≡ Some (byte "%") → more ≡ []

-- an integer part is at most the greatest, and the letter of a command with a group is a capital
pub record CommandsAreInRange : Type 0 where
  pub values : (text : List ℕ) (commands : List Said) (rest : List ℕ) → escape text ≡ Some (commands, rest)
      → All (λ command. command.millionths < value_limit) commands
  pub letters : (text : List ℕ) (commands : List Said) (rest : List ℕ) → escape text ≡ Some (commands, rest)
      → All (λ command. (b : ℕ) → command.group ≡ Some b → is_large command.letter ≡ true) commands

-- how many bytes of data a command asks for
abbrev pub wanted : Said → ℕ
wanted command = data_count command.group command.parameter command.sign command.millionths command.letter

-- data are as long as a command says, or shorter at the text's end
pub record DataAreAsLongAsSaid : Type 0 where
  pub most : (text : List ℕ) (commands : List Said) (rest : List ℕ) → escape text ≡ Some (commands, rest)
      → All (λ command. length command.input ≤ wanted command) commands
  pub whole : (text : List ℕ) (commands : List Said) (rest : List ℕ) → escape text ≡ Some (commands, rest) → 0 < length rest
      → All (λ command. length command.input ≡ wanted command) commands
