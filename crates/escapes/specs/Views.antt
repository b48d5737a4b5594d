-- What the code's types stand for.
use Rattle.std.specs.Prelude.{ℕ, List, [], ◌∷◌, length, Option, Some, None}
use Rattle.escapes.specs.declared.command.Command.{Command}
use Rattle.escapes.specs.declared.escape.Chain.{Chain}
use Rattle.escapes.specs.declared.escape.Step.{Step}
use Rattle.escapes.specs.Commands.{Said}
use Rattle.escapes.specs.Escapes.{chain}

-- a command
abbrev pub said : Command → Said
said command = record {
  group = command.group;
  parameter = command.parameter;
  sign = command.sign;
  millionths = command.millionths;
  letter = command.letter;
  input = command.input.now;
}

-- the commands of a group that goes on or not, and the text after them
abbrev pub left : Option Chain → List ℕ → List Said × List ℕ
left None text = ([], text)
left (Some group) text = chain (length text) group.group group.parameter text

-- a command and those after it, and the text after them
abbrev pub all_of : Step → List Said × List ℕ
all_of step = (said step.command ∷ (left step.more step.rest.now).0, (left step.more step.rest.now).1)
