-- Escapes.
use Rattle.std.proofs.Common.{◌≡◌, ℕ, List, [], ◌∷◌, map, Option, Some, None, refl}
use Rattle.std.specs.Prelude.{codes}
use Rattle.escapes.specs.declared.command.Sign.{Sign}
use Rattle.escapes.specs.declared.command.Sign.TheVariants.{Unsigned, Plus, Minus}
use Rattle.escapes.specs.Commands.{Said}
use Rattle.escapes.specs.Escapes.{chain, escape}

command : Option ℕ → Option ℕ → Sign → ℕ → List ℕ → List ℕ → Said
command group parameter sign millionths letter input = record {
  group = group;
  parameter = parameter;
  sign = sign;
  millionths =
      millionths;
  letter = sum_of letter;
  input = input;
}
  where
    sum_of : List ℕ → ℕ
    sum_of [] = 0
    sum_of (b ∷ bs) = b

alone_e : escape (codes "EPU") ≡ Some (command None None Unsigned 0 (codes "E") [] ∷ [], codes "PU")
unfolding command
alone_e = refl

alone_nine : escape (codes "9") ≡ Some (command None None Unsigned 0 (codes "9") [] ∷ [], [])
unfolding command
alone_nine = refl

-- strays: no command, another ESC, a device control, the end
strays : map escape (codes "*b" ∷ (42 ∷ 98 ∷ 27 ∷ []) ∷
    (27 ∷ codes "(s3B") ∷ codes ".(" ∷ [] ∷ codes "*b12" ∷ codes "%8" ∷ []) ≡ None ∷ None ∷ None ∷ None ∷ None ∷ None ∷ None ∷ []
unfolding chain
strays = refl

-- one command of a group with a small letter, and without one
one_command : map escape (codes "*c5P" ∷ codes "(s3BX" ∷ codes "(8U" ∷ codes "*rB" ∷ [])
    ≡ Some (command (Some 42) (Some 99) Unsigned 5000000 (codes "P") [] ∷ [], [])
    ∷ Some (command (Some 40) (Some 115) Unsigned 3000000 (codes "B") [] ∷ [], codes "X")
    ∷ Some (command (Some 40) None Unsigned 8000000 (codes "U") [] ∷ [], [])
    ∷ Some (command (Some 42) (Some 114) Unsigned 0 (codes "B") [] ∷ [], []) ∷ []
unfolding chain command
one_command = refl

-- two commands; the second breaks off
two_commands : map escape (codes "*r9a1G" ∷ codes "*r9a1;" ∷ codes "*p12x-6.5Y" ∷ codes "*rbC" ∷ [])
    ≡ Some (
      command (Some 42) (Some 114) Unsigned 9000000 (codes "A") [] ∷ command (Some 42) (Some 114) Unsigned 1000000
          (codes "G") [] ∷ [],
      [],
    )
    ∷ Some (command (Some 42) (Some 114) Unsigned 9000000 (codes "A") [] ∷ [], codes "1;")
    ∷ Some (
      command (Some 42) (Some 112) Unsigned 12000000 (codes "X") [] ∷ command (Some 42) (Some 112) Minus 6500000
          (codes "Y") [] ∷ [],
      [],
    )
    ∷ Some (
      command (Some 42) (Some 114) Unsigned 0 (codes "B") [] ∷ command (Some 42) (Some 114) Unsigned 0
          (codes "C") [] ∷ [],
      [],
    ) ∷ []
unfolding chain command
two_commands = refl

-- data: of W in any group, of *b..V and &p..X, after small letters, too; below 0 none, and what is left
with_data : map escape (codes "&p5XPD9,9;" ∷ codes ")s5WPD8,8PD" ∷ codes "*b1v(1V)" ∷ codes "*b-3WAB" ∷ codes "*b9WAB" ∷ codes
    "*b1.5WABC" ∷ codes "*t3XAB" ∷ [])
    ≡ Some (command (Some 38) (Some 112) Unsigned 5000000 (codes "X") (codes "PD9,9") ∷ [], codes ";")
    ∷ Some (command (Some 41) (Some 115) Unsigned 5000000 (codes "W") (codes "PD8,8") ∷ [], codes "PD")
    ∷ Some (
      command (Some 42) (Some 98) Unsigned 1000000 (codes "V") (codes "(") ∷ command (Some 42) (Some 98) Unsigned 1000000
          (codes "V") (codes ")") ∷ [],
      [],
    )
    ∷ Some (command (Some 42) (Some 98) Minus 3000000 (codes "W") [] ∷ [], codes "AB")
    ∷ Some (command (Some 42) (Some 98) Unsigned 9000000 (codes "W") (codes "AB") ∷ [], [])
    ∷ Some (command (Some 42) (Some 98) Unsigned 1500000 (codes "W") (codes "AB") ∷ [], codes "C")
    ∷ Some (command (Some 42) (Some 116) Unsigned 3000000 (codes "X") [] ∷ [], codes "AB") ∷ []
unfolding chain command
with_data = refl

-- seeds after a move: a compression, a move, and no bytes
chained : escape (codes "*b3m1y0W") ≡ Some (
  command (Some 42) (Some 98) Unsigned 3000000 (codes "M") [] ∷ command (Some 42) (Some 98) Unsigned 1000000 (codes "Y") []
      ∷ command (Some 42) (Some 98) Unsigned 0 (codes "W") [] ∷ [],
  [],
)
unfolding chain command
chained = refl

-- changes of the language are one command each, of either case or @
languages : map escape (codes "%0APD" ∷ codes "%-12345X@" ∷ codes "%0bPU" ∷ codes "%@" ∷ codes "%1.5A" ∷ [])
    ≡ Some (command (Some 37) None Unsigned 0 (codes "A") [] ∷ [], codes "PD")
    ∷ Some (command (Some 37) None Minus 12345000000 (codes "X") [] ∷ [], codes "@")
    ∷ Some (command (Some 37) None Unsigned 0 (codes "B") [] ∷ [], codes "PU")
    ∷ Some (command (Some 37) None Unsigned 0 (codes "@") [] ∷ [], []) ∷ None ∷ []
unfolding command
languages = refl

-- values: signs, six decimals, none, and the greatest
values : map escape (codes "*p+.1234567X" ∷ codes "*p-X" ∷ codes "*p.X" ∷ codes "*p99999999999.5X" ∷ [])
    ≡ Some (command (Some 42) (Some 112) Plus 123456 (codes "X") [] ∷ [], [])
    ∷ Some (command (Some 42) (Some 112) Minus 0 (codes "X") [] ∷ [], [])
    ∷ Some (command (Some 42) (Some 112) Unsigned 0 (codes "X") [] ∷ [], [])
    ∷ Some (command (Some 42) (Some 112) Unsigned 2147483647500000 (codes "X") [] ∷ [], []) ∷ []
unfolding chain command
values = refl
