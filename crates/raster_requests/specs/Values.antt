-- Values of commands, with their signs.
use Rattle.std.specs.Prelude.{ℕ, ℤ, pos, neg_ℤ}
use Rattle.exact.specs.Fraction.{round}
use Rattle.escapes.specs.declared.command.Sign.{Sign}
use Rattle.escapes.specs.declared.command.Sign.TheVariants.{Unsigned, Plus, Minus}
use Rattle.escapes.specs.Commands.{Said}

abbrev pub with_sign : Sign → ℕ → ℤ
with_sign Unsigned size = pos size
with_sign Plus size = pos size
with_sign Minus size = neg_ℤ (pos size)

-- the value, in millionths
abbrev pub signed_value : Said → ℤ
signed_value command = with_sign command.sign command.millionths

-- the value rounded to a whole number
abbrev pub whole_value : Said → ℤ
whole_value command = round (record { over = signed_value command; under = 1000000 })
