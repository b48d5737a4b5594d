-- What the numbers of CP (Character Plot) ask for, or None if they are wrong. Numbers are in millionths, and those
-- after the last that CP has are ignored.
use Rattle.std.specs.Prelude.{◌^◌, ℤ, nat_abs, nat_le, Bool, ◌&&◌, List, [], ◌∷◌, Option, Some, None, ⊤}
use Rattle.plot_settings.specs.Parameters.{when}
use Rattle.full_settings.specs.LetterParameters.{pair_of, IsPairWithin}
use Rattle.full_settings.specs.declared.character_moves.CharacterMove.{CharacterMove}
use Rattle.full_settings.specs.declared.character_moves.CharacterMove.TheVariants.{ToMargin, By}

-- numbers of a plot are always below 2^52 on either side of 0
abbrev pub is_near : ℤ → Bool
is_near n = nat_le (nat_abs n) (2 ^ 52)

-- CP columns, lines: to the margin of the next line if none is named
abbrev pub character_move : List ℤ → Option CharacterMove
character_move [] = Some ToMargin
character_move (x ∷ []) = None
character_move (x ∷ (y ∷ ns)) = when (is_near x && is_near y) (By (pair_of x y))

abbrev pub IsCharacterMove : CharacterMove → Type 0
IsCharacterMove ToMargin = ⊤
IsCharacterMove (By move) = IsPairWithin (2 ^ 52) move
