-- The strokes that are left of a label, as code takes them one at a time: those of a letter, and those of the signs after
-- it.
use Rattle.std.specs.Prelude.{◌+◌, ◌*◌, ◌≤◌, ◌^◌, nat_abs, List, [], ◌++◌, drop, length, Option, None, Some, IfSome}
use Rattle.exact.specs.declared.spot.Spot.{Spot}
use Rattle.directions.specs.Bounds.{IsWithin}
use Rattle.lettering.specs.Bounds.{IsNear}
use Rattle.lettering.specs.Labels.{strokes_from}
use Rattle.lettering.specs.Letters.{letter_strokes}
use Rattle.lettering.specs.declared.style.Style.{Style}
use Rattle.lettering.specs.declared.written.Letter.{Letter}
use Rattle.lettering.specs.declared.written.Written.{Written}

abbrev pub letter_left : Style → Option Letter → List (Spot × Spot)
letter_left style None = []
letter_left style (Some letter) = drop letter.stroke (letter_strokes style letter.corner letter.code_point)

abbrev pub written_left : Written → List (Spot × Spot)
written_left w =
    let style = w.lettering.now.style in
    letter_left style w.letter ++ strokes_from style w.letters w.cell w.rest

pub record IsLetter (style : Style) (letter : Letter) : Type 0 where
  pub corner_in : IsWithin (2 ^ 65) letter.corner
  pub near_in : IfSome letter.near (IsNear style letter.corner)

-- a label has at most 2^26 signs, each of which takes at most 8 columns and a line
pub record IsWritten (w : Written) : Type 0 where
  pub column_in : nat_abs w.cell.column + 8 * length w.rest ≤ 2 ^ 29
  pub line_in : w.cell.line + length w.rest ≤ 2 ^ 26
  pub letters_in : nat_abs w.letters ≤ 2 ^ 29
  pub letter_in : IfSome w.letter (IsLetter w.lettering.now.style)
