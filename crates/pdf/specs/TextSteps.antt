-- What is written for each letter of a line, one at a time.
use Rattle.std.specs.Prelude.{ℕ, ◌==◌, List, [], ◌∷◌, ◌++◌, Option, Some, None, if◌then◌else◌, codes}
use Rattle.pdf.specs.Numbers.{two_digits}
use Rattle.pdf.specs.Operators.{Font, operator_text}
use Rattle.pdf.specs.Texts.{byte_of, row_of}

-- the end of the piece of a row, if there is one
abbrev pub piece_end : Option ℕ → List ℕ
piece_end None = []
piece_end (Some row) = codes "> Tj\n"

-- the start of another one
abbrev pub piece_start : Option ℕ → ℕ → List ℕ
piece_start before row = piece_end before ++ operator_text (Font row) ++ codes "<"

-- what comes before a letter of a row
abbrev pub row_text : Option ℕ → ℕ → List ℕ
row_text None row = piece_start None row
row_text (Some before) row = if before == row then [] else piece_start (Some before) row

abbrev pub letter_text : Option ℕ → ℕ → List ℕ
letter_text before point = row_text before (row_of point) ++ two_digits (byte_of point)

-- what is still to be written for these letters, and after them
abbrev pub letters_text : Option ℕ → List ℕ → List ℕ
letters_text before [] = piece_end before
letters_text before (point ∷ points) = letter_text before point ++ letters_text (Some (row_of point)) points
