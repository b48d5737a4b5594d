-- Which texts operators show, and where. ISO 32000-1, 9.4.2 and 9.4.3.
use Rattle.std.specs.Prelude.{ℕ, ℤ, ◌+◌, ◌*◌, List, [], ◌∷◌, ◌++◌, map}
use Rattle.labels.specs.Labels.{LineShape}
use Rattle.pdf.specs.Operators.{Operator, TextMatrix, Font, ShowText, EndText}
use Rattle.pdf.specs.Texts.{Matrix, matrix_of, written}

-- code points from a place on, by a matrix
pub record PlacedText : Type 0 where
  pub text : List ℕ
  pub matrix : Matrix
  pub x : ℤ
  pub y : ℤ

-- the letters that are shown by the font of this row, and by those that are set, before a text is placed or ends
abbrev pub letters_shown : ℕ → List Operator → List ℕ
letters_shown row [] = []
letters_shown row (TextMatrix matrix x y ∷ os) = []
letters_shown row (EndText ∷ os) = []
letters_shown row (Font other ∷ os) = letters_shown other os
letters_shown row (ShowText bytes ∷ os) = map (λ byte. 256 * row + byte) bytes ++ letters_shown row os
letters_shown row (_ ∷ os) = letters_shown row os

-- the texts that are placed, when the font is that of this row
abbrev pub texts_from : ℕ → List Operator → List PlacedText
texts_from row [] = []
texts_from row (TextMatrix matrix x y ∷ os) =
    record { text = letters_shown row os; matrix = matrix; x = x; y = y } ∷ texts_from row os
texts_from row (Font other ∷ os) = texts_from other os
texts_from row (_ ∷ os) = texts_from row os

-- a content begins without a font, which is as good as that of row 0: a text names its own
abbrev pub texts_of : List Operator → List PlacedText
texts_of os = texts_from 0 os

-- a line as a text
abbrev pub placed : LineShape → PlacedText
placed l = record { text = map written l.text; matrix = matrix_of l; x = l.start.x; y = l.start.y }
