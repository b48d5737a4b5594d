-- Objects of a PDF document, each after so many others: the first one has the number 1.
use Rattle.std.specs.Prelude.{ℕ, ◌+◌, List, [], ◌∷◌, ◌++◌, length, codes, decimal}
use Rattle.pieces.specs.Texts.{counted}
use Rattle.pdf.specs.Numbers.{ten_digits}

-- the object after so many others
abbrev pub object_text : ℕ → List ℕ → List ℕ
object_text before body = decimal (before + 1) ++ codes " 0 obj\n" ++ body ++ codes "\nendobj\n"

-- objects one after another
abbrev pub objects_text : ℕ → List (List ℕ) → List ℕ
objects_text before [] = []
objects_text before (body ∷ bodies) = object_text before body ++ objects_text (before + 1) bodies

-- where each of them begins, if the first one begins at `at`
abbrev pub offsets_of : ℕ → ℕ → List (List ℕ) → List ℕ
offsets_of at before [] = []
offsets_of at before (body ∷ bodies) = at ∷ offsets_of (at + length (object_text before body)) (before + 1) bodies

-- a line of the table: where an object begins, a count that stops at its greatest
abbrev pub entry_text : ℕ → List ℕ
entry_text offset = ten_digits (counted offset) ++ codes " 00000 n \n"

abbrev pub entries_text : List ℕ → List ℕ
entries_text [] = []
entries_text (offset ∷ offsets) = entry_text offset ++ entries_text offsets

-- the table of all objects, before which there is a free one of the number 0
abbrev pub table_text : List ℕ → List ℕ
table_text offsets =
    codes "xref\n0 " ++ decimal (length offsets + 1) ++ codes "\n0000000000 65535 f \n" ++ entries_text offsets

-- how many objects there are, which is the first, and where the table begins, a count that stops at its greatest
abbrev pub trailer_text : ℕ → ℕ → List ℕ
trailer_text count at =
    codes "trailer\n<</Size " ++ decimal (count + 1) ++ codes "/Root 1 0 R/Info 2 0 R>>\nstartxref\n"
    ++ decimal (counted at) ++ codes "\n%%EOF\n"

-- the number of an object that is referred to
abbrev pub reference_text : ℕ → List ℕ
reference_text number = codes " " ++ decimal number ++ codes " 0 R"
