-- What is written letter by letter is the text of the pieces of a line.
use Rattle.std.proofs.Common.{◌≡◌, ℕ, ℤ, ◌≤◌, ◌==◌, nat_lt, length, arith, List, [], ◌∷◌, ◌++◌, Bool, true, false, cond, Option, Some, None, codes, decimal, refl, ap, sym, ◌∙◌, append_assoc}
use Rattle.std.proofs.lemmas.Bool.Decides.{nat_tests}
use Rattle.labels.specs.Labels.{LineShape}
use Rattle.pdf.specs.Contents.{pieces_operators, text_operators}
use Rattle.pdf.specs.Numbers.{digits_text, two_digits}
use Rattle.pdf.specs.Operators.{Font, TextMatrix, matrix_text, operator_text, operators_text}
use Rattle.pdf.specs.TextSteps.{letters_text, piece_end, piece_start, row_text}
use Rattle.pdf.specs.Texts.{Piece, above, along, byte_of, matrix_of, pieces, row_of, with_byte}

abbrev pieces_text : List Piece → List ℕ
pieces_text ps = operators_text (pieces_operators ps)

abbrev end : List ℕ
end = codes "> Tj\n"

-- what follows letters of a row, before these pieces
abbrev going : ℕ → List Piece → List ℕ
going row [] = end
going row (p ∷ ps) = cond (row == p.row) ((digits_text p.bytes ++ end) ++ pieces_text ps) (end ++ pieces_text (p ∷ ps))

-- a letter before pieces is the first one of a piece of its row
abbrev Split : ℕ → ℕ → List Piece → List ℕ → Type 0
Split row byte begun following = (bytes : List ℕ) × (others : List Piece) × (begun ≡ record { row = row; bytes = byte ∷ bytes } ∷ others)
    × (following ≡ (digits_text bytes ++ end) ++ pieces_text others)

split_step : (b : Bool) (row byte : ℕ) (p : Piece) (ps : List Piece)
    → Split row byte (cond b (record { row = row; bytes = byte ∷ p.bytes } ∷ ps) (record { row = row; bytes = byte ∷ [] } ∷ p ∷ ps))
    (cond b ((digits_text p.bytes ++ end) ++ pieces_text ps) (end ++ pieces_text (p ∷ ps)))
split_step true row byte p ps = (p.bytes, ps, refl, refl)
split_step false row byte p ps = ([], p ∷ ps, refl, refl)

split : (row byte : ℕ) (ps : List Piece) → Split row byte (with_byte row byte ps) (going row ps)
split row byte [] = ([], [], refl, refl)
split row byte (p ∷ ps) = split_step (row == p.row) row byte p ps

-- the text of a piece
whole_piece : (f w g t : List ℕ) → f ++ (((codes "<" ++ (w ++ g)) ++ end) ++ t) ≡ ((f ++ codes "<") ++ w) ++ ((g ++ end) ++ t)
whole_piece f w g t = simp append_assoc

begin_text : (row byte : ℕ) (ps : List Piece) → pieces_text (with_byte row byte ps) ≡ ((operator_text (Font row) ++ codes "<") ++ two_digits byte) ++ going row ps
begin_text row byte ps =
    let s = split row byte ps in
    ap pieces_text s.2 ∙ whole_piece (operator_text (Font row)) (two_digits byte) (digits_text s.0) (pieces_text s.1)
    ∙ ap (λ (z : List ℕ). ((operator_text (Font row) ++ codes "<") ++ two_digits byte) ++ z) (sym s.3)

-- a letter after one of a row
same_piece : (w g t : List ℕ) → ((w ++ g) ++ end) ++ t ≡ w ++ ((g ++ end) ++ t)
same_piece w g t = simp append_assoc

other_piece : (f w k : List ℕ) → end ++ (((f ++ codes "<") ++ w) ++ k) ≡ (((end ++ f) ++ codes "<") ++ w) ++ k
other_piece f w k = simp append_assoc

next_text : (b : Bool) (row byte : ℕ) (bytes : List ℕ) (others : List Piece) (k : List ℕ) → k ≡ (digits_text bytes ++ end) ++ pieces_text others
    → pieces_text (record { row = row; bytes = byte ∷ bytes } ∷ others) ≡ ((operator_text (Font row) ++ codes "<") ++ two_digits byte) ++ k
    → cond b ((digits_text (byte ∷ bytes) ++ end) ++ pieces_text others) (end ++ pieces_text (record { row = row; bytes = byte ∷ bytes } ∷ others))
    ≡ (cond b [] ((end ++ operator_text (Font row)) ++ codes "<") ++ two_digits byte) ++ k
next_text true row byte bytes others k is text =
    same_piece (two_digits byte) (digits_text bytes) (pieces_text others) ∙ ap (λ (z : List ℕ). two_digits byte ++ z) (sym is)
next_text false row byte bytes others k is text =
    ap (λ (z : List ℕ). end ++ z) text ∙ other_piece (operator_text (Font row)) (two_digits byte) k

going_on : (before row byte : ℕ) (ps : List Piece) → going before (with_byte row byte ps) ≡ (row_text (Some before) row ++ two_digits byte) ++ going row ps
going_on before row byte ps =
    let s = split row byte ps in
    ap (going before) s.2
    ∙ next_text (before == row) row byte s.0 s.1 (going row ps) s.3 (ap pieces_text (sym s.2) ∙ begin_text row byte ps)

letters_after : (row : ℕ) (points : List ℕ) → letters_text (Some row) points ≡ going row (pieces points)
letters_after row [] = refl
letters_after row (point ∷ points) =
    ap (λ (z : List ℕ). (row_text (Some row) (row_of point) ++ two_digits (byte_of point)) ++ z) (letters_after (row_of point) points)
    ∙ sym (going_on row (row_of point) (byte_of point) (pieces points))

pub all_letters : (points : List ℕ) → letters_text None points ≡ operators_text (pieces_operators (pieces points))
all_letters [] = refl
all_letters (point ∷ points) =
    ap (λ (z : List ℕ). (row_text None (row_of point) ++ two_digits (byte_of point)) ++ z) (letters_after (row_of point) points)
    ∙ sym (begin_text (row_of point) (byte_of point) (pieces points))

-- a line that has letters
pub line_text : (l : LineShape) (matrix : List ℕ) → matrix ≡ operator_text (TextMatrix (matrix_of l) l.start.x l.start.y)
    → matrix ++ letters_text None l.text ≡ operators_text (TextMatrix (matrix_of l) l.start.x l.start.y ∷ pieces_operators (pieces l.text))
line_text l matrix is =
    ap (λ (z : List ℕ). z ++ letters_text None l.text) is
    ∙ ap (λ (z : List ℕ). operator_text (TextMatrix (matrix_of l) l.start.x l.start.y) ++ z) (all_letters l.text)

some : (text : List ℕ) → 1 ≤ length text → nat_lt 0 (length text) ≡ true
some text h = grind (arith, nat_tests, h)

-- the operators of a line that has letters
pub of_text : (l : LineShape) (all : List ℕ) → 1 ≤ length l.text → all ≡ operators_text (TextMatrix (matrix_of l) l.start.x l.start.y ∷ pieces_operators (pieces l.text)) → all ≡ operators_text (text_operators l)
of_text l all h is =
    is ∙ ap (λ (b : Bool). operators_text (cond b (TextMatrix (matrix_of l) l.start.x l.start.y ∷ pieces_operators (pieces l.text)) [])) (sym (some l.text h))

-- the numbers of a matrix
pub matrix_as : (l : LineShape) (a b c d : ℤ) → a ≡ along l.start.x l.end.x (length l.text) → b ≡ along l.start.y l.end.y (length l.text) → c ≡ above l.start.x l.top.x → d ≡ above l.start.y l.top.y
    → matrix_text (record { a = a; b = b; c = c; d = d }) ≡ matrix_text (matrix_of l)
matrix_as l a b c d p q r s = rw (p, q, r, s) refl

-- the start of a piece, whose last bytes are put at once
fused : (e a t k : List ℕ) → e ++ (a ++ (t ++ k)) ≡ (e ++ (a ++ t)) ++ k
fused e a t k = simp append_assoc

pub piece_begun : (before : Option ℕ) (row : ℕ) → piece_end before ++ ((codes "/F" ++ decimal row) ++ codes " 1 Tf\n<") ≡ piece_start before row
piece_begun before row = fused (piece_end before) (codes "/F" ++ decimal row) (codes " 1 Tf\n") (codes "<")
