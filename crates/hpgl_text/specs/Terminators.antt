-- The terminator of labels: the byte that ends their texts, and whether it is printed, too. HP-GL/2, Define Label
-- Terminator.
use Rattle.std.specs.Prelude.{ℕ, ◌^◌, pos, Bool, false, ◌&&◌, ◌==◌, ◌||◌, if◌then◌else◌, List, [], ◌∷◌, take, drop}
use Rattle.std.specs.List.{prefix_len}
use Rattle.std.specs.Ordering.{int_eq}
use Rattle.exact.specs.Fraction.{round}
use Rattle.hpgl_text.specs.declared.terminator.Terminator.{Terminator}
use Rattle.hpgl_text.specs.Bytes.{byte, end_of_text, escape, is_blank, begins_with, place_of, length_through}
use Rattle.hpgl_text.specs.Numbers.{begins_with_number, number_value}
use Rattle.hpgl_text.specs.Shapes as shape
use Rattle.hpgl_text.specs.Shapes.{BodyShape, Bad}

-- a byte that ends texts and is not printed
abbrev pub unprinted : ℕ → Terminator
unprinted byte = record { byte = byte; is_printed = false }

-- the terminator at the start
abbrev pub first_terminator : Terminator
first_terminator = unprinted end_of_text

-- the text up to the terminator, and with it if it is printed and is there
abbrev pub text_ended_by : Terminator → List ℕ → List ℕ
text_ended_by end text =
    take (if end.is_printed then length_through end.byte text else place_of end.byte text) text

-- the terminator from here on: ETX if there is none before a semicolon; NUL, LF and ESC cannot end labels
abbrev pub named_terminator : List ℕ → BodyShape
named_terminator [] = Bad
named_terminator (b ∷ text) =
    if b == byte ";" then shape.Terminator first_terminator else
    if b == byte "\0" || b == byte "\n" || b == escape then Bad else
    shape.Terminator (unprinted b)

-- the number that a text begins with rounds to 0
abbrev pub begins_with_zero : List ℕ → Bool
begins_with_zero text =
    begins_with_number text && int_eq (round (record { over = number_value text; under = 10 ^ 6 })) (pos 0)

-- a text begins with the mode that prints the terminator, 0: after a comma and any blanks
abbrev pub begins_with_printing : List ℕ → Bool
begins_with_printing text =
    begins_with "," text && begins_with_zero (drop (prefix_len is_blank (drop 1 text)) (drop 1 text))

-- the same terminator, printed or not
abbrev pub printed_if : Bool → BodyShape → BodyShape
printed_if printed (shape.Terminator end) = shape.Terminator (record { byte = end.byte; is_printed = printed })
printed_if printed body = body

-- in the profile full a mode may follow the byte; none follows a semicolon
abbrev pub named_with_mode : List ℕ → BodyShape
named_with_mode text =
    if begins_with ";" text then named_terminator text else
    printed_if (begins_with_printing (drop 1 text)) (named_terminator text)
