-- Escapes of HP RTL and PCL 5 within a plot: what follows an ESC. Device controls (ESC .) are none of them.
use Rattle.std.specs.Prelude.{ℕ, zero, suc, ◌-◌, ◌*◌, ◌^◌, Bool, ◌&&◌, ◌||◌, not, ◌==◌, nat_le, List, [], ◌∷◌, length, drop, slice_index, Option, Some, None, option_map, if◌then◌else◌}
use Rattle.std.specs.Char.{is_ascii_alphabetic}
use Rattle.hpgl_text.specs.Bytes.{byte, begins_with}
use Rattle.hpgl_text.specs.Numbers.{digits}
use Rattle.escapes.specs.declared.command.Sign.TheVariants.{Unsigned, Minus}
use Rattle.escapes.specs.Commands.{Said, is_small, is_large, sign_of, capped, millionths_of, after_value, finished}

-- the commands of a group, up to the last whole one, and the text after them; there are at most `fuel`
unfoldable pub chain : ℕ → ℕ → Option ℕ → List ℕ → List Said × List ℕ
chain zero group parameter text = ([], text)
chain (suc fuel) group parameter text =
    let letter = slice_index (after_value text) 0 in
    let first = finished (Some group) parameter (sign_of text) (millionths_of text) (after_value text) in
    let more = chain fuel group parameter first.1 in
    if is_small letter then (first.0 ∷ more.0, more.1) else
    if is_large letter then (first.0 ∷ [], first.1) else
    ([], text)

-- all of them, with at least one
abbrev pub some_commands : List Said × List ℕ → Option (List Said × List ℕ)
some_commands ([], text) = None
some_commands (first ∷ more, text) = Some (first ∷ more, text)

abbrev pub grouped : ℕ → Option ℕ → List ℕ → Option (List Said × List ℕ)
grouped group parameter text = some_commands (chain (length text) group parameter text)

-- a byte that begins a group
abbrev pub is_group : ℕ → Bool
is_group b = nat_le 33 b && nat_le b 47 && not (b == byte "%") && not (b == byte ".")

-- a byte that is an escape of its own
abbrev pub is_alone : ℕ → Bool
is_alone b = nat_le 48 b && nat_le b 126

abbrev pub alone : ℕ → Said
alone b = record { group = None; parameter = None; sign = Unsigned; millionths = 0; letter = b; input = [] }

-- after ESC %: an optional minus sign, digits, and a letter or @
abbrev pub minus_length : List ℕ → ℕ
minus_length text = if begins_with "-" text then 1 else 0

abbrev pub language_digits : List ℕ → List ℕ
language_digits text = digits (drop (minus_length text) text)

abbrev pub language_letter : List ℕ → List ℕ
language_letter text = drop (length (language_digits text)) (drop (minus_length text) text)

abbrev pub language : List ℕ → Option (List Said × List ℕ)
language text =
    let letter = slice_index (language_letter text) 0 in
    let sign = if begins_with "-" text then Minus else Unsigned in
    let said = finished (Some (byte "%")) None sign (capped (language_digits text) * 10 ^ 6) (language_letter text) in
    if is_ascii_alphabetic letter || (letter == byte "@") then Some (said.0 ∷ [], said.1) else None

-- a group with a small letter after its byte, or without one
abbrev pub begun : ℕ → List ℕ → Option (List Said × List ℕ)
begun group text =
    if is_small (slice_index text 1)
    then grouped group (Some (slice_index text 1)) (drop 2 text)
    else grouped group None (drop 1 text)

-- the commands of an escape, from the byte after the ESC on, and the text after it; none if the ESC is a stray
abbrev pub escape : List ℕ → Option (List Said × List ℕ)
escape text =
    let first = slice_index text 0 in
    if is_alone first then Some (alone first ∷ [], drop 1 text) else
    if first == byte "%" then language (drop 1 text) else
    if is_group first then begun first text else
    None

-- how many bytes of the text an escape takes
abbrev pub escape_length : List ℕ → Option ℕ
escape_length text = option_map (λ found. length text - length found.1) (escape text)
