-- Colours as text: hexadecimal digits, or one of the sixteen names of HTML 4.01, section 6.5, in small letters or
-- capitals.
use Rattle.std.specs.Prelude.{ℕ, ◌+◌, ◌*◌, ◌==◌, if◌then◌else◌, List, [], ◌∷◌, length, Option, None, codes, find}
use Rattle.std.specs.Prelude.{option_map}
use Rattle.std.specs.Char.{digit_value, is_digit}
use Rattle.std.specs.List.{flat_map, list_all}
use Rattle.std.specs.Option.{option_or}
use Rattle.std.specs.Str.{str_eq_ignore_ascii_case}
use Rattle.plot_page.specs.declared.colour.Colour.{Colour}
use Rattle.plot_settings.specs.Colours.{rgb}
use Rattle.plot_settings.specs.Parameters.{when}

abbrev pub hash : ℕ
hash = 35

-- two hexadecimal digits write 0 to 255
abbrev pub pair : ℕ → ℕ → ℕ
pair first second = 16 * digit_value first + digit_value second

-- two digits each of red, green and blue
abbrev pub by_six_digits : List ℕ → Option Colour
by_six_digits (a ∷ b ∷ c ∷ d ∷ e ∷ f ∷ []) =
    when (list_all (λ digit. is_digit digit 16) (a ∷ b ∷ c ∷ d ∷ e ∷ f ∷ [])) (rgb (pair a b) (pair c d) (pair e f))
by_six_digits _ = None

-- if there are three digits, each counts twice
abbrev pub doubled : List ℕ → List ℕ
doubled digits = if length digits == 3 then flat_map (λ digit. digit ∷ digit ∷ []) digits else digits

-- six digits, or six or three after `#`
abbrev pub by_digits : List ℕ → Option Colour
by_digits [] = None
by_digits (first ∷ others) = by_six_digits (if first == hash then doubled others else first ∷ others)

-- `grey` is another spelling of `gray`
abbrev pub names : List (List ℕ × Colour)
names =
    (codes "black", rgb 0 0 0)
    ∷ (codes "silver", rgb 192 192 192)
    ∷ (codes "gray", rgb 128 128 128)
    ∷ (codes "grey", rgb 128 128 128)
    ∷ (codes "white", rgb 255 255 255)
    ∷ (codes "maroon", rgb 128 0 0)
    ∷ (codes "red", rgb 255 0 0)
    ∷ (codes "purple", rgb 128 0 128)
    ∷ (codes "fuchsia", rgb 255 0 255)
    ∷ (codes "green", rgb 0 128 0)
    ∷ (codes "lime", rgb 0 255 0)
    ∷ (codes "olive", rgb 128 128 0)
    ∷ (codes "yellow", rgb 255 255 0)
    ∷ (codes "navy", rgb 0 0 128)
    ∷ (codes "blue", rgb 0 0 255)
    ∷ (codes "teal", rgb 0 128 128)
    ∷ (codes "aqua", rgb 0 255 255)
    ∷ []

-- the colour that a list has for a name
abbrev pub named_in : List (List ℕ × Colour) → List ℕ → Option Colour
named_in its text = option_map (λ it. it.1) (find (λ it. str_eq_ignore_ascii_case it.0 text) its)

-- the colour that a text writes, or None if it writes none
abbrev pub colour_written : List ℕ → Option Colour
colour_written text = option_or (by_digits text) (named_in names text)
