-- Commands of HP RTL and PCL 5 within a plot: a value and a letter, which data may follow.
use Rattle.std.specs.Prelude.{ℕ, ◌+◌, ◌-◌, ◌*◌, ◌/◌, ◌^◌, min, Bool, false, ◌&&◌, ◌||◌, ◌==◌, nat_le, List, length, take, drop, slice_index, Option, Some, None, if◌then◌else◌}
use Rattle.hpgl_text.specs.Bytes.{byte, begins_with}
use Rattle.hpgl_text.specs.Numbers.{digits_sum, decimals_sum, integer_part, fraction, decimals, point_length}
use Rattle.escapes.specs.declared.command.Sign.{Sign}
use Rattle.escapes.specs.declared.command.Sign.TheVariants.{Unsigned, Plus, Minus}
use Rattle.escapes.specs.declared.command.TheConstants.{GREATEST_INTEGER}

-- the byte that begins its group and the small letter after it, if they are there; its value in millionths, and the sign of it;
-- its letter, as a capital; and its data
pub record Said : Type 0 where
  pub group : Option ℕ
  pub parameter : Option ℕ
  pub sign : Sign
  pub millionths : ℕ
  pub letter : ℕ
  pub input : List ℕ

-- the letter of a command that another one of its group follows
abbrev pub is_small : ℕ → Bool
is_small b = nat_le 96 b && nat_le b 126

-- that of the last one
abbrev pub is_large : ℕ → Bool
is_large b = nat_le 64 b && nat_le b 94

abbrev pub capital : ℕ → ℕ
capital b = if is_small b then b - 32 else b

-- the sign that a text begins with
abbrev pub sign_of : List ℕ → Sign
sign_of text = if begins_with "+" text then Plus else if begins_with "-" text then Minus else Unsigned

-- an integer part, which is at most the greatest
abbrev pub capped : List ℕ → ℕ
capped written = min (digits_sum written) GREATEST_INTEGER

-- the value that a text begins with, without its sign: an integer part, and six decimals; 0 without digits
abbrev pub millionths_of : List ℕ → ℕ
millionths_of text = capped (integer_part text) * 10 ^ 6 + decimals_sum 6 (decimals text)

-- what follows it
abbrev pub after_value : List ℕ → List ℕ
after_value text = drop (length (decimals text)) (drop (point_length (fraction text)) (fraction text))

-- each value is below this, in millionths
abbrev pub value_limit : ℕ
value_limit = (GREATEST_INTEGER + 1) * 10 ^ 6

-- it is this byte
abbrev pub is_byte : Option ℕ → ℕ → Bool
is_byte None b = false
is_byte (Some a) b = a == b

-- data follow a W of any group, a V of *b and an X of &p
abbrev pub takes_data : Option ℕ → Option ℕ → ℕ → Bool
takes_data group parameter letter =
    (letter == byte "W")
    || (is_byte group (byte "*") && is_byte parameter (byte "b") && (letter == byte "V"))
    || (is_byte group (byte "&") && is_byte parameter (byte "p") && (letter == byte "X"))

-- how many bytes of data a value asks for: it is rounded
abbrev pub count_of : Sign → ℕ → ℕ
count_of Minus millionths = 0
count_of Unsigned millionths = (millionths + 500000) / 10 ^ 6
count_of Plus millionths = (millionths + 500000) / 10 ^ 6

-- how many bytes of data follow a command, if they are all there
abbrev pub data_count : Option ℕ → Option ℕ → Sign → ℕ → ℕ → ℕ
data_count group parameter sign millionths letter = if takes_data group parameter letter then count_of sign millionths else 0

-- a command by its value and the text from its letter on, and the text after its data
abbrev pub finished : Option ℕ → Option ℕ → Sign → ℕ → List ℕ → Said × List ℕ
finished group parameter sign millionths text =
    let letter = capital (slice_index text 0) in
    let count = data_count group parameter sign millionths letter in (
      record {
        group = group;
        parameter = parameter;
        sign = sign;
        millionths = millionths;
        letter = letter;
        input = take count (drop 1 text);
      },
      drop count (drop 1 text),
    )
