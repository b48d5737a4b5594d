-- Widths as text: millimetres, written as the numbers of plots are, but without a sign.
use Rattle.std.specs.Prelude.{ℕ, Bool, ◌&&◌, ◌==◌, List, length, Option}
use Rattle.hpgl_text.specs.Numbers.{begins_with_number, number_length, number_value, sign_length}
use Rattle.plot_settings.specs.Parameters.{is_width, when, width_grains}

-- the text is one number: digits, and perhaps a point and digits, at least one digit in all
abbrev pub is_number : List ℕ → Bool
is_number text = begins_with_number text && (number_length text == length text && sign_length text == 0)

-- 0 to 20 mm, in grains, tested and rounded as PW does; digits after the sixth decimal do not count
abbrev pub width_written : List ℕ → Option ℕ
width_written text = when (is_number text && is_width (number_value text)) (width_grains (number_value text))
