-- The ranges of colours that CR (Set Color Range) sets, and what PC (Pen Color Assignment) sets in them, or None if
-- numbers are wrong. Numbers are in millionths, and those after the last that an instruction has are ignored.
use Rattle.std.specs.Prelude.{ℕ, ◌^◌, ◌≤◌, ◌≢◌, min, nat_lt, ℤ, pos, ◌*ℤ◌, ◌-ℤ◌, nat_abs, int_lt, Bool, not, ◌&&◌, ◌||◌}
use Rattle.std.specs.Prelude.{List, [], ◌∷◌, length, Option, Some, None, if◌then◌else◌}
use Rattle.std.specs.Ordering.{int_eq}
use Rattle.exact.specs.Fraction.{round, quotient}
use Rattle.plot_settings.specs.Colours.{rgb}
use Rattle.plot_settings.specs.Parameters.{whole_of, when, is_byte, pen_colour_setting}
use Rattle.plot_settings.specs.declared.setting.Setting.{Setting}
use Rattle.plot_settings.specs.declared.setting.Setting.TheVariants.{PenColour}
use Rattle.full_settings.specs.declared.colour_range.ColourRange.{ColourRange}
use Rattle.full_settings.specs.declared.colour_range.ColourRanges.{ColourRanges}

abbrev pub range : ℤ → ℤ → ColourRange
range black white = record { black = black; white = white }

-- at the start: 0 to 255
abbrev pub usual_range : ColourRange
usual_range = range (pos 0) (pos 255)

abbrev pub usual_ranges : ColourRanges
usual_ranges = record { red = usual_range; green = usual_range; blue = usual_range }

abbrev pub is_usual_range : ColourRange → Bool
is_usual_range r = int_eq r.black (pos 0) && int_eq r.white (pos 255)

abbrev pub is_usual : ColourRanges → Bool
is_usual rs = is_usual_range rs.red && (is_usual_range rs.green && is_usual_range rs.blue)

-- black and white differ
abbrev pub has_extent : ColourRange → Bool
has_extent r = not (int_eq r.black r.white)

abbrev pub ranges_by : ColourRange → ColourRange → ColourRange → Option ColourRanges
ranges_by red green blue =
    when (has_extent red && (has_extent green && has_extent blue))
    (record { red = red; green = green; blue = blue })

-- CR: black and white of red, green and blue, each rounded to a whole number; the usual ranges if none is named
abbrev pub colour_ranges_of : List ℤ → Option ColourRanges
colour_ranges_of [] = Some usual_ranges
colour_ranges_of (a ∷ (b ∷ (c ∷ (d ∷ (e ∷ (f ∷ ns)))))) =
    ranges_by (range (whole_of a) (whole_of b)) (range (whole_of c) (whole_of d)) (range (whole_of e) (whole_of f))
colour_ranges_of _ = None

-- what is out of its range is black or white
abbrev pub cut : ℤ → ℕ
cut n = if int_lt n (pos 0) then 0 else min (nat_abs n) 255

-- a red, green or blue as written: 0 if it is black, 255 if it is white
abbrev pub colour_part : ColourRange → ℤ → ℕ
colour_part r v =
    cut (round (quotient (pos 255 *ℤ (v -ℤ pos 1000000 *ℤ r.black)) (pos 1000000 *ℤ (r.white -ℤ r.black))))

abbrev pub colour_by : ColourRanges → ℤ → ℤ → ℤ → ℤ → Option Setting
colour_by rs pen red green blue =
    when (is_byte pen)
    (PenColour (nat_abs pen) (rgb (colour_part rs.red red) (colour_part rs.green green) (colour_part rs.blue blue)))

abbrev pub ranged : ColourRanges → List ℤ → Option Setting
ranged rs (p ∷ (r ∷ (g ∷ (b ∷ ns)))) = colour_by rs (whole_of p) r g b
ranged rs _ = None

-- PC pen, red, green, blue: core's, but for a colour in ranges that are not the usual ones
abbrev pub is_of_core : ColourRanges → List ℤ → Bool
is_of_core rs ns = is_usual rs || nat_lt (length ns) 4

abbrev pub pen_colour_in : ColourRanges → List ℤ → Option Setting
pen_colour_in rs ns = if is_of_core rs ns then pen_colour_setting ns else ranged rs ns

pub record IsColourRange (r : ColourRange) : Type 0 where
  pub black_in : nat_abs r.black ≤ 2 ^ 36
  pub white_in : nat_abs r.white ≤ 2 ^ 36
  pub apart : r.black ≢ r.white

pub record IsColourRanges (rs : ColourRanges) : Type 0 where
  pub red : IsColourRange rs.red
  pub green : IsColourRange rs.green
  pub blue : IsColourRange rs.blue
