-- Lists of pens as text: `all`, or ranges separated by single commas. A range is n-m, or just n.
use Rattle.std.specs.Prelude.{ℕ, ◌+◌, ◌-◌, ◌*◌, ◌^◌, Bool, false, ◌&&◌, ◌||◌, ◌==◌, nat_le, if◌then◌else◌, List, []}
use Rattle.std.specs.Prelude.{◌∷◌, length, codes}
use Rattle.std.specs.Char.{is_ascii_digit}
use Rattle.std.specs.List.{list_all, list_any, slice_split}
use Rattle.std.specs.Str.{bytes_eq}
use Rattle.pen_list.specs.declared.number.TheConstants.{MOST_DIGITS, GREATEST_PEN}

abbrev pub comma : ℕ
comma = 44

abbrev pub hyphen : ℕ
hyphen = 45

abbrev pub digit_zero : ℕ
digit_zero = 48

abbrev pub is_between : ℕ → ℕ → ℕ → Bool
is_between least n greatest = nat_le least n && nat_le n greatest

-- the number that digits write: each digit times its power of ten
abbrev pub number : List ℕ → ℕ
number [] = 0
number (digit ∷ digits) = (digit - digit_zero) * 10 ^ length digits + number digits

-- a pen is written with one to three digits, and is 1 to 255
abbrev pub is_pen : List ℕ → Bool
is_pen text =
    list_all is_ascii_digit text && (is_between 1 (length text) MOST_DIGITS && is_between 1 (number text) GREATEST_PEN)

-- what hyphens separate in a range: n and m, or just n
abbrev pub bounds : List ℕ → List (List ℕ)
bounds range = slice_split (λ byte. byte == hyphen) range

-- a pen, or two pens of which the second is not less than the first
abbrev pub are_bounds : List (List ℕ) → Bool
are_bounds (n ∷ []) = is_pen n
are_bounds (n ∷ m ∷ []) = is_pen n && (is_pen m && nat_le (number n) (number m))
are_bounds _ = false

abbrev pub lies_within : List (List ℕ) → ℕ → Bool
lies_within (n ∷ []) pen = number n == pen
lies_within (n ∷ m ∷ []) pen = is_between (number n) pen (number m)
lies_within _ pen = false

abbrev pub is_range : List ℕ → Bool
is_range range = are_bounds (bounds range)

-- the pen is in the range
abbrev pub range_has : List ℕ → ℕ → Bool
range_has range pen = lies_within (bounds range) pen

-- what commas separate in a text
abbrev pub ranges : List ℕ → List (List ℕ)
ranges text = slice_split (λ byte. byte == comma) text

abbrev pub are_ranges : List ℕ → Bool
are_ranges text = list_all is_range (ranges text)

abbrev pub ranges_have : List ℕ → ℕ → Bool
ranges_have text pen = list_any (λ range. range_has range pen) (ranges text)

abbrev pub is_all : List ℕ → Bool
is_all text = bytes_eq text (codes "all")

-- the text is a list of pens
abbrev pub is_pen_list : List ℕ → Bool
is_pen_list text = is_all text || are_ranges text

-- the pen is among those that the text lists
abbrev pub is_listed : List ℕ → ℕ → Bool
is_listed text pen = if is_all text then is_between 1 pen GREATEST_PEN else ranges_have text pen
