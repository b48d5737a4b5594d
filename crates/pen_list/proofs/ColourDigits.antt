-- The colours that six hexadecimal digits write.
use Rattle.std.proofs.Common.{◌≡◌, ◌<◌, ◌≤◌, ◌&&◌, ℕ, Bool, true, false, Option, Some, None, List, [], ◌∷◌, length, get_or, refl, arith}
use Rattle.std.specs.Char.{is_digit}
use Rattle.plot_page.specs.declared.colour.Colour.{Colour}
use Rattle.plot_settings.specs.Colours.{rgb}
use Rattle.plot_settings.specs.Parameters.{when}
use Rattle.pen_list.specs.Colours.{by_six_digits, pair}

-- the number of two digits, if they are two
abbrev pub pair_of : ℕ → ℕ → Option ℕ
pair_of first second = when (is_digit first 16 && is_digit second 16) (pair first second)

abbrev pub together : Option ℕ → Option ℕ → Option ℕ → Option Colour
together (Some red) (Some green) (Some blue) = Some (rgb red green blue)
together (Some red) (Some green) None = None
together (Some red) None blue = None
together None green blue = None

all_or_none : (a b c d e f : Bool) (red green blue : ℕ) → when (a && (b && (c && (d && (e && (f && true)))))) (rgb red green blue)
    ≡ together (when (a && b) red) (when (c && d) green) (when (e && f) blue)
all_or_none false b c d e f red green blue = refl
all_or_none true false c d e f red green blue = refl
all_or_none true true false d e f red green blue = refl
all_or_none true true true false e f red green blue = refl
all_or_none true true true true false f red green blue = refl
all_or_none true true true true true false red green blue = refl
all_or_none true true true true true true red green blue = refl

pub by_pairs : (digits : List ℕ) → 6 ≤ length digits → length digits < 7 → by_six_digits digits
    ≡ together (pair_of (get_or digits 0 0) (get_or digits 1 0)) (pair_of (get_or digits 2 0) (get_or digits 3 0))
    (pair_of (get_or digits 4 0) (get_or digits 5 0))
by_pairs (a ∷ b ∷ c ∷ d ∷ e ∷ f ∷ []) least most =
    all_or_none (is_digit a 16) (is_digit b 16) (is_digit c 16) (is_digit d 16) (is_digit e 16) (is_digit f 16) (pair a b) (pair c d) (pair e f)
by_pairs (a ∷ b ∷ c ∷ d ∷ e ∷ f ∷ g ∷ others) least most = absurd (omega arith)
by_pairs (a ∷ b ∷ c ∷ d ∷ e ∷ []) least most = absurd (omega arith)
by_pairs (a ∷ b ∷ c ∷ d ∷ []) least most = absurd (omega arith)
by_pairs (a ∷ b ∷ c ∷ []) least most = absurd (omega arith)
by_pairs (a ∷ b ∷ []) least most = absurd (omega arith)
by_pairs (a ∷ []) least most = absurd (omega arith)
by_pairs [] least most = absurd (omega arith)
