-- The size of the page that a plot asks for (HP-GL/2: PS, Plot Size).
use Rattle.std.specs.Prelude.{ℕ, ◌+◌, ◌/◌, ℤ, pos, int_le, nat_abs, List, [], ◌∷◌, drop, Option, None, codes}
use Rattle.std.specs.Prelude.{if◌then◌else◌}
use Rattle.std.specs.Option.{option_or}
use Rattle.std.specs.Str.{bytes_eq}
use Rattle.full_text.specs.Cut.{cut_by}
use Rattle.hpgl_text.specs.Numbers.{ends_numbers, numbers, past_numbers}
use Rattle.hpgl_text.specs.Shapes.{ItemShape}
use Rattle.hpgl_text.specs.declared.profile.Profile.{Profile}
use Rattle.hpgl_text.specs.declared.profile.Profile.TheVariants.{Core, Full}
use Rattle.page_fit.specs.Around.{Sides, checked}
use Rattle.plot_page.specs.declared.page.Page.{Page}
use Rattle.plot_page.specs.declared.page.TheConstants.{LONGEST_ROLL, LONGEST_SIDE}

-- a number in plotter units, from millionths: to the nearest, halves upward; 0 if it is below 0
abbrev pub units : ℤ → ℕ
units number = if int_le (pos 0) number then (nat_abs number + 500000) / 1000000 else 0

-- the numbers of a page that has another size
abbrev pub resized : Page → ℕ → ℕ → Sides
resized page width height = record { width = width; height = height; left = page.left; below = page.below }

-- the page that numbers ask for: its width, which PS calls the length, and its height, or that of the given page if
-- there is one number; further ones change nothing. None if there is no number, or a side is longer than the longest one
abbrev pub sides_by : ℕ → Page → List ℤ → Option Sides
sides_by longest page [] = None
sides_by longest page (length ∷ []) = checked longest (resized page (units length) page.height)
sides_by longest page (length ∷ width ∷ _) = checked longest (resized page (units length) (units width))

-- the page that a PS asks for before this text; None if a byte that belongs to no number comes before its end
abbrev pub sides_in : ℕ → Page → List ℕ → Option Sides
sides_in longest page text = if ends_numbers (past_numbers text) then sides_by longest page (numbers text) else None

-- the page that an item asks for; only a PS does
abbrev pub sides_of_item : ℕ → Page → List ℕ → ItemShape → Option Sides
sides_of_item longest page plot item =
    if bytes_eq item.code (codes "PS") then sides_in longest page (drop 2 (drop item.at plot)) else None

-- what the first of the items that ask for a page asks for
abbrev pub first_asked : ℕ → Page → List ℕ → List ItemShape → Option Sides
first_asked longest page plot [] = None
first_asked longest page plot (item ∷ items) = option_or (sides_of_item longest page plot item) (first_asked longest page plot items)

-- the longest side of a page in a profile
abbrev pub longest_side : Profile → ℕ
longest_side Core = LONGEST_SIDE
longest_side Full = LONGEST_ROLL

-- the page of the size that a plot asks for; None if it asks for none
abbrev pub sides_asked : Profile → Page → List ℕ → Option Sides
sides_asked profile page plot = first_asked (longest_side profile) page plot (cut_by profile plot)
