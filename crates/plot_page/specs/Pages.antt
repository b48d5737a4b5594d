-- The sizes of pages, in plotter units, and resolutions, in dots per inch.
use Rattle.std.specs.Prelude.{ℕ, Bool, nat_le, ◌&&◌}
use Rattle.plot_page.specs.declared.page.TheConstants.{SHORTEST_SIDE, LONGEST_SIDE, FARTHEST_CORNER, LONGEST_ROLL}

abbrev pub is_page_side : ℕ → Bool
is_page_side units = nat_le SHORTEST_SIDE units && nat_le units LONGEST_SIDE

abbrev pub has_page_size : ℕ → ℕ → Bool
has_page_size width height = is_page_side width && is_page_side height

abbrev pub has_page_corner : ℕ → ℕ → Bool
has_page_corner left below = nat_le left FARTHEST_CORNER && nat_le below FARTHEST_CORNER

-- a side of any page, and a page of any size
abbrev pub is_roll_side : ℕ → Bool
is_roll_side units = nat_le SHORTEST_SIDE units && nat_le units LONGEST_ROLL

abbrev pub is_roll : ℕ → ℕ → ℕ → ℕ → Bool
is_roll width height left below =
    (is_roll_side width && is_roll_side height) && has_page_corner left below

-- 10 to 1200 dots per inch
abbrev pub is_resolution : ℕ → Bool
is_resolution r = nat_le 10 r && nat_le r 1200
