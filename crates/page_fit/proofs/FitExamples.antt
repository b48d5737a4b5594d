-- Worked examples: how far strokes are seen, the page around them, how they are moved, and which lie off a page.
use Rattle.std.proofs.Common.{◌≡◌, ◌∷◌, [], ℕ, ℤ, pos, negsuc, Some, None, true, false, refl, lit≤, List, map}
use Rattle.plot_page.specs.Segments.{Segment}
use Rattle.plot_page.specs.declared.page.Page.{Page}
use Rattle.plot_page.specs.declared.window.Window.{Window}
use Rattle.page_fit.specs.Around.{corner_around, side_at, sides_around, units_for}
use Rattle.page_fit.specs.Census.{is_beside}
use Rattle.page_fit.specs.Extents.{half_width, is_empty, joined_with, reach, seen}
use Rattle.page_fit.specs.Moves.{empty_window, is_movable, moved_stroke, moved_window, page_window}
use Rattle.page_fit.specs.declared.around.Corner.{Corner}

-- a table of examples: each value agrees with the one beside it
abbrev pub Agree : {X : Type 0} → List (X × X) → Type 0
Agree rows = map (λ it. it.0) rows ≡ map (λ it. it.1) rows

abbrev pub square : Page
square = record { width = 64; height = 64; left = 0; below = 0; width_in = (lit≤ tt, lit≤ tt); height_in = (lit≤ tt, lit≤ tt); left_in = lit≤ tt; below_in = lit≤ tt }

abbrev pub window : ℤ → ℤ → ℤ → ℤ → Window
window x0 y0 x1 y1 = record { x0 = x0; y0 = y0; x1 = x1; y1 = y1 }

-- a black stroke of pen 1, of a width, between two places, in a window
abbrev pub stroke_in : Window → ℕ → ℤ → ℤ → ℤ → ℤ → Segment
stroke_in w width ax ay bx by = record { pen = 1; colour = record { red = 0; green = 0; blue = 0 }; width = width; window = w; ax = ax; ay = ay; bx = bx; by = by }

-- the same on the whole page
abbrev pub stroke : ℕ → ℤ → ℤ → ℤ → ℤ → Segment
stroke width ax ay bx by = stroke_in (page_window square) width ax ay bx by

abbrev corner : ℤ → ℤ → Corner
corner x y = record { x = x; y = y }

-- how far strokes are seen
extents : Agree (
    -- PW1;PU0,0;PD100,200; half the width is 20 units
    (seen square (stroke 640 (pos 0) (pos 0) (pos 1600) (pos 3200)), record { least_x = negsuc 319; least_y = negsuc 319; greatest_x = pos 1920; greatest_y = pos 3520 })
    -- a window cuts what is seen, but the page does not
    ∷ (seen square (stroke_in (window (pos 0) (pos 0) (pos 512) (pos 1024)) 0 (pos 16) (pos 16) (pos 2000) (pos 16)), record { least_x = pos 16; least_y = pos 16; greatest_x = pos 512; greatest_y = pos 16 })
    -- two strokes together
    ∷ (joined_with (Some (reach (stroke 0 (pos 0) (pos 5) (pos 9) (pos 5)))) (reach (stroke 0 (pos 4) (pos 1) (pos 20) (pos 2))), record { least_x = pos 0; least_y = pos 1; greatest_x = pos 20; greatest_y = pos 5 })
    ∷ [])
extents = refl

-- pages around drawings
pages : Agree (
    -- with a margin of 1 mm, 40 units, the page of the slanted stroke is 220 by 320 units
    (sides_around 65536 1 (seen square (stroke 640 (pos 0) (pos 0) (pos 1600) (pos 3200))), Some (record { width = 220; height = 320; left = 0; below = 0 }))
    -- a drawing far from (0,0) has a page as large as it is, and no more
    ∷ (sides_around 65536 0 (reach (stroke 0 (pos 32000) (pos 16000) (pos 33600) (pos 17600))), Some (record { width = 100; height = 100; left = 0; below = 0 }))
    -- a dot without a margin still has a page of 64 by 64 units
    ∷ (sides_around 65536 0 (reach (stroke 0 (pos 16) (pos 16) (pos 16) (pos 16))), Some (record { width = 64; height = 64; left = 0; below = 0 }))
    ∷ (sides_around 65536 1 (reach (stroke 0 (pos 0) (pos 0) (pos 1048000) (pos 0))), None)  -- 65,580 units are too wide
    ∷ (sides_around 524288 1 (reach (stroke 0 (pos 0) (pos 0) (pos 1048000) (pos 0))), Some (record { width = 65580; height = 80; left = 0; below = 0 }))  -- but not on a roll
    ∷ [])
pages = refl

corner_of_slanted : corner_around 1 (seen square (stroke 640 (pos 0) (pos 0) (pos 1600) (pos 3200))) ≡ corner (negsuc 59) (negsuc 59)
corner_of_slanted = refl

corner_of_far : corner_around 0 (reach (stroke 0 (pos 32000) (pos 16000) (pos 33600) (pos 17600))) ≡ corner (pos 2000) (pos 1000)
corner_of_far = refl

-- what is not seen, what can be moved, and what lies off a page
answers : Agree (
    (is_empty (seen square (stroke_in (window (pos 0) (pos 512) (pos 512) (pos 1024)) 0 (pos 16) (pos 16) (pos 2000) (pos 16))), true)  -- a window that the stroke does not reach
    ∷ (is_empty (seen square (stroke_in empty_window 0 (pos 0) (pos 0) (pos 2) (pos 2))), true)  -- an empty window
    ∷ (is_movable (corner (negsuc 0) (pos 0)) (stroke 0 (pos 134217696) (pos 0) (pos 0) (pos 0)), true)  -- an end may be moved as far as a place may be
    ∷ (is_movable (corner (negsuc 0) (pos 0)) (stroke 0 (pos 134217697) (pos 0) (pos 0) (pos 0)), false)  -- but no farther
    ∷ (is_beside square (reach (stroke 224 (negsuc 111) (pos 0) (negsuc 111) (pos 160))), false)  -- 7 units left of the page half of a line of 14 units reaches it
    ∷ (is_beside square (reach (stroke 224 (negsuc 127) (pos 0) (negsuc 127) (pos 160))), true)  -- 8 units left of it it does not
    ∷ [])
answers = refl

-- numbers in units
whole_units : Agree (
    (half_width (stroke 1 (pos 0) (pos 0) (pos 0) (pos 0)), 1)  -- half of an odd width counts as more
    ∷ (units_for (pos 8), 1)  -- half units count as whole ones
    ∷ (units_for (negsuc 8), 0)  -- what is below 0 counts as none
    ∷ [])
whole_units = refl

-- a side lies at a whole unit, not farther up than the drawing
half_unit_down : side_at 0 (pos 24) ≡ pos 1
half_unit_down = refl

half_unit_below : side_at 0 (negsuc 23) ≡ negsuc 1
half_unit_below = refl

-- a stroke on the whole page is moved, and its window is the whole new page
moved_down : moved_stroke square (corner (pos 10) (negsuc 4)) square (stroke 3 (pos 160) (pos 0) (pos 200) (pos 8)) ≡ stroke 3 (pos 0) (pos 80) (pos 40) (pos 88)
moved_down = refl

-- another window is moved and cut to the page, or empty if nothing of it is on it
cut_window : moved_window square (corner (pos 10) (pos 0)) square (window (pos 100) (pos 16) (pos 800) (pos 1000)) ≡ window (pos 0) (pos 16) (pos 640) (pos 1000)
cut_window = refl

window_beside : moved_window square (corner (negsuc 99) (pos 0)) square (window (pos 0) (pos 16) (pos 800) (pos 1000)) ≡ empty_window
window_beside = refl
