-- Dots of images at pixels, and what cells have with them.
use Rattle.std.proofs.Common.{◌≡◌, refl, ℕ, ℤ, pos, negsuc, true, false, [], ◌∷◌, Some, None}
use Rattle.exact.proofs.Tables.{Table}
use Rattle.directions.specs.declared.turn.Turn.{Turn}
use Rattle.directions.specs.declared.turn.Turn.TheVariants as turn
use Rattle.plot_page.specs.declared.colour.Colour.{Colour}
use Rattle.stroke_raster.specs.declared.vector.Vector.{Vector}
use Rattle.image_raster.specs.Dots.{across, along, is_number, number_at}
use Rattle.image_raster.specs.Cells.{covered, mark_of}

-- at 127 dots to the inch, of an image and of the page, a dot is a pixel wide: 16,256 steps
at_same : ℤ → ℤ
at_same z = number_at 127 127 z

same_dots : Table at_same (
    (pos 0, pos 0)
    ∷ (pos 16255, pos 0)  -- the last step of the first dot
    ∷ (pos 16256, pos 1)
    ∷ (negsuc 0, negsuc 0)  -- before it
    ∷ (negsuc 16255, negsuc 0)
    ∷ (negsuc 16256, negsuc 1)
    ∷ [])
unfolding at_same
same_dots = refl

-- at 300 dots to the inch of an image, and 100 of the page, three dots are a pixel
at_third : ℤ → ℤ
at_third z = number_at 300 100 z

three_dots : Table at_third (
    (pos 5418, pos 0)
    ∷ (pos 5419, pos 1)
    ∷ (pos 10838, pos 2)
    ∷ (pos 16256, pos 3)
    ∷ [])
unfolding at_third
three_dots = refl

-- which way rows and dots go
way : Vector
way = record { x = pos 3; y = pos 5 }

ways : Turn → ℤ × ℤ
ways t = (across t way, along t way)

turned : Table ways (
    (turn.None, (pos 3, pos 5))
    ∷ (turn.Quarter, (pos 5, negsuc 2))
    ∷ (turn.Half, (negsuc 2, negsuc 4))
    ∷ (turn.ThreeQuarters, (negsuc 4, pos 3))
    ∷ [])
unfolding ways way
turned = refl

numbers : Table is_number ((negsuc 0, false) ∷ (pos 0, true) ∷ (pos 4294967295, true) ∷ (pos 4294967296, false) ∷ [])
numbers = refl

red : Colour
red = record { red = 255; green = 0; blue = 1 }

-- the mark of a colour is above all strokes
red_mark : mark_of red ≡ 2164195329
unfolding red
red_mark = refl

-- an image after the fourth stroke lies over it and what came before, and over other images
after_four : ℕ → ℕ
after_four cell = covered 4 (Some red) cell

over : Table after_four ((0, 2164195329) ∷ (4, 2164195329) ∷ (5, 5) ∷ (2147483648, 2164195329) ∷ [])
unfolding after_four red
over = refl

-- where it shows nothing the cell stays
nothing : covered 4 None 3 ≡ 3
nothing = refl
