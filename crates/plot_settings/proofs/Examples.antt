-- What numbers set and ask for, in millionths, and what is set after some steps.
use Rattle.std.proofs.Common.{◌≡◌, refl, pos, neg_ℤ, true, false, [], ◌∷◌, Some, None}
use Rattle.std.specs.Prelude.{map}
use Rattle.exact.proofs.Tables.{Agree, Table}
use Rattle.plot_settings.specs.declared.setting.Rotation.TheVariants as rotation
use Rattle.plot_settings.specs.declared.setting.Setting.TheVariants.{Start, Defaults, FirstPoint, BothPoints, Rotate, Pen, Width, WidthOfAll, PenColour, Size, Direction}
use Rattle.plot_settings.specs.Parameters.{circled, arced, character_size, label_direction, usual_size, isotropic, moved_points, pen_colour_setting, pen_width_setting, rotated, user_scaling, scaling_points, ranges_of, selected_pen}
use Rattle.plot_settings.specs.Colours.{rgb, default_colour}
use Rattle.plot_settings.specs.Slants.{is_slanted}
use Rattle.plot_settings.specs.Meanings.{sets, wrong, Set, Lower, Touch, Move, lowered_then, moves}
use Rattle.plot_settings.specs.Settings.{pen, rotation_before, size}
use Rattle.plot_settings.specs.Laws.{width, colour}

-- what numbers set
settings : Agree (
    (selected_pen (pos 254500000 ∷ []), Some (Pen 255))  -- pen 254.5 is rounded to pen 255
    ∷ (selected_pen (pos 255500000 ∷ []), None)  -- 255.5 to no pen
    ∷ (pen_width_setting (pos 350000 ∷ []), Some (WidthOfAll 224))  -- a width of 0.35 mm is 224 grains
    ∷ (pen_width_setting (pos 20000000 ∷ (pos 3000000 ∷ [])), Some (Width 3 12800))  -- 20 mm are the greatest
    ∷ (pen_width_setting (pos 20000001 ∷ []), None)  -- large width
    ∷ (pen_colour_setting (pos 1000000 ∷ (pos 10000000 ∷ (pos 20000000 ∷ (pos 30000000 ∷ [])))), Some (PenColour 1 (rgb 10 20 30)))  -- a colour has three numbers
    ∷ (pen_colour_setting (pos 1000000 ∷ (pos 10000000 ∷ [])), None)  -- two numbers
    ∷ (rotated (pos 269500000 ∷ []), Some (Rotate rotation.ThreeQuarters))  -- 269.5 degrees are rounded to 270
    ∷ (rotated (pos 45000000 ∷ []), None)  -- no quarter
    -- P2 is kept apart from P1 in x
    ∷ (scaling_points (pos 1000000 ∷ (pos 2000000 ∷ (pos 1000000 ∷ (pos 5000000 ∷ [])))), Some (BothPoints (record { x = record { first = pos 1; last = pos 2 }; y = record { first = pos 2; last = pos 5 } })))
    -- and in y
    ∷ (scaling_points (pos 1000000 ∷ (pos 5000000 ∷ (pos 9000000 ∷ (pos 5000000 ∷ [])))), Some (BothPoints (record { x = record { first = pos 1; last = pos 9 }; y = record { first = pos 5; last = pos 6 } })))
    -- and in both
    ∷ (scaling_points (pos 4000000 ∷ (pos 4000000 ∷ (pos 4000000 ∷ (pos 4000000 ∷ [])))), Some (BothPoints (record { x = record { first = pos 4; last = pos 5 }; y = record { first = pos 4; last = pos 5 } })))
    ∷ (scaling_points (neg_ℤ (pos 500000) ∷ (neg_ℤ (pos 1500000) ∷ [])), Some (FirstPoint (pos 0) (neg_ℤ (pos 1))))  -- halves are rounded up, below 0 too
    ∷ (isotropic (ranges_of (pos 0) (pos 8000000) (pos 0) (pos 8000000)) (pos 100000001) (pos 0), None)  -- a percent is in range as written
    ∷ (user_scaling (pos 5 ∷ (pos 5 ∷ (pos 0 ∷ (pos 9 ∷ [])))), None)  -- x has no range
    ∷ (character_size (pos 40000000 ∷ (neg_ℤ (pos 40000000) ∷ [])), Some (Size (record { width = pos 256000; height = neg_ℤ (pos 256000) })))  -- a size of 40 cm is 256,000 grains
    ∷ (character_size (pos 1000000 ∷ (pos 0 ∷ [])), None)  -- 0 is none
    ∷ (label_direction (neg_ℤ (pos 1) ∷ (pos 1 ∷ [])), Some (Direction rotation.Half))  -- as near to both axes, so along the run
    ∷ [])
settings = refl

-- white, black, red, green, yellow, blue, magenta, cyan, and then black
colours_of_pens : map default_colour (0 ∷ 1 ∷ 2 ∷ 3 ∷ 4 ∷ 5 ∷ 6 ∷ 7 ∷ 8 ∷ 255 ∷ []) ≡ rgb 255 255 255 ∷ rgb 0 0 0 ∷ rgb 255 0 0 ∷ rgb 0 255 0 ∷ rgb 255 255 0 ∷ rgb 0 0 255 ∷ rgb 255 0 255 ∷ rgb 0 255 255 ∷ rgb 0 0 0 ∷ rgb 0 0 0 ∷ []
colours_of_pens = refl

-- and keeps its distance
points_moved : moved_points (record { x = record { first = pos 1; last = pos 11 }; y = record { first = pos 2; last = pos 7 } }) (pos 100) (neg_ℤ (pos 3)) ≡ record { x = record { first = pos 100; last = pos 110 }; y = record { first = neg_ℤ (pos 3); last = pos 2 } }
points_moved = refl

-- a direction as near to both axes is noted
slanted : is_slanted (neg_ℤ (pos 1) ∷ (pos 1 ∷ [])) ≡ true
slanted = refl

upright : is_slanted (pos 0 ∷ (pos 1 ∷ [])) ≡ false
upright = refl

-- chords
chords : Table circled (
    (pos 1000000 ∷ (pos 499500 ∷ []), Some (record { radius = pos 1000000; chord = 500 }))  -- 0.4995 degrees are rounded to 0.5
    ∷ (pos 1000000 ∷ (pos 499499 ∷ []), None)  -- 0.4994 degrees are not
    ∷ (pos 1000000 ∷ [], Some (record { radius = pos 1000000; chord = 5000 }))  -- 5 degrees where none are named
    ∷ [])
chords = refl

-- -360.0005 degrees are rounded up to -360
greatest_sweep : arced (pos 1 ∷ (pos 2 ∷ (neg_ℤ (pos 360000500) ∷ [])))
    ≡ Some (record { x = pos 1; y = pos 2; sweep = neg_ℤ (pos 360000); chord = 5000 })
greatest_sweep = refl

large_sweep : arced (pos 1 ∷ (pos 2 ∷ (pos 360000500 ∷ []))) ≡ None
large_sweep = refl

-- an unpaired coordinate makes no move, and a pen that is lowered without a move makes a dot
one_move : lowered_then (moves (pos 1 ∷ (pos 2 ∷ (pos 3 ∷ [])))) ≡ Lower true ∷ (Move (pos 1) (pos 2) ∷ [])
one_move = refl

a_dot : lowered_then (moves (pos 1 ∷ [])) ≡ Touch ∷ (Lower true ∷ [])
a_dot = refl

-- wrong numbers set nothing
nothing_set : sets (selected_pen (neg_ℤ (pos 1000000) ∷ [])) ≡ wrong
nothing_set = refl

-- what is set after some steps, of which the newest comes first
numbers_after : Agree (
    (pen (Set Defaults ∷ (Set (Pen 3) ∷ [])), 3)  -- DF leaves the pen
    ∷ (pen (Set Start ∷ (Set (Pen 3) ∷ [])), 1)  -- IN does not
    ∷ (width 2 (Set (Width 2 64) ∷ (Set (WidthOfAll 32) ∷ [])), 64)  -- a width of all pens, and then of one
    ∷ (width 3 (Set (Width 2 64) ∷ (Set (WidthOfAll 32) ∷ [])), 32)  -- the width of all others
    ∷ [])
numbers_after = refl

-- DF leaves the rotation
rotated_after_defaults : rotation_before (Set Defaults ∷ (Set (Rotate rotation.Half) ∷ [])) ≡ rotation.Half
rotated_after_defaults = refl

colour_kept : colour 2 (Set (PenColour 3 (rgb 1 2 3)) ∷ []) ≡ rgb 255 0 0
colour_kept = refl

size_after_defaults : size (Set Defaults ∷ (Set (Size (record { width = pos 1; height = pos 2 })) ∷ [])) ≡ usual_size
size_after_defaults = refl
