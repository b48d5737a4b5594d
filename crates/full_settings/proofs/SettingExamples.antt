-- What the numbers of CP, TL, IR, CR, PC, PM, FP, FT, AC, EW and CT ask for, in millionths, the P1 and P2 that IR sets on a page of
-- 1000 by 2000, and colours in ranges.
use Rattle.std.proofs.Common.{◌≡◌, [], ◌∷◌, refl, pos, negsuc, Some, None, true, false}
use Rattle.exact.proofs.Tables.{Agree, Table}
use Rattle.plot_settings.specs.Colours.{rgb}
use Rattle.plot_settings.specs.declared.setting.Setting.TheVariants.{FirstPoint, BothPoints, PenColour, DefaultColours}
use Rattle.full_settings.specs.LetterParameters.{pair_of}
use Rattle.full_settings.specs.CharacterMoves.{character_move}
use Rattle.full_settings.specs.TickParameters.{tick_length, ticks}
use Rattle.full_settings.specs.RelativePoints.{relative_points, setting_of}
use Rattle.full_settings.specs.ColourRanges.{range, usual_ranges, colour_ranges_of, colour_part, pen_colour_in}
use Rattle.full_settings.specs.declared.character_moves.CharacterMove.TheVariants.{ToMargin, By}
use Rattle.full_settings.specs.declared.colour_range.ColourRanges.{ColourRanges}
use Rattle.full_settings.specs.declared.page_points.RelativePoints.TheVariants.{Page, First, Both}
use Rattle.full_settings.specs.CurveParameters.{point_at}
use Rattle.full_settings.specs.FillParameters.{fill_type, fill_with, usual_fill}
use Rattle.full_settings.specs.PolygonParameters.{anchor, by_winding, polygon_step, wedge, without_polygon_chord}
use Rattle.full_settings.specs.declared.fill_setting.FillKind.TheVariants as kind
use Rattle.full_settings.specs.declared.fill_setting.FillSetting.TheVariants.{Hatched, Pattern, Shaded, Solid}
use Rattle.full_settings.specs.declared.polygon_setting.Anchor.TheVariants.{At, PageOrigin}
use Rattle.full_settings.specs.declared.polygon_setting.PolygonStep.TheVariants.{Begin, End}
use Rattle.hpgl_text.specs.declared.further.Further.TheVariants.{EdgeWedge, FillType}

-- CP
moves : Table character_move (
    ([], Some ToMargin)  -- to the margin
    ∷ (pos 2000000 ∷ negsuc 999999 ∷ [], Some (By (pair_of (pos 2000000) (negsuc 999999))))  -- two columns
    ∷ (pos 2000000 ∷ [], None)  -- no lines
    ∷ [])
moves = refl

-- TL
tick_lengths : Table tick_length (
    ([], Some (ticks (pos 500000) (pos 500000)))  -- no ticks
    ∷ (pos 10000000 ∷ [], Some (ticks (pos 10000000) (pos 0)))  -- tick up only
    ∷ (pos 0 ∷ pos 1000000001 ∷ [], None)  -- tick too long
    ∷ [])
tick_lengths = refl

-- IR
points : Table relative_points (
    ([], Some Page)  -- no points
    ∷ (pos 0 ∷ pos 0 ∷ pos 1 ∷ [], None)  -- three numbers
    ∷ (pos 25000000 ∷ pos 75000000 ∷ [], Some (First (pair_of (pos 25000000) (pos 75000000))))  -- first only
    ∷ (pos 0 ∷ pos 0 ∷ pos 1 ∷ negsuc 1000000000 ∷ [], None)  -- too far
    ∷ [])
points = refl

-- a quarter of the width, and three quarters of the height, with the page's corner at (-100, -50)
first_on_page : setting_of (First (pair_of (pos 25000000) (pos 75000000))) 1000 2000 100 50 ≡ FirstPoint (pos 150) (pos 1450)
first_on_page = refl

-- P2 is kept apart from P1
both_on_page : setting_of (Both (pair_of (pos 25000000) (pos 0)) (pair_of (pos 25000000) (pos 25000))) 1000 2000 100 50
    ≡ BothPoints (record { x = record { first = pos 150; last = pos 151 }; y = record { first = negsuc 49; last = negsuc 48 } })
both_on_page = refl

-- CR
ranges : Table colour_ranges_of (
    ([], Some usual_ranges)  -- no ranges
    -- rounded ranges
    ∷ (pos 0 ∷ pos 1000000 ∷ pos 2500000 ∷ negsuc 2999999 ∷ pos 100000000 ∷ pos 200000000 ∷ [], Some (record { red = range (pos 0) (pos 1); green = range (pos 3) (negsuc 2); blue = range (pos 100) (pos 200) }))
    ∷ (pos 0 ∷ pos 1000000 ∷ pos 1000000 ∷ pos 1400000 ∷ pos 0 ∷ pos 1000000 ∷ [], None)  -- black and white are the same once they are rounded
    ∷ [])
ranges = refl

-- parts of a colour, cut to 0 and 255
parts : Agree (
    (colour_part (range (pos 0) (pos 100)) (pos 50000000), 128)  -- a half of 255 is rounded up
    ∷ (colour_part (range (pos 0) (pos 100)) (negsuc 0), 0)  -- below black
    ∷ (colour_part (range (pos 0) (pos 100)) (pos 101000000), 255)  -- above white
    ∷ (colour_part (range (pos 100) (pos 0)) (pos 75000000), 64)  -- white below black
    ∷ [])
parts = refl

abbrev fractions : ColourRanges
fractions = record { red = range (pos 0) (pos 1); green = range (pos 0) (pos 1); blue = range (pos 0) (pos 1) }

-- PC
colours : Agree (
    (pen_colour_in fractions (pos 1000000 ∷ pos 500000 ∷ pos 2000000 ∷ negsuc 999999 ∷ []), Some (PenColour 1 (rgb 128 255 0)))  -- colour of fractions
    ∷ (pen_colour_in fractions (pos 256000000 ∷ pos 0 ∷ pos 0 ∷ pos 0 ∷ []), None)  -- no pen 256
    ∷ (pen_colour_in fractions [], Some DefaultColours)  -- colours of core
    ∷ (pen_colour_in usual_ranges (pos 1000000 ∷ pos 0 ∷ pos 0 ∷ pos 256000000 ∷ []), None)  -- usual colour above 255
    ∷ [])
colours = refl

-- PM, whose number is rounded
modes : Table polygon_step (
    ([], Some Begin)  -- mode begins
    ∷ (pos 1500000 ∷ [], Some End)  -- mode ends
    ∷ (pos 3000000 ∷ [], None)  -- no mode 3
    ∷ [])
modes = refl

-- FP, whose number is rounded
rule_1 : by_winding (pos 1000000 ∷ []) ≡ Some true
rule_1 = refl

-- FT
fills : Table fill_type (
    ([], Some Solid)  -- solid fill
    ∷ (pos 3000000 ∷ pos 10000000 ∷ negsuc 89999999 ∷ [], Some (Hatched false (Some 10000000) (Some 270000)))  -- hatched fill
    ∷ (pos 4000000 ∷ negsuc 0 ∷ [], None)  -- no spacing below 0
    ∷ (pos 10000000 ∷ pos 100000000 ∷ [], Some (Shaded (Some 100000000)))  -- shaded fill
    ∷ (pos 22000000 ∷ pos 1000000 ∷ [], Some Pattern)  -- pattern fill
    ∷ [])
fills = refl

-- a number that is not there stays as it was
spacing_stays : fill_with (Hatched true None (Some 45000)) (record usual_fill { spacing = 7 })
    ≡ record { kind = kind.CrossHatched; spacing = 7; angle = 45000; level = 50000000 }
spacing_stays = refl

-- AC
page_origin : anchor [] ≡ Some PageOrigin
page_origin = refl

anchor_at : anchor (pos 5 ∷ pos 6 ∷ []) ≡ Some (At (point_at (pos 5) (pos 6)))
anchor_at = refl

-- EW: the start is without whole turns, and a sweep is a whole turn at most
wide_wedge : wedge (pos 3 ∷ pos 450000000 ∷ negsuc 399999999 ∷ [])
    ≡ Some (record { radius = pos 3; start = 90000; sweep = negsuc 359999; chord = 5000 })
wide_wedge = refl

no_chord_of_0 : wedge (pos 3 ∷ pos 0 ∷ pos 1000000 ∷ pos 0 ∷ []) ≡ None
no_chord_of_0 = refl

-- after CT 1
chord_left_out : without_polygon_chord EdgeWedge (pos 1 ∷ pos 2 ∷ pos 3 ∷ pos 4 ∷ []) ≡ pos 1 ∷ pos 2 ∷ pos 3 ∷ []
chord_left_out = refl

fill_as_it_is : without_polygon_chord FillType (pos 1 ∷ pos 2 ∷ pos 3 ∷ pos 4 ∷ []) ≡ pos 1 ∷ pos 2 ∷ pos 3 ∷ pos 4 ∷ []
fill_as_it_is = refl
