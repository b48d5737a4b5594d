-- Circles, arcs and the edges of rectangles: what small plots draw and what is noted on them, by their text.
use Rattle.std.proofs.Common.{◌≡◌, ℕ, refl, pos, [], ◌∷◌, length, Some, None}
use Rattle.std.specs.Prelude.{codes}
use Rattle.hpgl_text.specs.Cut.{cut}
use Rattle.exact.specs.declared.spot.Spot.{Spot}
use Rattle.exact.proofs.Tables.{Table}
use Rattle.hpgl_plot.specs.declared.curve.Curve.{Curve}
use Rattle.hpgl_plot.specs.declared.fault.PlotFault.TheVariants.{OffRange}
use Rattle.hpgl_plot.specs.declared.note.NoteKind.TheVariants.{Bad}
use Rattle.hpgl_plot.specs.Paths.{circle_curve, chord_count, curve_point}
use Rattle.carousel.specs.Carousels.{empty}
use Rattle.hpgl_plot.specs.Frames.{place_along, back_along}
use Rattle.plot_settings.specs.Colours.{default_colours}
use Rattle.plot_settings.specs.Settings.{all_pens}
use Rattle.hpgl_plot.specs.Strokes.{strokes}
use Rattle.hpgl_plot.proofs.ExamplePages.{square, line, drawn, refused, noted, note}

-- in millionths
abbrev units : ℕ → ℕ → Spot
units x y = record { x = pos x; y = pos y }

-- about (32, 32) from (48, 32) by 37.5 degrees in chords of 5: the last one is shorter
abbrev short_arc : Curve
short_arc = record { centre = units 32000000 32000000; from = units 48000000 32000000; sweep = pos 37500; chord = 5000 }

eight_chords : chord_count short_arc ≡ 8
eight_chords = refl

-- a sine of 37.5 degrees is 0.60875, its cosine 0.7933
end_of_short_arc : curve_point short_arc 8 ≡ units 44692800 41740000
unfolding curve_point
end_of_short_arc = refl

-- a circle begins on the right of the pen
first_point : (circle_curve (units 32000000 32000000) (record { radius = pos 16000000; chord = 90000 })).from ≡ units 48000000 32000000
first_point = refl

-- what circles, arcs, EA and ER draw
figures : Table drawn (
    (codes "PU32,32;CI16,90;", line 768 512 512 768 ∷ line 512 768 256 512 ∷ line 256 512 512 256 ∷ line 512 256 768 512 ∷ [])  -- four chords, drawn with the pen up
    ∷ (codes "PU48,32;PD;AR-16,0,-90,45;", line 768 512 768 512 ∷ line 768 512 693 331 ∷ line 693 331 512 256 ∷ [])  -- clockwise about a centre that is relative to the pen, which is down
    ∷ (codes "PU48,32;AA32,32,90;PD;", line 512 768 512 768 ∷ [])  -- an arc with the pen up moves it
    ∷ (codes "SP0;PU32,32;CI16,180;SP1;PU32,33;PD;", line 512 528 512 528 ∷ [])  -- a circle leaves the pen where it is, and up
    ∷ (codes "PU1,2;CI0,180;", line 16 32 16 32 ∷ line 16 32 16 32 ∷ [])  -- without a radius two chords of length zero
    ∷ (codes "RO90;SC0,8,0,8;PU4,4;CI2,180;", line 512 768 512 256 ∷ line 512 256 512 768 ∷ [])  -- on a rotated page, in user units
    -- EA with a corner beside the pen: four strokes, two of them without a length
    ∷ (codes "PU0,28;EA64,28;", line 0 448 1024 448 ∷ line 1024 448 1024 448 ∷ line 1024 448 0 448 ∷ line 0 448 0 448 ∷ [])
    -- EA and ER go round from the pen to its place again, whether it is up or down
    ∷ (codes "PU10,10;EA20,30;PD11,11;ER5,-5;", line 160 160 320 160 ∷ line 320 160 320 480 ∷ line 320 480 160 480 ∷ line 160 480 160 160 ∷ line 160 160 176 176 ∷ line 176 176 256 176 ∷ line 256 176 256 96 ∷ line 256 96 176 96 ∷ line 176 96 176 176 ∷ [])
    -- EA and ER leave the pen where it is, and as it is
    ∷ (codes "PU10,10;ER5,5;PD20,20;", line 160 160 240 160 ∷ line 240 160 240 240 ∷ line 240 240 160 240 ∷ line 160 240 160 160 ∷ line 160 160 320 320 ∷ [])
    ∷ (codes "SP0;ER5,5;SP2;", [])  -- pen 0 draws no edge
    ∷ (codes "SC0,8,0,8;PU1,1;ER2,3;", line 128 128 384 128 ∷ line 384 128 384 512 ∷ line 384 512 128 512 ∷ line 128 512 128 128 ∷ [])  -- an edge in the units of the time
    ∷ (codes "RO90;PU1,1;EA3,5;", line 1008 16 1008 48 ∷ line 1008 48 944 48 ∷ line 944 48 944 16 ∷ line 944 16 1008 16 ∷ [])  -- an edge that is turned
    ∷ [])
unfolding place_along back_along all_pens default_colours empty curve_point
figures = refl

-- 72 chords of 5 degrees, and 720 of half a degree
usual_circle : length (strokes square (cut (codes "PU32,32;CI16;"))) ≡ 72
unfolding place_along back_along all_pens default_colours empty curve_point
usual_circle = refl

-- what is noted on them
figures_noted : Table noted (
    -- chords and sweeps out of their range, and numbers that are missing
    (codes "CI;CI16,0.4;AA0,0,361;AR1,1;", note 0 (codes "CI") Bad ∷ note 3 (codes "CI") Bad ∷ note 12 (codes "AA") Bad ∷ note 22 (codes "AR") Bad ∷ [])
    ∷ (codes "EA;ER1;EA1,2,3;", note 0 (codes "EA") Bad ∷ note 3 (codes "ER") Bad ∷ [])  -- EA and ER with fewer than two numbers
    ∷ [])
figures_noted = refl

-- which are out of range
figures_refused : Table refused (
    (codes "CI70000;", Some (OffRange 0))  -- the first point of a circle
    ∷ (codes "SP0;PU1,60000;AA1,1,-180,90;", None)  -- an arc that is not drawn, within the range
    ∷ (codes "SP0;PU40000,30000;AA0,40000,180,90;", Some (OffRange 18))  -- only a point in between
    ∷ (codes "PU0,0;EA1,65537;", Some (OffRange 6))  -- a corner
    ∷ (codes "SP0;PU1,1;ER70000,0;", Some (OffRange 10))  -- a corner with pen 0
    ∷ [])
unfolding place_along back_along all_pens default_colours empty curve_point
figures_refused = refl
