-- Labels: what small plots write and what is noted on them, by their text.
use Rattle.std.proofs.Common.{refl, pos, negsuc, [], ◌∷◌, ◌++◌, Some}
use Rattle.std.specs.Prelude.{codes}
use Rattle.exact.proofs.Tables.{Table}
use Rattle.stick_font.specs.Labels.{first_rows, last_rows}
use Rattle.hpgl_plot.specs.declared.fault.PlotFault.TheVariants.{OffRange}
use Rattle.hpgl_plot.specs.declared.note.NoteKind.TheVariants.{Bad, Axis, Open}
use Rattle.carousel.specs.Carousels.{empty}
use Rattle.hpgl_plot.specs.Frames.{place_along, back_along}
use Rattle.plot_settings.specs.Colours.{default_colours}
use Rattle.plot_settings.specs.Settings.{all_pens}
use Rattle.hpgl_plot.proofs.ExamplePages.{line, signed_line, drawn, refused, noted, note}

-- what labels draw
labels : Table drawn (
    (codes "PU0,28;LBL" ++ 3 ∷ [], line 0 2176 0 448 ∷ line 0 448 1216 448 ∷ [])  -- an L from the pen's place on, whether it is up or down
    ∷ (codes "PU0,28;LBl" ++ 3 ∷ [], line 0 1600 0 448 ∷ line 0 448 811 448 ∷ [])  -- two thirds of it
    ∷ (codes "PU0,28;DI0,1;LBL" ++ 3 ∷ [], signed_line (negsuc 1727) (pos 448) (pos 0) (pos 448) ∷ line 0 448 0 1664 ∷ [])  -- upward
    ∷ (codes "RO90;PU0,0;DI-2,1;SI.1,.1;LB-" ++ 3 ∷ [], signed_line (pos 1344) (pos 0) (pos 1344) (negsuc 639) ∷ [])  -- turned by RO, and to the left of that
    ∷ (codes "DI1,-1;SI.1,.1;LB-" ++ 3 ∷ [], line 0 320 640 320 ∷ [])  -- a tie goes to the run
    -- downward, and to the left
    ∷ (codes "SI.1,.1;DI1,-2;LB-" ++ 3 ∷ codes "DI-1,0;LB-" ++ 3 ∷ [], signed_line (pos 320) (pos 0) (pos 320) (negsuc 639) ∷ signed_line (pos 0) (negsuc 1279) (negsuc 639) (negsuc 1279) ∷ [])
    -- mirrored and upside down
    ∷ (codes "SI-.1,-.1;LB--" ++ 3 ∷ [], signed_line (pos 0) (negsuc 319) (negsuc 639) (negsuc 319) ∷ signed_line (negsuc 959) (negsuc 319) (negsuc 1599) (negsuc 319) ∷ [])
    -- the pen is left where the next character would begin, up or down as before
    ∷ (codes "SI.1,.1;PU1,1;LB  " ++ 13 ∷ 10 ∷ codes " " ++ 3 ∷ codes "PD;PR1,1;LB" ++ 3 ∷ codes "PR1,0;", signed_line (pos 976) (negsuc 1263) (pos 976) (negsuc 1263) ∷ signed_line (pos 976) (negsuc 1263) (pos 992) (negsuc 1247) ∷ signed_line (pos 992) (negsuc 1247) (pos 1008) (negsuc 1247) ∷ [])
    ∷ (codes "PU.03,0;LB" ++ 3 ∷ codes "PR.03,0;PD;", line 0 0 0 0 ∷ [])  -- even an empty label recomputes the coordinates, so that parts of a grain are lost
    ∷ (codes "SI.00001,.1;LB-" ++ 3 ∷ [], line 0 320 0 320 ∷ [])  -- a width below half a grain is 0, and good
    ∷ [])
unfolding place_along back_along all_pens default_colours empty first_rows last_rows
labels = refl

-- labels that draw an L like the first of these
same_letters : Table drawn (
    (codes "DT$;PU0,28;LBL$", drawn (codes "PU0,28;LBL" ++ 3 ∷ []))  -- with another terminator, which is not written
    ∷ (codes "PU0,28;LBL", drawn (codes "PU0,28;LBL" ++ 3 ∷ []))  -- without its terminator
    ∷ (codes "DT$;SI1,1;DI0,1;DF;PU0,28;LBL" ++ 3 ∷ [], drawn (codes "PU0,28;LBL" ++ 3 ∷ []))  -- DF restores the size, the direction and the terminator
    ∷ (codes "DT$;SI1,1;DI0,1;IN;PU0,28;LBL" ++ 3 ∷ [], drawn (codes "PU0,28;LBL" ++ 3 ∷ []))  -- so does IN
    ∷ (codes "SI1,1;DI0,1;SI;DI;PU0,28;LBL" ++ 3 ∷ [], drawn (codes "PU0,28;LBL" ++ 3 ∷ []))  -- without numbers SI and DI restore theirs
    ∷ (codes "SI0,1;SI1;SI40.000001,1;DI0,0;DI1;PU0,28;LBL" ++ 3 ∷ [], drawn (codes "PU0,28;LBL" ++ 3 ∷ []))  -- wrong ones change nothing
    ∷ [])
unfolding place_along back_along all_pens default_colours empty first_rows last_rows
same_letters = refl

-- what is noted on labels
labels_noted : Table noted (
    (codes "PU0,28;LBL", note 7 (codes "LB") Open ∷ [])  -- a label without its terminator
    -- wrong numbers
    ∷ (codes "SI0,1;SI1;SI40.000001,1;SI-40,40;DI0,0;DI1;", note 0 (codes "SI") Bad ∷ note 6 (codes "SI") Bad ∷ note 10 (codes "SI") Bad ∷ note 33 (codes "DI") Bad ∷ note 39 (codes "DI") Bad ∷ [])
    ∷ (codes "DI1,1;DI0,1;DI.0000001,1;DI-3,.5,0;DI;", note 0 (codes "DI") Axis ∷ note 25 (codes "DI") Axis ∷ [])  -- a direction along no axis, unless a number reads as 0
    ∷ [])
labels_noted = refl

-- which are out of range
labels_refused : Table refused (
    (codes "PU65536,0;LB-" ++ 3 ∷ [], Some (OffRange 10))  -- a stroke
    ∷ (codes "SP0;PU65536,0;LB " ++ 3 ∷ [], Some (OffRange 14))  -- the place after a label, without a stroke; by pen 0 too
    ∷ [])
unfolding place_along back_along all_pens default_colours empty first_rows last_rows
labels_refused = refl
