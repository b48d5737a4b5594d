-- Worked examples: the lines of some reports.
use Rattle.std.proofs.Common.{◌≡◌, ℕ, ℤ, pos, negsuc, List, [], ◌∷◌, refl, codes, lit≤, map}
use Rattle.std.specs.Fmt.{digits}
use Rattle.plot_page.specs.declared.page.Page.{Page}
use Rattle.plot_page.specs.Segments.{Segment}
use Rattle.hpgl_plot.specs.declared.note.Note.{Note}
use Rattle.hpgl_plot.specs.declared.note.NoteKind.{NoteKind}
use Rattle.hpgl_plot.specs.declared.note.NoteKind.TheVariants.{Skipped, Bad, Stray, Axis, Open}
use Rattle.plot_report.specs.Report.{line, page_line, report_page, strokes_line, strokes_of, greatest, least_place, greatest_place, end_xs, end_ys, pen_line, pen_lines, note_line, report_of}

-- a table of examples: each value agrees with the one beside it
abbrev Agree : {X : Type 0} → List (X × X) → Type 0
Agree rows = map (λ it. it.0) rows ≡ map (λ it. it.1) rows

abbrev square : Page
square = record { width = 64; height = 64; left = 0; below = 0; width_in = (lit≤ tt, lit≤ tt); height_in = (lit≤ tt, lit≤ tt); left_in = lit≤ tt; below_in = lit≤ tt }

-- its corner lies at plotter (-10, -65536)
abbrev moved : Page
moved = record { width = 11880; height = 8400; left = 10; below = 65536; width_in = (lit≤ tt, lit≤ tt); height_in = (lit≤ tt, lit≤ tt); left_in = lit≤ tt; below_in = lit≤ tt }

-- a black stroke of a pen, of a width, between two places, in the window of the square page
abbrev stroke : ℕ → ℕ → ℤ → ℤ → ℤ → ℤ → Segment
stroke pen width ax ay bx by = record { pen = pen; colour = record { red = 0; green = 0; blue = 0 }; width = width; window = record { x0 = pos 0; y0 = pos 0; x1 = pos 1024; y1 = pos 1024 }; ax = ax; ay = ay; bx = bx; by = by }

-- SP1;PU0,28;PD64,28;
abbrev across : Segment
across = stroke 1 224 (pos 0) (pos 448) (pos 1024) (pos 448)

-- one with pen 2, from above the page to left of it and below it
abbrev falling : Segment
falling = stroke 2 16 (pos 320) (pos 2000) (negsuc 15) (negsuc 31)

-- one with pen 1, which rises
abbrev rising : Segment
rising = stroke 1 300 (pos 512) (pos 0) (pos 2048) (pos 64)

abbrev note : ℕ → List ℕ → NoteKind → Note
note at code kind = record { at = at; code = code; kind = kind }

-- lines of words, of pages, of pens and of notes
lines : Agree (
    (line (codes "a" ∷ codes "bc" ∷ codes "d" ∷ []), codes "a bc d\n")  -- words with a space between each two
    ∷ (page_line (report_page square), codes "page 64 64 0 0\n")  -- page at the corner
    ∷ (page_line (report_page moved), codes "page 11880 8400 10 65536\n")  -- the page of A3
    ∷ (page_line (record { width = 100; height = 200; left = negsuc 1999; below = negsuc 0 }), codes "page 100 200 -2000 -1\n")  -- a page whose corner is right of (0, 0) and above it
    ∷ (strokes_line [], codes "strokes 0\n")  -- no strokes
    ∷ (pen_line 7 [], [])  -- pen without strokes
    ∷ (pen_line 1 (across ∷ []), codes "pen 1 strokes 1 widest 224 box 0 448 1024 448\n")  -- pen with one stroke
    -- a letter of two strokes
    ∷ (pen_line 1 (stroke 1 224 (pos 405) (pos 1600) (pos 405) (pos 448) ∷ stroke 1 224 (pos 0) (pos 448) (pos 811) (pos 448) ∷ []), codes "pen 1 strokes 2 widest 224 box 0 448 811 1600\n")
    -- SC0,3,0,8;PU0,3.5;PR;PD1,0,1,0,1,0;
    ∷ (pen_line 1 (stroke 1 224 (pos 0) (pos 448) (pos 341) (pos 448) ∷ stroke 1 224 (pos 341) (pos 448) (pos 683) (pos 448) ∷ stroke 1 224 (pos 683) (pos 448) (pos 1024) (pos 448) ∷ []), codes "pen 1 strokes 3 widest 224 box 0 448 1024 448\n")
    ∷ (pen_line 2 (falling ∷ []), codes "pen 2 strokes 1 widest 16 box -16 -32 320 2000\n")  -- no window cuts the box
    ∷ (note_line (note 0 (codes "ZZ") Skipped), codes "note 0 skipped ZZ\n")  -- skipped
    ∷ (note_line (note 5 (27 ∷ 0 ∷ []) Bad), codes "note 5 bad ESC\n")  -- an escape
    ∷ (note_line (note 12 (0 ∷ 0 ∷ []) (Stray 33)), codes "note 12 stray 33\n")  -- stray
    ∷ [])
unfolding digits
lines = refl

-- the strokes of a pen keep their order
strokes_of_pen_1 : strokes_of 1 (across ∷ falling ∷ rising ∷ []) ≡ across ∷ rising ∷ []
strokes_of_pen_1 = refl

strokes_of_pen_3 : strokes_of 3 (across ∷ falling ∷ rising ∷ []) ≡ []
strokes_of_pen_3 = refl

greatest_in_the_middle : greatest (3 ∷ 12800 ∷ 16 ∷ []) ≡ 12800
greatest_in_the_middle = refl

-- places lie below 0 too
places : Agree (
    (least_place (pos 5 ∷ negsuc 15 ∷ pos 0 ∷ []), negsuc 15)
    ∷ (least_place (pos 768 ∷ pos 715 ∷ []), pos 715)
    ∷ (greatest_place (negsuc 7 ∷ negsuc 15 ∷ []), negsuc 7)
    ∷ [])
places = refl

-- both ends of each stroke count
xs_of_two : end_xs (across ∷ falling ∷ []) ≡ pos 0 ∷ pos 1024 ∷ pos 320 ∷ negsuc 15 ∷ []
xs_of_two = refl

ys_of_two : end_ys (across ∷ falling ∷ []) ≡ pos 448 ∷ pos 448 ∷ pos 2000 ∷ negsuc 31 ∷ []
ys_of_two = refl

-- PU48,32;PD;AA32,32,37.5; is a dot and eight chords
arc : pen_line 1 (
    stroke 1 224 (pos 768) (pos 512) (pos 768) (pos 512) ∷ stroke 1 224 (pos 768) (pos 512) (pos 767) (pos 534) ∷ stroke 1 224 (pos 767) (pos 534) (pos 764) (pos 556)
    ∷ stroke 1 224 (pos 764) (pos 556) (pos 759) (pos 578) ∷ stroke 1 224 (pos 759) (pos 578) (pos 753) (pos 600) ∷ stroke 1 224 (pos 753) (pos 600) (pos 744) (pos 620)
    ∷ stroke 1 224 (pos 744) (pos 620) (pos 734) (pos 640) ∷ stroke 1 224 (pos 734) (pos 640) (pos 722) (pos 659) ∷ stroke 1 224 (pos 722) (pos 659) (pos 715) (pos 668) ∷ []
    ) ≡ codes "pen 1 strokes 9 widest 224 box 715 512 768 668\n"
unfolding digits
arc = refl

-- reports
reports : Agree (
    (report_of (report_page square) (across ∷ []) [], codes "page 64 64 0 0\nstrokes 1\npen 1 strokes 1 widest 224 box 0 448 1024 448\n")  -- SP1;PU0,28;PD64,28;
    -- the pens rise, in whatever order they drew
    ∷ (report_of (report_page square) (falling ∷ across ∷ rising ∷ []) [], codes "page 64 64 0 0\nstrokes 3\npen 1 strokes 2 widest 300 box 0 0 2048 448\npen 2 strokes 1 widest 16 box -16 -32 320 2000\n")
    -- ZZ1,2;CO"a;b";PA1
    ∷ (report_of (report_page square) [] (note 0 (codes "ZZ") Skipped ∷ note 6 (codes "CO") Skipped ∷ note 14 (codes "PA") Bad ∷ []), codes "page 64 64 0 0\nstrokes 0\nnote 0 skipped ZZ\nnote 6 skipped CO\nnote 14 bad PA\n")
    -- the other notes
    ∷ (report_of (report_page moved) [] (note 3 (codes "DI") Axis ∷ note 9 (codes "LB") Open ∷ []), codes "page 11880 8400 10 65536\nstrokes 0\nnote 3 axis DI\nnote 9 open LB\n")
    ∷ [])
unfolding digits pen_lines
reports = refl
