-- What is noted on small plots in the profile full, by their text.
use Rattle.std.proofs.Common.{◌≡◌, ℕ, List, [], ◌∷◌, ◌++◌, refl, map, Option, Some, None}
use Rattle.std.specs.Prelude.{codes}
use Rattle.escapes.specs.Escapes.{chain}
use Rattle.full_text.specs.Cut.{full_cut}
use Rattle.hpgl_plot.specs.declared.note.Note.{Note}
use Rattle.hpgl_plot.specs.declared.note.NoteKind.{NoteKind}
use Rattle.hpgl_plot.specs.declared.note.NoteKind.TheVariants.{Skipped, Bad, Stray, Open}
use Rattle.full_notes.specs.Notes.{notes_told}

-- a table of examples: each input has its output
abbrev Table : {X Y : Type 0} → (X → Y) → List (X × Y) → Type 0
Table f rows = map (λ it. f it.0) rows ≡ map (λ it. it.1) rows

abbrev noted : List ℕ → List Note
noted plot = notes_told [] (full_cut plot)

-- a note on the item at a place
abbrev note : ℕ → List ℕ → NoteKind → Note
note at code kind = record { at = at; code = code; kind = kind }

-- lines, widths, sheets and polygons
instructions : Table noted (
    -- wrong line types
    (codes "LT9;LT2,0;LT2,1,2;UL0,1;UL1,0,0;UL1,1,-1;", note 0 (codes "LT") Bad ∷ note 4 (codes "LT") Bad ∷ note 10 (codes "LT") Bad ∷ note 18 (codes "UL") Bad ∷ note 24 (codes "UL") Bad ∷ note 32 (codes "UL") Bad ∷ [])
    ∷ (codes "LT;LT99;LT-8;LT2,5,1;UL;UL-3;UL3,0,5;", [])  -- good line types
    ∷ (codes "LT!;UL1,!;", note 0 (codes "LT") Bad ∷ note 4 (codes "UL") Bad ∷ [])  -- a byte that begins no number
    -- PW in millimetres, and in percent after WU1
    ∷ (codes "PW50;WU1;PW50;PW101;PW1,256;WU0;PW50;", note 0 (codes "PW") Bad ∷ note 14 (codes "PW") Bad ∷ note 20 (codes "PW") Bad ∷ note 32 (codes "PW") Bad ∷ [])
    -- wrong units
    ∷ (codes "WU2;PW50;WU1;WU2;PW50;PT21;PT-1;", note 0 (codes "WU") Bad ∷ note 4 (codes "PW") Bad ∷ note 13 (codes "WU") Bad ∷ note 22 (codes "PT") Bad ∷ note 27 (codes "PT") Bad ∷ [])
    ∷ (codes "WU1;IN;PW50;WU1;BP;PW50;WU1;DF;PW50;", note 7 (codes "PW") Bad ∷ note 19 (codes "PW") Bad ∷ [])  -- IN and BP restore millimetres, and DF does not
    ∷ (codes "WU;WU0,5;WU1;PW;PW100,255;PT;PT.5;PW0,1,2;", [])  -- good widths
    ∷ (codes "PG;AF;AH1;NR;FR;BP1,2;", [])  -- the ends of sheets, and BP with any numbers
    ∷ (codes "PS1;COa x;NP8;", [])  -- without effect
    ∷ (codes "UF;SM*;BLx;", note 0 (codes "UF") Skipped ∷ [])  -- not drawn
    ∷ (codes "FT21;FT3,-1;FT10,101;FT1;", note 0 (codes "FT") Skipped ∷ note 5 (codes "FT") Bad ∷ note 12 (codes "FT") Bad ∷ [])  -- patterns of FT
    -- a number of UC alone, and UC in polygon mode
    ∷ (codes "UC;UC1,2,99,3;UC99;PM0;UC;PM2;", note 3 (codes "UC") Bad ∷ note 23 (codes "UC") Bad ∷ [])
    -- polygon mode, and chords that are not read
    ∷ (codes "PM2;PM0;EA1,1;PM1;FP;PM2;EP;PM1;", note 0 (codes "PM") Bad ∷ note 8 (codes "EA") Bad ∷ note 18 (codes "FP") Bad ∷ note 28 (codes "PM") Bad ∷ [])
    ∷ (codes "CI1,0;CT1;CI1,0;AT1,2,3,4,0;CT;EW1,2,3,0;", note 0 (codes "CI") Bad ∷ note 31 (codes "EW") Bad ∷ [])  -- chords
    ∷ [])
instructions = refl

-- fonts, letters and colours, and what is noted as in core
letters : Table noted (
    -- sets that are not known, odd counts, and heights out of range
    (codes "SD1,9999;SD4;CS5;SD4,0;CA40;", note 0 (codes "SD") Skipped ∷ note 9 (codes "SD") Bad ∷ note 13 (codes "CS") Skipped ∷ note 17 (codes "SD") Bad ∷ note 23 (codes "CA") Skipped ∷ [])
    ∷ (codes "SD1,14,1,9999;AD1,9999,4,0;", note 0 (codes "SD") Skipped ∷ note 14 (codes "AD") Bad ∷ [])  -- one note an item, bad before skipped
    ∷ (codes "PM0;CS33;CA;SD1,14;AD;SS;SA!;SD4,0;PM2;", note 29 (codes "SD") Bad ∷ [])  -- fonts in polygons
    ∷ (codes "ZZ;PA1;", note 0 (codes "ZZ") Skipped ∷ note 3 (codes "PA") Bad ∷ [])  -- as in core
    ∷ (codes "PE!;#", note 2 (codes "PE") (Stray 33) ∷ note 4 (0 ∷ 0 ∷ []) (Stray 35) ∷ [])  -- strays
    ∷ (codes "DI5,3;DI0,0;DI1;DR1,2;DR0,0;", note 6 (codes "DI") Bad ∷ note 12 (codes "DI") Bad ∷ note 22 (codes "DR") Bad ∷ [])  -- directions along any axis or none
    -- wrong letters
    ∷ (codes "SR0,1;SL1001;ES101;LO10;LO20;DV4;DV0,2;CP1;TL1001;SR1,1;SL1;ES1,1;LO21;DV3,1;CP;TL;XT1;YT;PB;", note 0 (codes "SR") Bad ∷ note 6 (codes "SL") Bad ∷ note 13 (codes "ES") Bad ∷ note 19 (codes "LO") Bad ∷ note 24 (codes "LO") Bad ∷ note 29 (codes "DV") Bad ∷ note 33 (codes "DV") Bad ∷ note 39 (codes "CP") Bad ∷ note 43 (codes "TL") Bad ∷ [])
    -- in other ranges a colour is cut, and only the pen can be wrong
    ∷ (codes "PC1,300,0,0;CR0,100,0,100,0,100;PC1,300,0,0;PC256,0,0,0;PC300;CR1,1,0,9,0,9;CR0,9;IN;PC1,300,0,0;", note 0 (codes "PC") Bad ∷ note 44 (codes "PC") Bad ∷ note 56 (codes "PC") Bad ∷ note 62 (codes "CR") Bad ∷ note 76 (codes "CR") Bad ∷ note 85 (codes "PC") Bad ∷ [])
    ∷ (codes "LBx", note 0 (codes "LB") Open ∷ [])  -- open label
    ∷ [])
letters = refl

-- ESC
abbrev esc : List ℕ
esc = 27 ∷ []

-- a note on an escape
abbrev escape_note : ℕ → NoteKind → Note
escape_note at kind = record { at = at; code = 27 ∷ 0 ∷ []; kind = kind }

-- escapes, of which it is told, among instructions and form feeds; nothing is noted on those of which it is not
abbrev noted_by : List (Option NoteKind) × List ℕ → List Note
noted_by it = notes_told it.0 (full_cut it.1)

escapes : Table noted_by (
    ((Some Skipped ∷ None ∷ Some Bad ∷ [], esc ++ codes "*c5P" ++ esc ++ codes "E" ++ esc ++ codes "*t5R"), escape_note 0 Skipped ∷ escape_note 7 Bad ∷ [])
    ∷ ((Some Bad ∷ [], codes "PA1;" ++ esc ++ codes "9PA2;" ++ esc ++ codes "9"), note 0 (codes "PA") Bad ∷ escape_note 4 Bad ∷ note 6 (codes "PA") Bad ∷ [])
    ∷ ((None ∷ Some Skipped ∷ [], esc ++ codes "%0A" ++ (12 ∷ []) ++ esc ++ codes "%0B" ++ (12 ∷ [])), escape_note 5 Skipped ∷ note 9 (0 ∷ 0 ∷ []) (Stray 12) ∷ [])
    ∷ [])
unfolding chain
escapes = refl
