-- The cut in the profile full, at some texts.
use Rattle.std.proofs.Common.{◌≡◌, refl, ℕ, pos, List, [], ◌∷◌, ◌++◌, codes, Some, None, true, false}
use Rattle.exact.proofs.Tables.{Table}
use Rattle.hpgl_text.specs.Shapes.{ItemShape, BodyShape, Params, Further, DamagedMoves, DamagedCurves, Label, Terminator, Kept, Symbol, Known, Skipped, Bad, Stray}
use Rattle.hpgl_text.specs.declared.instruction.Instruction.TheVariants.{Initialize, PenColour, PenDown, PenUp}
use Rattle.hpgl_text.specs.declared.moves.Moves.TheVariants.{Down, Absolute, Relative}
use Rattle.hpgl_text.specs.declared.further.Further.TheVariants.{LineType, ColourRange, EndSheet, BeginPlot, PrintBuffer, StandardSet, AlternateSet, StandardFont, AlternateFont, SelectStandard, SelectAlternate, Transparency, ScreenedVectors, UserCharacter}
use Rattle.hpgl_text.specs.declared.profile.Profile.TheVariants.{Core, Full}
use Rattle.hpgl_text.specs.Mnemonics.{kind_of}
use Rattle.hpgl_text.specs.Cut.{cut, cut_by}
use Rattle.hpgl_text.specs.Laws.{as_in_core}
use Rattle.hpgl_text.specs.Terminators.{unprinted, named_with_mode}

abbrev full : List ℕ → List ItemShape
full plot = cut_by Full plot

abbrev item : ℕ → List ℕ → BodyShape → ItemShape
item at code body = record { at = at; code = code; body = body; unended = false }

-- DT: a byte that ends labels, and is not printed
abbrev ends_by : ℕ → BodyShape
ends_by byte = Terminator (unprinted byte)

abbrev ends_printed_by : ℕ → BodyShape
ends_printed_by byte = Terminator (record { byte = byte; is_printed = true })

-- instructions with numbers, and those whose bytes are not read
instructions : Table full (
    (codes "lt2,.5;LT", item 0 (codes "LT") (Further LineType (pos 2000000 ∷ pos 500000 ∷ [])) ∷ item 7 (codes "LT") (Further LineType []) ∷ [])  -- small letters
    ∷ (codes "LT2:1;PU", item 0 (codes "LT") Bad ∷ item 6 (codes "PU") (Params PenUp []) ∷ [])  -- wrong byte
    -- an instruction of the core is read as in the core
    ∷ (codes "PC1;CR0", item 0 (codes "PC") (Params PenColour (pos 1000000 ∷ [])) ∷ item 4 (codes "CR") (Further ColourRange (pos 0 ∷ [])) ∷ [])
    -- sets and fonts
    ∷ (codes "CS33;CASD1,14AD;", item 0 (codes "CS") (Further StandardSet (pos 33000000 ∷ [])) ∷ item 5 (codes "CA") (Further AlternateSet []) ∷ item 7 (codes "SD") (Further StandardFont (pos 1000000 ∷ pos 14000000 ∷ [])) ∷ item 13 (codes "AD") (Further AlternateFont []) ∷ [])
    -- transparency, and screened strokes
    ∷ (codes "TR0;SV1,50TR:", item 0 (codes "TR") (Further Transparency (pos 0 ∷ [])) ∷ item 4 (codes "SV") (Further ScreenedVectors (pos 1000000 ∷ pos 50000000 ∷ [])) ∷ item 10 (codes "TR") Bad ∷ [])
    ∷ (codes "UC;UC1,2,99,3;", item 0 (codes "UC") (Further UserCharacter []) ∷ item 3 (codes "UC") (Further UserCharacter (pos 1000000 ∷ pos 2000000 ∷ pos 99000000 ∷ pos 3000000 ∷ [])) ∷ [])
    -- the bytes are not read
    ∷ (codes "SS:1;SAPU", item 0 (codes "SS") (Further SelectStandard []) ∷ item 5 (codes "SA") (Further SelectAlternate []) ∷ item 7 (codes "PU") (Params PenUp []) ∷ [])
    ∷ (codes "PG1:2;PU", item 0 (codes "PG") (Further EndSheet []) ∷ item 6 (codes "PU") (Params PenUp []) ∷ [])  -- bytes after PG are not read
    -- other ends of a sheet
    ∷ (codes "AFAHNRFRPB", item 0 (codes "AF") (Further EndSheet []) ∷ item 2 (codes "AH") (Further EndSheet []) ∷ item 4 (codes "NR") (Further EndSheet []) ∷ item 6 (codes "FR") (Further EndSheet []) ∷ item 8 (codes "PB") (Further PrintBuffer []) ∷ [])
    -- known ones without effect, and an unknown one
    ∷ (codes "PS100,200;NP8;LA1,4,2,4;MC0;FN1,277;VS20;WDPD9,9" ++ (3 ∷ []) ++ codes "OE;ZZ1;", item 0 (codes "PS") Known ∷ item 10 (codes "NP") Known ∷ item 14 (codes "LA") Known ∷ item 24 (codes "MC") Known ∷ item 28 (codes "FN") Known ∷ item 36 (codes "VS") Known ∷ item 41 (codes "WD") Known ∷ item 49 (codes "OE") Known ∷ item 52 (codes "ZZ") Skipped ∷ [])
    ∷ (codes "OE:\";\";OW", item 0 (codes "OE") Known ∷ item 7 (codes "OW") Known ∷ [])  -- a wrong byte is not bad there
    ∷ [])
instructions = refl

-- moves and curves before a wrong byte
damaged_ones : Table full (
    -- a pair and a number
    (codes "PD10,20,3?0,9;PU", item 0 (codes "PD") (DamagedMoves Down (pos 10000000 ∷ pos 20000000 ∷ pos 3000000 ∷ [])) ∷ item 14 (codes "PU") (Params PenUp []) ∷ [])
    ∷ (codes "PD:;PU", item 0 (codes "PD") (DamagedMoves Down []) ∷ item 4 (codes "PU") (Params PenUp []) ∷ [])  -- no number
    ∷ (codes "PA1,-;", item 0 (codes "PA") (DamagedMoves Absolute (pos 1000000 ∷ [])) ∷ [])  -- a sign without digits
    ∷ (codes "PR9999999,1;", item 0 (codes "PR") (DamagedMoves Relative []) ∷ [])  -- too large a number
    ∷ (codes "BZ1:2;", item 0 (codes "BZ") (DamagedCurves false (pos 1000000 ∷ [])) ∷ [])
    ∷ (codes "BR:", item 0 (codes "BR") (DamagedCurves true []) ∷ [])
    ∷ (codes "EA1:2;", item 0 (codes "EA") Bad ∷ [])  -- others are bad
    ∷ [])
damaged_ones = refl

-- the core has no such moves
damaged_in_core : cut (codes "PD10,20:;") ≡ item 0 (codes "PD") Bad ∷ []
damaged_in_core = refl

-- in the core LT is unknown
not_in_core : cut (codes "LT2:1;PU") ≡ item 0 (codes "LT") Skipped ∷ item 6 (codes "PU") (Params PenUp []) ∷ []
not_in_core = refl

-- which both profiles read alike, but for the mode of a DT
abbrev SameKind : List ℕ → Type 0
SameKind code = as_in_core (kind_of Full code) ≡ kind_of Core code

same_kinds : SameKind (codes "IN") × SameKind (codes "DF") × SameKind (codes "IP") × SameKind (codes "SC") × SameKind (codes "RO") × SameKind (codes "IW") × SameKind (codes "SP") × SameKind (codes "PW") × SameKind (codes "PC") × SameKind (codes "PU") × SameKind (codes "PD") × SameKind (codes "PA") × SameKind (codes "PR") × SameKind (codes "PE") × SameKind (codes "EA") × SameKind (codes "ER") × SameKind (codes "CI") × SameKind (codes "AA") × SameKind (codes "AR") × SameKind (codes "SI") × SameKind (codes "DI") × SameKind (codes "LB") × SameKind (codes "DT") × SameKind (0 ∷ 0 ∷ [])
same_kinds = (refl, refl, refl, refl, refl, refl, refl, refl, refl, refl, refl, refl, refl, refl, refl, refl, refl, refl, refl, refl, refl, refl, refl, refl)

-- labels, buffers and symbols
texts : Table full (
    -- BP restores the end of labels
    (codes "DT$;BP!;LBx$" ++ (3 ∷ []), item 0 (codes "DT") (ends_by 36) ∷ item 4 (codes "BP") (Further BeginPlot []) ∷ item 8 (codes "LB") (Label (120 ∷ 36 ∷ [])) ∷ [])
    ∷ (codes "BL." ++ (3 ∷ []) ++ codes "PU", item 0 (codes "BL") (Kept (46 ∷ [])) ∷ item 4 (codes "PU") (Params PenUp []) ∷ [])  -- a buffer
    ∷ (codes "BLa;", item 0 (codes "BL") (Kept (codes "a;")) ∷ [])  -- a buffer whose end is never missing
    -- DT ends all texts
    ∷ (codes "DT$;BLa;$WDb;$PU", item 0 (codes "DT") (ends_by 36) ∷ item 4 (codes "BL") (Kept (codes "a;")) ∷ item 9 (codes "WD") Known ∷ item 14 (codes "PU") (Params PenUp []) ∷ [])
    -- an end that is printed
    ∷ (codes "DT$,0;LBx$BLy$LBz", item 0 (codes "DT") (ends_printed_by 36) ∷ item 6 (codes "LB") (Label (codes "x$")) ∷ item 10 (codes "BL") (Kept (codes "y$")) ∷ record { at = 14; code = codes "LB"; body = Label (codes "z"); unended = true } ∷ [])
    ∷ (codes "DT$,0IN;LBx" ++ (3 ∷ []), item 0 (codes "DT") (ends_printed_by 36) ∷ item 5 (codes "IN") (Params Initialize []) ∷ item 8 (codes "LB") (Label (codes "x")) ∷ [])  -- until IN
    ∷ (codes "SM.PU", item 0 (codes "SM") (Symbol (Some 46)) ∷ item 3 (codes "PU") (Params PenUp []) ∷ [])  -- a point as symbol
    ∷ (codes "SM\"PU", item 0 (codes "SM") (Symbol (Some 34)) ∷ item 3 (codes "PU") (Params PenUp []) ∷ [])  -- a quote as symbol
    ∷ (codes "SM;PU", item 0 (codes "SM") (Symbol None) ∷ item 3 (codes "PU") (Params PenUp []) ∷ [])  -- no symbol
    ∷ (codes "SM" ++ (10 ∷ []) ++ codes "PU", item 0 (codes "SM") (Symbol None) ∷ item 3 (codes "PU") (Params PenUp []) ∷ [])  -- a control is none
    ∷ (codes "SM ;", item 0 (codes "SM") (Symbol None) ∷ [])  -- a blank is none
    ∷ (codes "SM", item 0 (codes "SM") (Symbol None) ∷ [])  -- cut off
    ∷ [])
texts = refl

-- the mode of a DT
modes : Table named_with_mode (
    (codes "$, 0;", ends_printed_by 36)  -- blanks before the mode
    ∷ (codes ",,0;", ends_printed_by 44)  -- a comma as the end
    ∷ (codes "$,0.499999;", ends_printed_by 36)  -- rounds to 0
    ∷ (codes "$,-.5x", ends_printed_by 36)  -- rounds to 0
    ∷ (codes "$,.5;", ends_by 36)  -- rounds to 1
    ∷ (codes "$,-.500001;", ends_by 36)  -- rounds to -1
    ∷ (codes "$,1;", ends_by 36)  -- mode 1
    ∷ (codes "$,2;", ends_by 36)  -- mode 2
    ∷ (codes "$;", ends_by 36)  -- no mode
    ∷ (codes "$,x0", ends_by 36)  -- no number
    ∷ (codes "$,,0;", ends_by 36)  -- two commas
    ∷ (codes "$ ,0;", ends_by 36)  -- a blank before the comma
    ∷ (codes "$0;", ends_by 36)  -- no comma
    ∷ (codes ";,0;", ends_by 3)  -- what follows the semicolon belongs to no DT
    ∷ (27 ∷ codes ",0;", Bad)  -- ESC
    ∷ ([], Bad)  -- no byte
    ∷ [])
modes = refl

-- comments
comments : Table full (
    -- with quotes, and without
    (codes "COa \"PD9,9\" x;PU0,0;PD10,0;CO\"a;b\" c;PD20,0;", item 0 (codes "CO") Known ∷ item 14 (codes "PU") (Params PenUp (pos 0 ∷ pos 0 ∷ [])) ∷ item 20 (codes "PD") (Params PenDown (pos 10000000 ∷ pos 0 ∷ [])) ∷ item 27 (codes "CO") Known ∷ item 37 (codes "PD") (Params PenDown (pos 20000000 ∷ pos 0 ∷ [])) ∷ [])
    ∷ (codes "CO " ++ (10 ∷ []) ++ codes "\"a;b\";PU", item 0 (codes "CO") Known ∷ item 10 (codes "PU") (Params PenUp []) ∷ [])  -- quotes after blanks
    ∷ (codes "COa\"b;PU", item 0 (codes "CO") Known ∷ item 6 (codes "PU") (Params PenUp []) ∷ [])  -- a quote closes nothing if a letter comes before it
    ∷ (codes "CO\"a;PU", item 0 (codes "CO") Known ∷ [])  -- a quote that is not closed
    ∷ (codes "COPU", item 0 (codes "CO") Known ∷ [])  -- a comment that is not closed
    ∷ [])
comments = refl

-- in the core a comment ends before its letters
comment_in_core : cut (codes "COa x;PU0,0;PD10,0;") ≡ item 0 (codes "CO") Skipped ∷ item 2 (0 ∷ 0 ∷ []) (Stray 97) ∷ item 4 (0 ∷ 0 ∷ []) (Stray 120) ∷ item 6 (codes "PU") (Params PenUp (pos 0 ∷ pos 0 ∷ [])) ∷ item 12 (codes "PD") (Params PenDown (pos 10000000 ∷ pos 0 ∷ [])) ∷ []
comment_in_core = refl
