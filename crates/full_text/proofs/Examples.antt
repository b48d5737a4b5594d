-- The cut of some plots.
use Rattle.std.proofs.Common.{◌≡◌, refl, ℕ, List, [], ◌∷◌, ◌++◌, map, codes, false}
use Rattle.exact.proofs.Tables.{Table}
use Rattle.hpgl_text.specs.declared.instruction.Instruction.TheVariants.{PenUp}
use Rattle.hpgl_text.specs.Shapes.{ItemShape, Escape, FormFeed, Params}
use Rattle.escapes.specs.Escapes.{chain}
use Rattle.full_text.specs.Cut.{full_cut}

-- ESC
abbrev esc : List ℕ
esc = 27 ∷ []

-- the place and the code of each item
abbrev read : List ℕ → List (ℕ × List ℕ)
read plot = map (λ (item : ItemShape). (item.at, item.code)) (full_cut plot)

abbrev an_escape : ℕ → ℕ × List ℕ
an_escape at = (at, 27 ∷ 0 ∷ [])

-- a stray or a form feed
abbrev without_letters : ℕ → ℕ × List ℕ
without_letters at = (at, 0 ∷ 0 ∷ [])

cuts : Table read (
    (esc ++ codes "%0APD64,64;" ++ esc ++ codes "%0BPU8,8;PD16,8;", an_escape 0 ∷ an_escape 12 ∷ (16, codes "PU") ∷ (22, codes "PD") ∷ [])  -- text in HP RTL
    ∷ (esc ++ codes "EPU8,8;PD16,8;", an_escape 0 ∷ (2, codes "PU") ∷ (8, codes "PD") ∷ [])  -- a reset before instructions
    ∷ (esc ++ codes "EPU8,8;PD16,8;" ++ esc ++ codes "%0BPD;", an_escape 0 ∷ an_escape 15 ∷ (19, codes "PD") ∷ [])  -- a reset before text, which ESC % B ends
    ∷ (esc ++ codes "EPU8,8;PD16,8;" ++ esc ++ codes "%0A" ++ esc ++ codes "%0BPD;", an_escape 0 ∷ (2, codes "PU") ∷ (8, codes "PD") ∷ an_escape 15 ∷ an_escape 19 ∷ (23, codes "PD") ∷ [])  -- a reset before instructions that ESC % A ends
    ∷ (esc ++ codes "EPU8,8;PD16,8;" ++ esc ++ codes "E" ++ esc ++ codes "%0BPD;", an_escape 0 ∷ (2, codes "PU") ∷ (8, codes "PD") ∷ an_escape 15 ∷ an_escape 17 ∷ (21, codes "PD") ∷ [])  -- a reset before instructions that another ends
    ∷ (esc ++ codes "%-12345X@PJL PU;" ++ esc ++ codes "%-1BPU;", an_escape 0 ∷ an_escape 17 ∷ (22, codes "PU") ∷ [])  -- UEL before the text of PJL
    ∷ (esc ++ codes "EPU;" ++ esc ++ codes "*b4W" ++ esc ++ codes "%0APD;" ++ esc ++ codes "%0BPD;", an_escape 0 ∷ (2, codes "PU") ∷ an_escape 5 ∷ (14, codes "PD") ∷ an_escape 17 ∷ (21, codes "PD") ∷ [])  -- a form within data counts
    ∷ (esc ++ codes "*r1APU;" ++ esc ++ codes "*rC PU;" ++ esc ++ codes "%1BPU;", an_escape 0 ∷ an_escape 8 ∷ an_escape 16 ∷ (20, codes "PU") ∷ [])  -- an image begins
    ∷ (esc ++ codes "*rb3APU;" ++ esc ++ codes "%0BPD;", an_escape 0 ∷ an_escape 9 ∷ (13, codes "PD") ∷ [])  -- several commands of an escape
    ∷ (esc ++ codes "&p5XPD9,9" ++ esc ++ codes ")s5WPD8,8PD;", an_escape 0 ∷ an_escape 10 ∷ (20, codes "PD") ∷ [])  -- data are no instructions
    ∷ (esc ++ codes "*c5P" ++ esc ++ codes "*t5R" ++ esc ++ codes "*b" ++ esc ++ esc ++ codes "(s3B" ++ esc ++ codes "9" ++ esc ++ codes "*r9a1G", an_escape 0 ∷ an_escape 5 ∷ without_letters 10 ∷ without_letters 11 ∷ without_letters 12 ∷ without_letters 13 ∷ an_escape 14 ∷ an_escape 19 ∷ an_escape 21 ∷ [])  -- strays
    ∷ ((12 ∷ []) ++ esc ++ codes "%0A" ++ (12 ∷ []) ++ codes " " ++ esc ++ codes "%0B" ++ (12 ∷ []) ++ codes "PU;", without_letters 0 ∷ an_escape 1 ∷ without_letters 5 ∷ an_escape 7 ∷ without_letters 11 ∷ (12, codes "PU") ∷ [])  -- form feeds in HP RTL and not
    ∷ (codes "LBa" ++ esc ++ codes "E" ++ (3 ∷ []) ++ codes "PU;", (0, codes "LB") ∷ (6, codes "PU") ∷ [])  -- ESC within a text
    ∷ (codes "PU8" ++ esc ++ codes "E" ++ esc ++ codes ".(;PD;", (0, codes "PU") ∷ an_escape 3 ∷ (9, codes "PD") ∷ [])  -- ESC that ends an instruction, and a device control
    ∷ (codes "DT#;" ++ esc ++ codes "%0A;IN;" ++ esc ++ codes "%0BLBa" ++ (3 ∷ []) ++ codes "#PU;", (0, codes "DT") ∷ an_escape 4 ∷ an_escape 12 ∷ (16, codes "LB") ∷ (21, codes "PU") ∷ [])  -- a terminator that is kept
    ∷ (codes "PU;" ++ esc, (0, codes "PU") ∷ without_letters 3 ∷ [])  -- the least escape at the end
    ∷ [])
unfolding chain
cuts = refl

-- an escape has its bytes after the ESC, with its data
bodies : full_cut (esc ++ codes "*b2m3WPU;;PU;" ++ esc ++ codes "%0A" ++ (12 ∷ [])) ≡
    record { at = 0; code = 27 ∷ 0 ∷ []; body = Escape (codes "*b2m3WPU;"); unended = false }
    ∷ record { at = 11; code = codes "PU"; body = Params PenUp []; unended = false }
    ∷ record { at = 14; code = 27 ∷ 0 ∷ []; body = Escape (codes "%0A"); unended = false }
    ∷ record { at = 18; code = 0 ∷ 0 ∷ []; body = FormFeed; unended = false } ∷ []
unfolding chain
bodies = refl
