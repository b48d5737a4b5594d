-- PCL 5 raster graphics without compression ("PCL 5 Printer Language Technical Reference Manual", Raster Graphics).
use Rattle.std.specs.Prelude.{ℕ, Bool, ◌==◌, List, [], ◌∷◌, ◌++◌, length, codes, decimal}
use Rattle.std.specs.List.{list_any}

-- ESC, the byte that begins a command
abbrev pub escape_byte : ℕ
escape_byte = 27

-- printer reset: ESC E
abbrev pub reset : List ℕ
reset = escape_byte ∷ codes "E"

-- raster graphics resolution: ESC *t#R, in dots per inch
abbrev pub set_resolution : ℕ → List ℕ
set_resolution dots = escape_byte ∷ codes "*t" ++ decimal dots ++ codes "R"

-- source raster width: ESC *r#S, in pixels
abbrev pub set_width : ℕ → List ℕ
set_width columns = escape_byte ∷ codes "*r" ++ decimal columns ++ codes "S"

-- raster height: ESC *r#T, in rows
abbrev pub set_height : ℕ → List ℕ
set_height rows = escape_byte ∷ codes "*r" ++ decimal rows ++ codes "T"

-- start raster graphics at the left margin: ESC *r0A
abbrev pub start_raster : List ℕ
start_raster = escape_byte ∷ codes "*r0A"

-- set compression method, to 0, which is none: ESC *b0M
abbrev pub set_no_compression : List ℕ
set_no_compression = escape_byte ∷ codes "*b0M"

-- transfer raster data by row: ESC *b#W, for a number of bytes, which follow it
abbrev pub transfer_command : ℕ → List ℕ
transfer_command bytes = escape_byte ∷ codes "*b" ++ decimal bytes ++ codes "W"

-- end raster graphics: ESC *rB
abbrev pub end_raster : List ℕ
end_raster = escape_byte ∷ codes "*rB"

-- the commands before the rows
abbrev pub head : ℕ → ℕ → ℕ → List ℕ
head dots columns rows =
    reset ++ set_resolution dots ++ set_width columns ++ set_height rows ++ start_raster ++ set_no_compression

-- a row of these bytes
abbrev pub row : List ℕ → List ℕ
row bytes = transfer_command (length bytes) ++ bytes

-- the commands after the rows
abbrev pub foot : List ℕ
foot = end_raster ++ reset

-- the resolutions of PCL 5, in dots per inch
abbrev pub is_pcl_resolution : ℕ → Bool
is_pcl_resolution dots = list_any (λ resolution. dots == resolution) (75 ∷ 100 ∷ 150 ∷ 200 ∷ 300 ∷ 600 ∷ [])
