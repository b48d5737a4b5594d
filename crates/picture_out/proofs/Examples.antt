-- The bytes of some cells, in each form.
use Rattle.std.proofs.Common.{◌≡◌, ◌∷◌, ◌++◌, [], List, refl, codes, true, false, map}
use Rattle.std.specs.Fmt.{digits}
use Rattle.picture_out.specs.declared.form.Form.TheVariants.{Marks, Pbm, Ppm, Pcl}
use Rattle.picture_out.specs.declared.inks.Ink.{Ink}
use Rattle.bit_rows.specs.Bits.{byte_of, packed}
use Rattle.picture_out.specs.Inks.{paper, ink_at, cell_colour}
use Rattle.picture_out.specs.Marks.{two_digits, colour_digits, marks_from}
use Rattle.picture_out.specs.Pcl.{escape_byte, set_resolution, set_width, set_height, transfer_command}
use Rattle.picture_out.specs.Forms.{head_bytes, row_bytes, foot_bytes, takes_resolution}
use Rattle.picture_out.specs.Rooms.{room_of}

-- a table of examples: each input has its output
abbrev Table : {X Y : Type 0} → (X → Y) → List (X × Y) → Type 0
Table f rows = map (λ it. f it.0) rows ≡ map (λ it. it.1) rows

-- a table of examples: each value agrees with the one beside it
abbrev Agree : {X : Type 0} → List (X × X) → Type 0
Agree rows = map (λ it. it.0) rows ≡ map (λ it. it.1) rows

-- black with pen 1, a dark blue with pen 2, a red with pen 255
abbrev black : Ink
black = record { pen = 1; red = 0; green = 0; blue = 0 }

abbrev dark : Ink
dark = record { pen = 2; red = 10; green = 20; blue = 30 }

abbrev red : Ink
red = record { pen = 255; red = 255; green = 1; blue = 16 }

abbrev inks : List Ink
inks = black ∷ dark ∷ red ∷ []

-- how many bytes a row has room for, and the byte of some cells
rooms : Agree (
    (byte_of (1 ∷ []), 128)  -- the leftmost cell is the highest bit
    ∷ (byte_of (0 ∷ 0 ∷ 0 ∷ 0 ∷ 0 ∷ 0 ∷ 0 ∷ 9 ∷ []), 1)  -- the rightmost cell is the lowest bit
    ∷ (room_of Pbm 9, 2)  -- nine bits
    ∷ (room_of Pbm 8, 1)  -- eight bits
    ∷ (room_of Ppm 8, 24)  -- room in colour
    ∷ (room_of Marks 77405, 0)  -- room of marks
    ∷ (room_of Pcl 9, 2)  -- room in PCL
    ∷ [])
rooms = refl

-- bits: the leftmost cell is the highest, whatever its position
bits : Table packed (
    ([], [])  -- no cells
    ∷ (0 ∷ 1 ∷ 2 ∷ 0 ∷ 0 ∷ 255 ∷ 0 ∷ 1 ∷ 3 ∷ [], 101 ∷ 128 ∷ [])  -- 65 hex and 80 hex: nine cells take two bytes, and seven 0 bits fill the second
    ∷ (1 ∷ 1 ∷ 1 ∷ 1 ∷ 1 ∷ [], 248 ∷ [])  -- five cells
    ∷ (3 ∷ 3 ∷ 3 ∷ 3 ∷ 3 ∷ 3 ∷ 3 ∷ 3 ∷ [], 255 ∷ [])  -- eight cells
    ∷ (256 ∷ 65536 ∷ 4194304 ∷ [], 224 ∷ [])  -- positions whose lowest byte is 0
    ∷ [])
bits = refl

-- inks: positions count from 1, and 0 is the paper
inks_of_cells : Table (ink_at inks) (
    (1, black)  -- first
    ∷ (3, red)  -- last ink
    ∷ (4, paper)  -- past the inks
    ∷ [])
inks_of_cells = refl

-- rows of colours and of marks, and the digits of marks
rows : Agree (
    (cell_colour inks 0, 255 ∷ 255 ∷ 255 ∷ [])  -- colour of none
    ∷ (cell_colour inks 2, 10 ∷ 20 ∷ 30 ∷ [])  -- colour of second
    ∷ (row_bytes Ppm 7 inks (2 ∷ 0 ∷ []), 10 ∷ 20 ∷ 30 ∷ 255 ∷ 255 ∷ 255 ∷ [])  -- dark and paper
    ∷ (two_digits 10, codes "0a")  -- marks: the row, the column, the pen and the colour
    ∷ (two_digits 91, codes "5b")  -- both digits
    ∷ (two_digits 255, codes "ff")  -- greatest digits
    ∷ (colour_digits red, codes "ff0110")  -- digits of red
    ∷ (row_bytes Marks 4 inks (1 ∷ []), codes "4 0 1 000000\n")  -- marks: the row, the column, the pen and the colour
    ∷ (row_bytes Marks 4 inks (2 ∷ []), codes "4 0 2 0a141e\n")  -- dark mark
    ∷ (row_bytes Marks 10 inks (0 ∷ 2 ∷ 0 ∷ 3 ∷ []), codes "10 1 2 0a141e\n10 3 255 ff0110\n")  -- two marks
    ∷ (row_bytes Marks 3 inks (0 ∷ 0 ∷ []), [])  -- no marks
    ∷ (marks_from (codes "77404") 77403 inks (1 ∷ []), codes "77404 77403 1 000000\n")  -- far mark
    ∷ [])
unfolding digits
rows = refl

-- heads and feet
heads : Agree (
    (head_bytes Pbm 127 8 6, codes "P4\n8 6\n")  -- bitmap head
    ∷ (head_bytes Ppm 600 38702 1, codes "P6\n38702 1\n255\n")  -- pixmap head
    ∷ (head_bytes Marks 100 8 6, [])  -- marks head
    ∷ (foot_bytes Pbm, [])  -- bitmap foot
    ∷ [])
unfolding digits
heads = refl

-- PCL: a picture of five by five pixels at 75 dots per inch, of which only row 2 has ink
head_of_five : head_bytes Pcl 75 5 5
    ≡ escape_byte ∷ 69
    ∷ escape_byte ∷ 42 ∷ 116 ∷ 55 ∷ 53 ∷ 82
    ∷ escape_byte ∷ 42 ∷ 114 ∷ 53 ∷ 83
    ∷ escape_byte ∷ 42 ∷ 114 ∷ 53 ∷ 84
    ∷ escape_byte ∷ 42 ∷ 114 ∷ 48 ∷ 65
    ∷ escape_byte ∷ 42 ∷ 98 ∷ 48 ∷ 77 ∷ []
unfolding digits
head_of_five = refl

-- PCL: rows and a foot of five by five pixels at 75 dots per inch, of which only row 2 has ink, and commands
pcl : Agree (
    (row_bytes Pcl 0 [] (0 ∷ 0 ∷ 0 ∷ 0 ∷ 0 ∷ []), 27 ∷ 42 ∷ 98 ∷ 49 ∷ 87 ∷ 0 ∷ [])  -- blank row of five
    ∷ (row_bytes Pcl 2 [] (1 ∷ 1 ∷ 2 ∷ 1 ∷ 1 ∷ []), 27 ∷ 42 ∷ 98 ∷ 49 ∷ 87 ∷ 248 ∷ [])  -- row of five
    ∷ (foot_bytes Pcl, 27 ∷ 42 ∷ 114 ∷ 66 ∷ 27 ∷ 69 ∷ [])  -- foot of five
    ∷ (set_width 9, escape_byte ∷ codes "*r9S")  -- the width is in pixels, the row in bytes
    ∷ (row_bytes Pcl 7 [] (0 ∷ 1 ∷ 2 ∷ 0 ∷ 0 ∷ 255 ∷ 0 ∷ 1 ∷ 3 ∷ []), (escape_byte ∷ codes "*b2W") ++ (101 ∷ 128 ∷ []))  -- row of nine
    ∷ (row_bytes Pcl 0 [] [], escape_byte ∷ codes "*b0W")  -- row of none
    ∷ (set_resolution 600, escape_byte ∷ codes "*t600R")  -- numbers of several digits
    ∷ (set_height 77405, escape_byte ∷ codes "*r77405T")  -- many rows
    ∷ (transfer_command 9676, escape_byte ∷ codes "*b9676W")  -- many bytes
    ∷ [])
unfolding digits
pcl = refl

-- resolutions
resolutions : Agree (
    (takes_resolution Pcl 75, true)  -- least resolution
    ∷ (takes_resolution Pcl 600, true)  -- greatest resolution
    ∷ (takes_resolution Pcl 127, false)  -- between resolutions
    ∷ (takes_resolution Pcl 1200, false)  -- past the resolutions
    ∷ (takes_resolution Marks 127, true)  -- any in marks
    ∷ (takes_resolution Ppm 1200, true)  -- any in colour
    ∷ [])
resolutions = refl
