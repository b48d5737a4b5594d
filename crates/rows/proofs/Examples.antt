-- Rows of pixels in the layouts of a PNG, what a watcher is told, and strips of pictures.
use Rattle.std.proofs.Common.{◌≡◌, ℕ, List, [], ◌∷◌, ◌++◌, Option, None, Some, map, refl, arith}
use Rattle.png.specs.declared.header.Layout.TheVariants.{Grey, Rgb}
use Rattle.rows.specs.PixelRows.{place_of, number_in, layout_bytes}
use Rattle.rows.specs.Pictures.{end_of, strip_of}
use Rattle.rows.specs.Watching.{WasTold}

abbrev white : List ℕ
white = 255 ∷ 255 ∷ 255 ∷ []

abbrev red : List ℕ
red = 255 ∷ 0 ∷ 0 ∷ []

-- the first place counts
first_place : place_of (white ∷ red ∷ red ∷ []) red ≡ 1
unfolding place_of
first_place = refl

-- a colour that is in no place has the number of the first
no_place : number_in (white ∷ []) red ≡ 0
unfolding place_of
no_place = refl

shades : layout_bytes Grey (white ∷ (7 ∷ 7 ∷ 7 ∷ []) ∷ []) ≡ 255 ∷ 7 ∷ []
shades = refl

channels : layout_bytes Rgb (red ∷ (1 ∷ 2 ∷ 3 ∷ []) ∷ []) ≡ 255 ∷ 0 ∷ 0 ∷ 1 ∷ 2 ∷ 3 ∷ []
channels = refl

-- a watcher that keeps the numbers that it is told
abbrev keeps : List (ℕ × ℕ) → ℕ → ℕ → List (ℕ × ℕ) → Type 0
keeps before done rows after = after ≡ before ++ ((done, rows) ∷ [])

-- told of no rows
none : WasTold keeps 5 [] 0 []
none = WasTold.nothing

-- told of 2 rows of 5, and then of all
two_and_all : WasTold keeps 5 [] 5 ((2, 5) ∷ (5, 5) ∷ [])
two_and_all =
    let two : WasTold keeps 5 [] 2 ((2, 5) ∷ []) = WasTold.more 2 ((2, 5) ∷ []) none (omega arith) (omega arith) refl in
    WasTold.more 5 ((2, 5) ∷ (5, 5) ∷ []) two (omega arith) (omega arith) refl

-- where strips of a picture of 8 rows end: at most so many rows from one on
ends : map (λ (it : Option ℕ × ℕ). end_of it.0 it.1 8) (
    (None, 0)  -- all rows
    ∷ (None, 5)  -- all that are left
    ∷ (Some 1, 0)  -- the first row
    ∷ (Some 3, 4)  -- rows 4 to 6
    ∷ (Some 3, 5)  -- the last three rows
    ∷ (Some 400000, 5)  -- more than are left
    ∷ (Some 1, 8)  -- after the last row
    ∷ []) ≡ 8 ∷ 8 ∷ 1 ∷ 7 ∷ 8 ∷ 8 ∷ 8 ∷ []
ends = refl

-- strips of a picture of 3 rows, each of a byte: its number. The head is 100, and the foot 200
strips : map (λ (it : ℕ × ℕ). strip_of (100 ∷ []) (λ row. row ∷ []) (200 ∷ []) 3 it.0 it.1) (
    (0, 3)  -- the whole picture
    ∷ (0, 2)  -- without the last row
    ∷ (1, 2)  -- a row in the middle
    ∷ (1, 3)  -- to the last row
    ∷ (3, 3)  -- after the last row
    ∷ []) ≡ (100 ∷ 0 ∷ 1 ∷ 2 ∷ 200 ∷ []) ∷ (100 ∷ 0 ∷ 1 ∷ []) ∷ (1 ∷ []) ∷ (1 ∷ 2 ∷ 200 ∷ []) ∷ (200 ∷ []) ∷ []
strips = refl
