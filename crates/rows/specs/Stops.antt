-- Where the writing of a picture stopped, and how it goes on.
use Rattle.std.specs.Prelude.{◌≡◌, ℕ, ◌+◌, ◌-◌, ◌<◌, ◌≤◌, List, ◌++◌, length, nat_eq, if◌then◌else◌, take}
use Rattle.rows.specs.Pictures.{head_if, picture_of, rows_bytes}

-- how many bytes come before a row
abbrev pub bytes_before : List ℕ → (ℕ → List ℕ) → ℕ → ℕ → ℕ
bytes_before head row first r = length (head_if head first) + length (rows_bytes row first (r - first))

-- after n bytes of the picture: the first row that ends past them, and the bytes to the end of the row before it
pub record IsStoppedAt (head : List ℕ) (row : ℕ → List ℕ) (rows first n stop whole : ℕ) : Type 0 where
  pub from : first ≤ stop
  pub to : stop ≤ rows
  pub passed : (q : ℕ) → first ≤ q → q < stop → bytes_before head row first (q + 1) ≤ n
  pub past : stop < rows → n < bytes_before head row first (stop + 1)
  pub whole_rows : whole ≡ (if nat_eq stop first then 0 else bytes_before head row first stop)

-- going on: the whole rows and the picture from the next row on are the picture
abbrev pub GoesOn : List ℕ → (ℕ → List ℕ) → List ℕ → ℕ → ℕ → ℕ → ℕ → Type 0
GoesOn head row foot rows first stop whole =
    take whole (picture_of head row foot rows first) ++ picture_of head row foot rows stop
    ≡ picture_of head row foot rows first
