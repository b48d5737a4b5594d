-- The path of the file that a plot or one of its sheets is written to.
use Rattle.std.specs.Prelude.{ℕ, ◌-◌, ◌++◌, ◌∷◌, ◌==◌, List, [], Option, length, codes, decimal, option_map, slice_index, if◌then◌else◌, nat_lt}
use Rattle.std.specs.List.{repeat}
use Rattle.std.specs.Path.{path_file_stem, slash, dot}

-- the folder, with a slash at its end
abbrev pub with_slash : List ℕ → List ℕ
with_slash folder = if (slice_index folder (length folder - 1) == slash) then folder else folder ++ slash ∷ []

-- the number of a sheet, with zeros before it: as many digits as the number of sheets has
abbrev pub sheet_number : ℕ → ℕ → List ℕ
sheet_number sheet sheets = repeat (length (decimal sheets) - length (decimal sheet)) (codes "0") ++ decimal sheet

-- what follows the name: nothing if there is one sheet or none
abbrev pub sheet_suffix : ℕ → ℕ → List ℕ
sheet_suffix sheet sheets = if (nat_lt sheets 2) then [] else codes "-" ++ sheet_number sheet sheets

-- in this folder; the name is that of the plot's file without its extension, if its path ends with a name
abbrev pub file_name : List ℕ → List ℕ → ℕ → ℕ → List ℕ → Option (List ℕ)
file_name folder plot sheet sheets extension =
    option_map (λ stem. with_slash folder ++ stem ++ sheet_suffix sheet sheets ++ dot ∷ extension) (path_file_stem plot)
