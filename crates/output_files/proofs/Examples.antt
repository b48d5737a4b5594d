-- Names of files, and files that are asked for one after another.
use Rattle.std.proofs.Common.{◌≡◌, refl, ℕ, List, [], ◌∷◌, true, false, Option, Some, None, map}
use Rattle.std.specs.Prelude.{codes}
use Rattle.std.specs.Fmt.{digits}
use Rattle.std.specs.Option.{option_map_or}
use Rattle.std.specs.Path.{path_file_stem, path_file_name, split_last_component, trim_trailing, rsplit_once}
use Rattle.output_files.specs.declared.file_id.FileId.{FileId}
use Rattle.output_files.specs.declared.claims.Claim.TheVariants.{Taken}
use Rattle.output_files.specs.Names.{file_name, sheet_suffix}
use Rattle.output_files.specs.Claims.{claim_of, is_same_file}
use Rattle.output_files.specs.Written.{Asked, written}

-- a table of examples: each input has its output
abbrev Table : {X Y : Type 0} → (X → Y) → List (X × Y) → Type 0
Table f rows = map (λ it. f it.0) rows ≡ map (λ it. it.1) rows

-- a table of examples: each value agrees with the one beside it
abbrev Agree : {X : Type 0} → List (X × X) → Type 0
Agree rows = map (λ it. it.0) rows ≡ map (λ it. it.1) rows

-- the names of files
names : Agree (
    (file_name (codes "out") (codes "a.plt") 1 1 (codes "png"), Some (codes "out/a.png"))  -- plain
    ∷ (file_name (codes "out/") (codes "deep/a.b.plt") 1 0 (codes "report"), Some (codes "out/a.b.report"))  -- with a slash
    ∷ (file_name (codes "/") (codes ".plt") 1 1 (codes "pbm"), Some (codes "/.plt.pbm"))  -- hidden
    ∷ (file_name (codes "out") (codes "deep/..") 1 1 (codes "png"), None)  -- no name
    ∷ (file_name (codes "out") (codes "a.plt") 2 2 (codes "png"), Some (codes "out/a-2.png"))  -- of two sheets
    ∷ (file_name (codes ".") (codes "a") 7 100 (codes "ppm"), Some (codes "./a-007.ppm"))  -- of a hundred sheets
    ∷ [])
unfolding path_file_stem path_file_name split_last_component trim_trailing rsplit_once digits
names = refl

-- what sheets add to names
suffixes : Agree (
    (sheet_suffix 9 9, codes "-9")
    ∷ (sheet_suffix 9 10, codes "-09")
    ∷ (sheet_suffix 10 10, codes "-10")
    ∷ [])
unfolding digits
suffixes = refl

-- the first of two reasons is given
claimed_plot : claim_of true true ≡ Taken
claimed_plot = refl

abbrev file : ℕ → ℕ → FileId
file device number = record { device = device; number = number }

-- a number is one file's only on one device
other_device : is_same_file (file 1 7) (file 2 7) ≡ false
other_device = refl

other_number : is_same_file (file 1 7) (file 1 8) ≡ false
other_number = refl

abbrev asked : List ℕ → Option FileId → Asked
asked path found = record { path = path; found = found }

-- the only plot is file 7 of device 1, and nothing was asked for
abbrev written_here : List Asked → List Asked
written_here files = written (λ _. false) (λ found. option_map_or (is_same_file (file 1 7)) found false) files

-- which files are written of those that are asked for
files_written : Table written_here (
    (asked (codes "a") None ∷ asked (codes "b") (Some (file 1 8)) ∷ [], asked (codes "a") None ∷ asked (codes "b") (Some (file 1 8)) ∷ [])  -- apart
    ∷ (asked (codes "a") None ∷ asked (codes "b") None ∷ asked (codes "a") None ∷ [], asked (codes "a") None ∷ asked (codes "b") None ∷ [])  -- twice
    ∷ (asked (codes "a") (Some (file 1 7)) ∷ asked (codes "a") None ∷ [], [])  -- a path that is refused is not written later either, when its file is no plot
    ∷ [])
files_written = refl
