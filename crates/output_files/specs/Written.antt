-- Files that are asked for one after another, and which of them are written.
use Rattle.std.specs.Prelude.{ℕ, Bool, true, false, ◌||◌, List, [], ◌∷◌, Option, if◌then◌else◌}
use Rattle.std.specs.Str.{bytes_eq}
use Rattle.output_files.specs.declared.file_id.FileId.{FileId}
use Rattle.output_files.specs.declared.claims.Claim.{Claim}
use Rattle.output_files.specs.declared.claims.Claim.TheVariants.{Free}
use Rattle.output_files.specs.Claims.{claim_of}

-- a file that is asked for: its path, and the file that has this path now, if there is one
pub record Asked : Type 0 where
  pub path : List ℕ
  pub found : Option FileId

abbrev pub is_free : Claim → Bool
is_free Free = true
is_free _ = false

-- those that are written, where `claimed` tells the paths that were asked for before, and `plot` the files that are plots
abbrev pub written : (List ℕ → Bool) → (Option FileId → Bool) → List Asked → List Asked
written claimed plot [] = []
written claimed plot (file ∷ files) =
    let later = written (λ path. bytes_eq file.path path || claimed path) plot files in
    if (is_free (claim_of (claimed file.path) (plot file.found))) then file ∷ later else later
