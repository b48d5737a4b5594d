-- What a run may not write: a file that is a plot, and a path that was asked for before.
use Rattle.std.specs.Prelude.{ℕ, Bool, false, ◌==◌, ◌&&◌, List, Option, if◌then◌else◌}
use Rattle.std.specs.List.{list_any}
use Rattle.std.specs.Option.{option_map_or}
use Rattle.std.specs.BTreeSet.{contains_text}
use Rattle.output_files.specs.declared.file_id.FileId.{FileId}
use Rattle.output_files.specs.declared.claims.Claims.{Claims}
use Rattle.output_files.specs.declared.claims.Claim.{Claim}
use Rattle.output_files.specs.declared.claims.Claim.TheVariants.{Free, Taken, Plot}

-- the same device, and the same number on it
abbrev pub is_same_file : FileId → FileId → Bool
is_same_file a b = a.device == b.device && a.number == b.number

-- this file is one of the plots
abbrev pub has_plot : Claims → FileId → Bool
has_plot claims file = list_any (is_same_file file) claims.plots.keys

-- there is a file, and it is one of the plots
abbrev pub is_plot : Claims → Option FileId → Bool
is_plot claims found = option_map_or (has_plot claims) found false

-- this path was asked for
abbrev pub is_claimed : Claims → List ℕ → Bool
is_claimed claims path = contains_text claims.paths path

-- by whether the path was asked for before, and whether the file that has it is a plot
abbrev pub claim_of : Bool → Bool → Claim
claim_of claimed plot = if claimed then Taken else (if plot then Plot else Free)
