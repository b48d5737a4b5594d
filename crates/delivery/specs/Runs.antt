-- What a run does with all its plots.
use Rattle.std.specs.Prelude.{◌∷◌, ℕ, Bool, true, false, List, [], Option, None, Some, codes, unwrap_or}
use Rattle.output_files.specs.declared.file_id.FileId.{FileId}
use Rattle.delivery.specs.declared.desk.Kind.{Kind}
use Rattle.delivery.specs.declared.desk.Kind.TheVariants.{Folder}
use Rattle.delivery.specs.Deeds.{Deed, Item}
use Rattle.delivery.specs.Deliveries.{Anything, Delivers, IsPut, IsShown}
use Rattle.delivery.specs.Folders.{ArePlotsPut, IsOpened}
use Rattle.delivery.specs.Looks.{IsCareful}

-- the name of standard input, whatever it leads to
abbrev pub input_name : List ℕ
input_name = codes "/dev/stdin"

-- the plots: what standard input reads, if no file is named
abbrev pub plots_of : List (List ℕ) → List (List ℕ)
plots_of [] = input_name ∷ []
plots_of files = files

-- why the output of plots, or of standard input, cannot go into what is found
abbrev pub why_not : Kind → Bool → Option (List ℕ)
why_not Folder true = Some (codes "the plot on standard input has no name")
why_not Folder false = None
why_not _ is_input = Some (codes "it is not a folder")

-- the file was opened, if there is one
abbrev pub IsInputOpened : Option (List ℕ) → List Deed → Type 0
IsInputOpened None deeds = Unit
IsInputOpened (Some file) deeds = IsOpened file deeds

-- all of the plot of this file
abbrev pub plot_item : Option (List ℕ) → Item
plot_item file = record { file = unwrap_or file []; sheet = 0 }

-- the output has its name, or is on standard output
abbrev pub IsOutputDone : Item → Option (List ℕ) → List Deed → Type 0
IsOutputDone item None deeds = IsShown item deeds
IsOutputDone item (Some path) deeds = IsPut item path deeds

abbrev pub IsSingleDone : Option (List ℕ) → Option (List ℕ) → List Deed → Type 0
IsSingleDone file path deeds = IsInputOpened file deeds × IsOutputDone (plot_item file) path deeds

-- the plot was looked for first; after that each deed was allowed, and each failure was said; the status is the greatest of
-- what was said, and 0 only if the plot was opened and its output has its name, or is on standard output
abbrev pub DeliversSingle : {D : Type 0} → (D → Deed → D → Type 0) → Option (List ℕ) → Option (List ℕ) → D → D → ℕ → Type 0
DeliversSingle does file path before after status =
    (plots : Option FileId → Bool) × Delivers does plots path before after status Anything (IsCareful plots (unwrap_or file input_name ∷ []))
    (IsSingleDone file path)

-- the same of each of some plots, whose outputs have their names in a folder
abbrev pub DeliversAll : {D : Type 0} → (D → Deed → D → Type 0) → List (List ℕ) → List ℕ → List ℕ → D → D → ℕ → Type 0
DeliversAll does files folder extension before after status =
    (plots : Option FileId → Bool) × Delivers does plots None before after status Anything (IsCareful plots (plots_of files))
    (ArePlotsPut folder extension files)
