-- What is delivered into a folder.
use Rattle.std.specs.Prelude.{◌≡◌, ◌⊎◌, ◌<◌, ◌+◌, ℕ, Bool, true, false, List, Option, None, Some, Result, Ok, Err}
use Rattle.std.specs.List.{AllByRecursion}
use Rattle.std.specs.Option.{option_map_or}
use Rattle.output_files.specs.declared.file_id.FileId.{FileId}
use Rattle.output_files.specs.declared.claims.Claims.{Claims}
use Rattle.output_files.specs.declared.claims.Claim.{Claim}
use Rattle.output_files.specs.declared.claims.Claim.TheVariants.{Free}
use Rattle.output_files.specs.Claims.{is_plot}
use Rattle.output_files.specs.Names.{file_name}
use Rattle.delivery.specs.declared.desk.Found.{Found}
use Rattle.delivery.specs.declared.desk.Kind.{Kind}
use Rattle.delivery.specs.declared.desk.Kind.TheVariants.{Folder}
use Rattle.delivery.specs.Deeds.{Deed, Has, Item}
use Rattle.delivery.specs.Care.{HasNoPlotAt}
use Rattle.delivery.specs.Deliveries.{IsPut}

-- these are the plots that are claimed
abbrev pub AreThePlots : Claims → (Option FileId → Bool) → Type 0
AreThePlots claims plots = (found : Option FileId) → is_plot claims found ≡ plots found

-- a file that was asked for has no plot, if the claim is free
abbrev pub IsClear : (Option FileId → Bool) → Claim → List ℕ → List Deed → Type 0
IsClear plots claim path earlier = claim ≡ Free → HasNoPlotAt plots earlier path

-- an output has its file, if it has a path
abbrev pub IsPutAt : Item → Option (List ℕ) → List Deed → Type 0
IsPutAt item None deeds = ⊥
IsPutAt item (Some path) deeds = IsPut item path deeds

-- this is that sheet of the plot of this file, or all of the plot, if it has only one sheet
abbrev pub IsSheet : List ℕ → ℕ → ℕ → Item → Type 0
IsSheet file number count item = (item ≡ record { file = file; sheet = number }) ⊎ ((count ≡ 1) × (item ≡ record { file = file; sheet = 0 }))

-- a sheet of so many has its file
abbrev pub IsSheetPut : List ℕ → List ℕ → List ℕ → ℕ → ℕ → List Deed → Type 0
IsSheetPut folder file extension number count deeds =
    (item : Item) × IsSheet file number count item × IsPutAt item (file_name folder file number count extension) deeds

-- the sheets up to this one have theirs
abbrev pub AreSheetsPut : List ℕ → List ℕ → List ℕ → ℕ → ℕ → List Deed → Type 0
AreSheetsPut folder file extension to count deeds = (n : ℕ) → n < to → IsSheetPut folder file extension (n + 1) count deeds

-- the output of a plot has its files: one, or one for each of its sheets
abbrev pub IsOutputPut : List ℕ → List ℕ → List ℕ → List Deed → Type 0
IsOutputPut folder file extension deeds = (count : ℕ) × (0 < count) × AreSheetsPut folder file extension count count deeds

-- a plot was opened
abbrev pub IsOpened : List ℕ → List Deed → Type 0
IsOpened file deeds = Has deeds (Deed.opened file true)

-- a plot was opened, and its output has its files
abbrev pub IsPlotPut : List ℕ → List ℕ → List ℕ → List Deed → Type 0
IsPlotPut folder extension file deeds = IsOpened file deeds × IsOutputPut folder file extension deeds

-- the exit status of what was refused
abbrev pub refused_status : {X : Type 0} → Result X ℕ → ℕ
refused_status (Ok x) = 0
refused_status (Err status) = status

-- the same of each of some plots
abbrev pub ArePlotsPut : List ℕ → List ℕ → List (List ℕ) → List Deed → Type 0
ArePlotsPut folder extension files deeds = AllByRecursion (λ file. IsPlotPut folder extension file deeds) files

-- a look at a path found whether it is that of a folder
abbrev pub is_folder : Kind → Bool
is_folder Folder = true
is_folder _ = false

abbrev pub LooksForFolder : {D : Type 0} → (D → Deed → D → Type 0) → D → List ℕ → Bool → D → Type 0
LooksForFolder does before path is after =
    (found : Option Found) × does before (Deed.looked path found) after × (is ≡ option_map_or (λ f. is_folder f.kind) found false)
