-- The plots of a run are looked for before anything else is done.
use Rattle.std.specs.Prelude.{◌≡◌, ◌⊎◌, ◌++◌, ◌∷◌, Bool, true, ℕ, List, [], Option, None, Some}
use Rattle.output_files.specs.declared.file_id.FileId.{FileId}
use Rattle.delivery.specs.Care.{id_found}
use Rattle.delivery.specs.Deeds.{Deed, WereDone}

-- the file that was found, if there is one, is a plot
abbrev pub IsPlot : (Option FileId → Bool) → Option FileId → Type 0
IsPlot plots None = Unit
IsPlot plots (Some file) = plots (Some file) ≡ true

-- these paths were looked at, one after another, and the files that were found are plots
abbrev pub ArePlotsAt : (Option FileId → Bool) → List (List ℕ) → List Deed → Type 0
ArePlotsAt plots [] [] = Unit
ArePlotsAt plots (file ∷ files) (Deed.looked path found ∷ deeds) = (path ≡ file) × IsPlot plots (id_found found) × ArePlotsAt plots files deeds
ArePlotsAt plots files deeds = ⊥

-- the desk was asked for these plots
abbrev pub LooksForPlots : {D : Type 0} → (D → Deed → D → Type 0) → D → (Option FileId → Bool) → List (List ℕ) → D → Type 0
LooksForPlots does before plots files after = (deeds : List Deed) × WereDone does before deeds after × ArePlotsAt plots files deeds

-- nothing was done to any file
abbrev pub AreHarmless : List Deed → Type 0
AreHarmless [] = Unit
AreHarmless (Deed.looked path found ∷ deeds) = AreHarmless deeds
AreHarmless (Deed.refused status text ∷ deeds) = AreHarmless deeds
AreHarmless (Deed.remarked text ∷ deeds) = AreHarmless deeds
AreHarmless (deed ∷ deeds) = ⊥

-- nothing but looks
abbrev pub AreLooks : List Deed → Type 0
AreLooks [] = Unit
AreLooks (Deed.looked path found ∷ deeds) = AreLooks deeds
AreLooks (deed ∷ deeds) = ⊥

abbrev pub Looks : {D : Type 0} → (D → Deed → D → Type 0) → D → D → Type 0
Looks does before after = (deeds : List Deed) × WereDone does before deeds after × AreLooks deeds

-- the plots were looked for before anything else was done, or nothing was done to any file
abbrev pub IsCareful : (Option FileId → Bool) → List (List ℕ) → List Deed → Type 0
IsCareful plots files deeds =
    ((looks rest : List Deed) × (deeds ≡ looks ++ rest) × ArePlotsAt plots files looks) ⊎ AreHarmless deeds
