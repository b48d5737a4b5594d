-- What the delivery of an output does.
use Rattle.std.specs.Prelude.{◌≡◌, ◌⊎◌, ◌∷◌, ℕ, Bool, true, List, Option}
use Rattle.output_files.specs.declared.file_id.FileId.{FileId}
use Rattle.delivery.specs.declared.desk.Found.{Found}
use Rattle.delivery.specs.declared.ending.Ending.{Ending}
use Rattle.delivery.specs.declared.ending.Ending.TheVariants.{Whole, Kept, Lost}
use Rattle.delivery.specs.Deeds.{AreRemarks, Deed, Has, Item, WereDone, status_after}
use Rattle.delivery.specs.Care.{AreAllowed, AreFollowed, HasDeviceAt, HasNoPlotAt, MayReplace, SaysNext, id_found, is_device, is_open_file, output_name, part_of}

-- some deeds were done, each of which is allowed if what they need was done before, and each failure of which is said; the
-- status is the greatest of what was said, and if it is 0, the deeds are whole
pub record Delivers {D : Type 0} (does : D → Deed → D → Type 0) (plots : Option FileId → Bool) (own : Option (List ℕ))
    (before after : D) (status : ℕ) (Needs Ends IsWhole : List Deed → Type 0) : Type 0 where
  pub deeds : List Deed
  pub done : WereDone does before deeds after
  pub allowed : (earlier : List Deed) → Needs earlier → AreAllowed plots own earlier deeds
  pub followed : AreFollowed deeds
  pub status_is : status ≡ status_after deeds
  pub ends : Ends deeds
  pub whole : status ≡ 0 → IsWhole deeds

-- of any deeds
abbrev pub Anything : List Deed → Type 0
Anything deeds = Unit

-- of no deeds
abbrev pub Never : List Deed → Type 0
Never deeds = ⊥

-- a file got this name
abbrev pub HasName : List ℕ → List Deed → Type 0
HasName path deeds = Has deeds (Deed.renamed (part_of path) path true)

-- all of this was written, and the file got this name
abbrev pub IsNamed : Item → List ℕ → List Deed → Type 0
IsNamed item path deeds = HasName path deeds × Has deeds (Deed.wrote (part_of path) item Whole)

-- the system was told to give a file this name
abbrev pub IsToBeNamed : List ℕ → List ℕ → List Deed → Type 0
IsToBeNamed part path deeds = (done : Bool) × Has deeds (Deed.renamed part path done)

-- a file may be made here, and get this name
abbrev pub MayBeMade : (Option FileId → Bool) → Option (List ℕ) → List ℕ → List ℕ → List Deed → Type 0
MayBeMade plots own part path earlier = HasNoPlotAt plots earlier part × MayReplace plots own path earlier

-- a file was made, which may get this name
abbrev pub IsMade : (Option FileId → Bool) → Option (List ℕ) → List ℕ → List ℕ → List Deed → Type 0
IsMade plots own part path earlier = Has earlier (Deed.created part true) × MayBeMade plots own part path earlier

-- it was written whole
abbrev pub IsWritten : (Option FileId → Bool) → Option (List ℕ) → List ℕ → List ℕ → List Deed → Type 0
IsWritten plots own part path earlier = ((item : Item) × Has earlier (Deed.wrote part item Whole)) × MayBeMade plots own part path earlier

-- it is stored
abbrev pub IsStored : (Option FileId → Bool) → Option (List ℕ) → List ℕ → List ℕ → List Deed → Type 0
IsStored plots own part path earlier = Has earlier (Deed.synced part true) × MayReplace plots own path earlier

-- why a writing failed is said, and what is of no use is removed
abbrev pub IsLeft : Ending → List ℕ → List Deed → Type 0
IsLeft Whole part deeds = ⊥
IsLeft (Kept status) part deeds = SaysNext deeds
IsLeft (Lost status) part deeds = SaysNext deeds × Has deeds (Deed.removed part)

-- this status was said, and nothing else was done
abbrev pub SaysOnce : {D : Type 0} → (D → Deed → D → Type 0) → D → ℕ → D → Type 0
SaysOnce does before status after = (text : Option (List ℕ)) × does before (Deed.refused status text) after

-- all of this is under its name, or was written into what had it
abbrev pub IsPut : Item → List ℕ → List Deed → Type 0
IsPut item path deeds = IsNamed item path deeds ⊎ Has deeds (Deed.wrote path item Whole)

-- all of this was written to standard output
abbrev pub IsShown : Item → List Deed → Type 0
IsShown item deeds = Has deeds (Deed.wrote output_name item Whole)

-- a look at a path found this file
abbrev pub LooksAt : {D : Type 0} → (D → Deed → D → Type 0) → D → List ℕ → Option FileId → D → Type 0
LooksAt does before path id after = (found : Option Found) × does before (Deed.looked path found) after × (id ≡ id_found found)

-- a look at a path found whether it is that of a device
abbrev pub LooksForDevice : {D : Type 0} → (D → Deed → D → Type 0) → D → List ℕ → Bool → D → Type 0
LooksForDevice does before path is after = (found : Option Found) × does before (Deed.looked path found) after × (is ≡ is_device found)

-- what has this path may be written as it is
abbrev pub IsReachable : List ℕ → List Deed → Type 0
IsReachable path earlier = (is_open_file path ≡ true) ⊎ HasDeviceAt earlier path

-- this status was said first, and after it there were only remarks
abbrev pub SaysFirst : {D : Type 0} → (D → Deed → D → Type 0) → D → ℕ → D → Type 0
SaysFirst does before status after =
    (text : Option (List ℕ)) × (deeds : List Deed) × WereDone does before (Deed.refused status text ∷ deeds) after × AreRemarks deeds
