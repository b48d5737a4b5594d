-- What a run does with files, in order.
use Rattle.std.specs.Prelude.{◌≡◌, ◌⊎◌, ◌<◌, ℕ, Bool, List, [], ◌∷◌, Option, max}
use Rattle.delivery.specs.declared.desk.Found.{Found}
use Rattle.delivery.specs.declared.ending.Ending.{Ending}
use Rattle.delivery.specs.declared.ending.Ending.TheVariants.{Whole, Kept, Lost}

-- what is written: what is drawn of the plot of this file, or one of its sheets, which count from 1
pub record Item : Type 0 where
  pub file : List ℕ
  pub sheet : ℕ

-- a deed, and what came of it: whether it was done, what was found, how a writing ended, and what was said
pub data Deed : Type 0 where
  looked : (path : List ℕ) → Option Found → Deed
  opened : (path : List ℕ) → Bool → Deed
  created : (path : List ℕ) → Bool → Deed
  reached : (path : List ℕ) → Bool → Deed
  wrote : (path : List ℕ) → Item → Ending → Deed
  synced : (path : List ℕ) → Bool → Deed
  renamed : (path name : List ℕ) → Bool → Deed
  removed : (path : List ℕ) → Deed
  refused : (status : ℕ) → Option (List ℕ) → Deed
  remarked : Option (List ℕ) → Deed

-- these deeds were done, one after another, and made the desk what it is
abbrev pub WereDone : {D : Type 0} → (D → Deed → D → Type 0) → D → List Deed → D → Type 0
WereDone does before [] after = after ≡ before
WereDone {D} does before (deed ∷ deeds) after = (between : D) × does before deed between × WereDone does between deeds after

-- this deed is among them
abbrev pub Has : List Deed → Deed → Type 0
Has [] deed = ⊥
Has (d ∷ ds) deed = (d ≡ deed) ⊎ Has ds deed

-- the exit status: the greatest of those that were said, or 0 if nothing went wrong
abbrev pub status_after : List Deed → ℕ
status_after [] = 0
status_after (Deed.refused status text ∷ deeds) = max status (status_after deeds)
status_after (deed ∷ deeds) = status_after deeds

-- nothing but remarks
abbrev pub AreRemarks : List Deed → Type 0
AreRemarks [] = Unit
AreRemarks (Deed.remarked text ∷ deeds) = AreRemarks deeds
AreRemarks (deed ∷ deeds) = ⊥

-- why a writing failed is said once, with its status; of one that did not, there are only remarks
abbrev pub IsSaidOf : Ending → List Deed → Type 0
IsSaidOf Whole deeds = AreRemarks deeds
IsSaidOf (Kept status) deeds = (0 < status) × (text : Option (List ℕ)) × (deeds ≡ Deed.refused status text ∷ [])
IsSaidOf (Lost status) deeds = (0 < status) × (text : Option (List ℕ)) × (deeds ≡ Deed.refused status text ∷ [])

-- how a writing ended was said
abbrev pub Says : {D : Type 0} → (D → Deed → D → Type 0) → D → Ending → D → Type 0
Says does before ending after = (deeds : List Deed) × WereDone does before deeds after × IsSaidOf ending deeds

-- a writing failed
abbrev pub IsFailure : Ending → Type 0
IsFailure Whole = ⊥
IsFailure (Kept status) = Unit
IsFailure (Lost status) = Unit

-- the exit status of a writing
abbrev pub status_of : Ending → ℕ
status_of Whole = 0
status_of (Kept status) = status
status_of (Lost status) = status

-- some remarks were made, and nothing else
abbrev pub Remarks : {D : Type 0} → (D → Deed → D → Type 0) → D → D → Type 0
Remarks does before after = Says does before Whole after
