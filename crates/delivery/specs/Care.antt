-- What a run may do to files after what it did, and what must follow.
use Rattle.std.specs.Prelude.{◌≡◌, ◌⊎◌, ◌<◌, ◌++◌, ◌∷◌, ◌||◌, ℕ, Bool, true, false, List, [], Option, None, Some, codes, nat_eq, not, option_map}
use Rattle.std.specs.List.{starts_with}
use Rattle.std.specs.Str.{bytes_eq}
use Rattle.output_files.specs.declared.file_id.FileId.{FileId}
use Rattle.delivery.specs.declared.desk.Found.{Found}
use Rattle.delivery.specs.declared.desk.Kind.{Kind}
use Rattle.delivery.specs.declared.desk.Kind.TheVariants.{File}
use Rattle.delivery.specs.declared.ending.Ending.TheVariants.{Whole, Kept, Lost}
use Rattle.delivery.specs.Deeds.{Deed, Has, Item}

-- the name of a file until it is whole
abbrev pub part_of : List ℕ → List ℕ
part_of path = path ++ codes ".part"

-- the name of standard output, whatever it leads to
abbrev pub output_name : List ℕ
output_name = codes "/dev/stdout"

-- the file that a look found
abbrev pub id_found : Option Found → Option FileId
id_found found = option_map (λ f. f.id) found

-- a look at this path found no plot
pub record HasNoPlotAt (plots : Option FileId → Bool) (before : List Deed) (path : List ℕ) : Type 0 where
  pub found : Option Found
  pub looked : Has before (Deed.looked path found)
  pub apart : plots (id_found found) ≡ false

-- a name of the system for what is open already
abbrev pub is_open_file : List ℕ → Bool
is_open_file path =
    bytes_eq path (codes "/dev/stderr") || (starts_with nat_eq path (codes "/dev/fd/") || starts_with nat_eq path (codes "/proc/self/fd/"))

-- a regular file
abbrev pub is_file : Kind → Bool
is_file File = true
is_file _ = false

-- what was found is no regular file
abbrev pub is_device : Option Found → Bool
is_device None = false
is_device (Some found) = not (is_file found.kind)

-- a look at this path found that
pub record HasDeviceAt (before : List Deed) (path : List ℕ) : Type 0 where
  pub found : Option Found
  pub looked : Has before (Deed.looked path found)
  pub no_file : is_device found ≡ true

-- what has this name may be replaced: a look found no plot there, or it is the name that the user gave the output
abbrev pub MayReplace : (Option FileId → Bool) → Option (List ℕ) → List ℕ → List Deed → Type 0
MayReplace plots own name before = (own ≡ Some name) ⊎ HasNoPlotAt plots before name

-- what has this path can be written: it was made or reached, or it is standard output
abbrev pub IsOpenAt : List ℕ → List Deed → Type 0
IsOpenAt path before = (path ≡ output_name) ⊎ (Has before (Deed.created path true) ⊎ Has before (Deed.reached path true))

-- a file is made or removed only if a look found no plot there; it is written only if it was made, stored only if it was
-- written whole, and named only if it was stored, by the name that it was made for, if what has that may be replaced; what was
-- there is written as it is only if it is open already, or no regular file
abbrev pub IsAllowed : (Option FileId → Bool) → Option (List ℕ) → List Deed → Deed → Type 0
IsAllowed plots own before (Deed.removed path) = HasNoPlotAt plots before path
IsAllowed plots own before (Deed.created path done) = HasNoPlotAt plots before path
IsAllowed plots own before (Deed.wrote path item ending) = IsOpenAt path before
IsAllowed plots own before (Deed.synced path done) = (item : Item) × Has before (Deed.wrote path item Whole)
IsAllowed plots own before (Deed.renamed path name done) = Has before (Deed.synced path true) × (path ≡ part_of name) × MayReplace plots own name before
IsAllowed plots own before (Deed.reached path done) = (is_open_file path ≡ true) ⊎ HasDeviceAt before path
IsAllowed plots own before deed = Unit

-- each deed is allowed after those before it
abbrev pub AreAllowed : (Option FileId → Bool) → Option (List ℕ) → List Deed → List Deed → Type 0
AreAllowed plots own before [] = Unit
AreAllowed plots own before (deed ∷ deeds) = IsAllowed plots own before deed × AreAllowed plots own (before ++ deed ∷ []) deeds

-- what went wrong is said next
abbrev pub SaysNext : List Deed → Type 0
SaysNext (Deed.refused status text ∷ deeds) = 0 < status
SaysNext deeds = ⊥

-- a file of this path has an end among these deeds: it gets its name, or the system fails to give it; it is removed; or it
-- stays, since what was written is of use
pub data IsSettled (path : List ℕ) (after : List Deed) : Type 0 where
  named : (name : List ℕ) (done : Bool) → Has after (Deed.renamed path name done) → IsSettled path after
  gone : Has after (Deed.removed path) → IsSettled path after
  kept : (item : Item) (status : ℕ) → Has after (Deed.wrote path item (Kept status)) → IsSettled path after
  unstored : Has after (Deed.synced path false) → IsSettled path after

-- what must follow a deed: of a failure that it is said, and of a file that was made that it has an end
abbrev pub IsFollowed : Deed → List Deed → Type 0
IsFollowed (Deed.opened path false) after = SaysNext after
IsFollowed (Deed.created path false) after = SaysNext after
IsFollowed (Deed.created path true) after = IsSettled path after
IsFollowed (Deed.reached path false) after = SaysNext after
IsFollowed (Deed.wrote path item (Kept status)) after = SaysNext after
IsFollowed (Deed.wrote path item (Lost status)) after = SaysNext after
IsFollowed (Deed.synced path false) after = SaysNext after
IsFollowed (Deed.renamed path name false) after = SaysNext after
IsFollowed deed after = Unit

abbrev pub AreFollowed : List Deed → Type 0
AreFollowed [] = Unit
AreFollowed (deed ∷ deeds) = IsFollowed deed deeds × AreFollowed deeds
