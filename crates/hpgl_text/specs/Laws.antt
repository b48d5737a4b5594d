-- Laws: a plot has one cut in each profile, the same in both if they read it alike, and a polyline few entries. For
-- spelling see `Spellings.antt`.
use Rattle.std.specs.Prelude.{◌≡◌, ◌↔◌, ℕ, ◌+◌, ◌<◌, ◌≤◌, Bool, true, false, List, [], ◌∷◌, ◌++◌, length, All}
use Rattle.hpgl_text.specs.declared.mnemonic.Kind.{Kind}
use Rattle.hpgl_text.specs.declared.mnemonic.Kind.TheVariants.{LabelEnd, LabelEndWithMode, Moves, Parameters}
use Rattle.hpgl_text.specs.declared.profile.Profile.{Profile}
use Rattle.hpgl_text.specs.declared.profile.Profile.TheVariants.{Core, Full}
use Rattle.hpgl_text.specs.Mnemonics.{kind_of}
use Rattle.hpgl_text.specs.Shapes.{ItemShape, BodyShape, Terminator, DamagedMoves, move_instruction}
use Rattle.hpgl_text.specs.Cut.{item_at, next_place, silent_at, cut, cut_by}
use Rattle.hpgl_text.specs.Polylines.{entries}

-- The cut of a plot from a place on, after these items: nothing at the end, what follows what is silent, or an item and
-- what follows it.
pub data CutFrom (profile : Profile) (plot : List ℕ) : List ItemShape → ℕ → List ItemShape → Type 0 where
  ended : {before : List ItemShape} {at : ℕ} → length plot ≤ at → CutFrom profile plot before at []
  silent : {before : List ItemShape} {at : ℕ} {items : List ItemShape} → at < length plot → 0 < silent_at plot at
      → CutFrom profile plot before (at + silent_at plot at) items → CutFrom profile plot before at items
  found : {before : List ItemShape} {at : ℕ} {items : List ItemShape} → at < length plot → silent_at plot at ≡ 0
      → CutFrom profile plot (before ++ item_at (kind_of profile) plot before at ∷ [])
      (next_place (kind_of profile) plot before at) items
      → CutFrom profile plot before at (item_at (kind_of profile) plot before at ∷ items)

-- these items are the cut of the plot in the profile
abbrev pub IsCut : Profile → List ℕ → List ItemShape → Type 0
IsCut profile plot items = CutFrom profile plot [] 0 items

-- a plot has one cut in each profile
abbrev pub OneCut : Type 0
OneCut = (profile : Profile) (plot : List ℕ) (items : List ItemShape)
    → IsCut profile plot items ↔ (items ≡ cut_by profile plot)

-- what follows a mnemonic, but for the mode of a DT and for moves before a wrong byte
abbrev pub as_in_core : Kind → Kind
as_in_core LabelEndWithMode = LabelEnd
as_in_core (Moves moves) = Parameters (move_instruction moves)
as_in_core kind = kind

-- the body is a terminator that is printed, or moves before a wrong byte
abbrev pub is_only_in_full : BodyShape → Bool
is_only_in_full (Terminator end) = end.is_printed
is_only_in_full (DamagedMoves moves numbers) = true
is_only_in_full _ = false

-- both profiles read what follows the item's mnemonic in the same way: a DT has not the mode that prints, and moves no wrong byte
pub record IsReadAlike (item : ItemShape) : Type 0 where
  pub kind : as_in_core (kind_of Full item.code) ≡ kind_of Core item.code
  pub whole : is_only_in_full item.body ≡ false

-- a plot of such items has the same cut in both profiles
abbrev pub CoreIsInFull : Type 0
CoreIsInFull = (plot : List ℕ) → All IsReadAlike (cut_by Full plot) → cut_by Full plot ≡ cut plot

-- a polyline has at most as many entries as bytes
abbrev pub EntriesAreFew : Type 0
EntriesAreFew = (closed : Bool) (at : ℕ) (text : List ℕ) → length (entries closed at text) ≤ length text
