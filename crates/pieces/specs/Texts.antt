-- A text on its way to a sink, and what the sink has of it in the end.
use Rattle.std.specs.Prelude.{◌≡◌, ℕ, ◌+◌, ◌-◌, ◌^◌, ◌<◌, ◌≤◌, min, List, ◌++◌, length, take, drop, Option, Some, None, Result, Ok, Err, ⊤}
use Rattle.std.specs.Io.KnownBytes.{Appends}
use Rattle.devices.specs.declared.fault.WriteFault.{WriteFault}
use Rattle.devices.specs.Sinks.{SinkState, taken_of}
use Rattle.pieces.specs.declared.text.Text.{Text}
use Rattle.pieces.specs.declared.text.TheConstants.{ROOM}

-- a count stops at its greatest
abbrev pub counted : ℕ → ℕ
counted bytes = min bytes (2 ^ 64 - 1)

-- a text was written: the sink took it all and has not failed, or it took the first bytes and has failed once more
abbrev pub WritesText : SinkState → SinkState → List ℕ → Result ℕ WriteFault → Type 0
WritesText old new text (Ok count) =
    Appends old.held new.held text × (new.faults ≡ old.faults) × (count ≡ counted (length text))
WritesText old new text (Err fault) =
    (taken : ℕ) × Appends old.held new.held (take taken text) × (taken < length text)
    × (taken_of fault ≡ counted taken) × (new.faults ≡ old.faults + 1)

-- a sink took the first `taken` of these bytes, and failed so often
pub record Took (old new : SinkState) (failures taken : ℕ) (bytes : List ℕ) : Type 0 where
  pub held : Appends old.held new.held (take taken bytes)
  pub faults : new.faults ≡ old.faults + failures

-- how far a text came: the sink, how many bytes it was handed, which bytes wait, and the fault, if there was one
pub record Progress : Type 0 where
  pub sink : SinkState
  pub done : ℕ
  pub waits : List ℕ
  pub fault : Option WriteFault

abbrev pub progress : {K : Type 0} → (K → SinkState) → Text K → Progress
progress state t = record { sink = state t.sink.now; done = t.done; waits = take t.used t.piece; fault = t.fault }

-- the sink took some of what waited and was put, and the rest waits
pub record Waits (old new : Progress) (bytes : List ℕ) : Type 0 where
  pub taken : ℕ
  pub took : Took old.sink new.sink 0 taken (old.waits ++ bytes)
  pub within : taken ≤ length (old.waits ++ bytes)
  pub left : drop taken (old.waits ++ bytes) ≡ new.waits
  pub count : counted new.done ≡ counted (old.done + taken)

-- the sink failed within what waited and was put
pub record Fails (old new : Progress) (bytes : List ℕ) (fault : WriteFault) : Type 0 where
  pub taken : ℕ
  pub took : Took old.sink new.sink 1 taken (old.waits ++ bytes)
  pub within : taken < length (old.waits ++ bytes)
  pub count : taken_of fault ≡ counted (old.done + taken)

-- bytes were put, by the faults before and after; after a fault nothing changes
abbrev pub GoesBy : Option WriteFault → Option WriteFault → Progress → Progress → List ℕ → Type 0
GoesBy None None old new bytes = Waits old new bytes
GoesBy None (Some fault) old new bytes = Fails old new bytes fault
GoesBy (Some fault) later old new bytes = (later ≡ Some fault) × (new.sink ≡ old.sink)

abbrev pub Goes : Progress → Progress → List ℕ → Type 0
Goes old new bytes = GoesBy old.fault new.fault old new bytes

-- a sink may be handed more, or has failed
abbrev pub CanTake : SinkState → Option WriteFault → Type 0
CanTake sink None = sink.faults < 2 ^ 64 - 1
CanTake sink (Some fault) = ⊤

-- a text to which more may be put
abbrev pub IsSound : {K : Type 0} → (K → SinkState) → Text K → Type 0
IsSound state t = (t.used ≤ ROOM) × CanTake (state t.sink.now) t.fault

-- how many bytes were put, also after a fault
abbrev pub count_of : {K : Type 0} → Text K → ℕ
count_of t = counted (t.done + t.used)

-- these bytes were put
pub record Puts {K : Type 0} (state : K → SinkState) (old new : Text K) (bytes : List ℕ) : Type 0 where
  pub same : new.sink.ghost_name ≡ old.sink.ghost_name
  pub sound : IsSound state new
  pub goes : Goes (progress state old) (progress state new) bytes
  pub count : count_of new ≡ counted (count_of old + length bytes)

-- a text of no bytes
abbrev pub IsNew : {K : Type 0} → Text K → Type 0
IsNew t = (t.used ≡ 0) × (t.done ≡ 0) × (t.fault ≡ None)

-- what waited was written
abbrev pub FinishesBy : Option WriteFault → Progress → SinkState → Result ℕ WriteFault → Type 0
FinishesBy (Some fault) old new result = (result ≡ Err fault) × (new ≡ old.sink)
FinishesBy None old new (Ok count) = Took old.sink new 0 (length old.waits) old.waits × (count ≡ counted (old.done + length old.waits))
FinishesBy None old new (Err fault) =
    (taken : ℕ) × Took old.sink new 1 taken old.waits × (taken < length old.waits)
    × (taken_of fault ≡ counted (old.done + taken))

abbrev pub Finishes : {K : Type 0} → (K → SinkState) → Text K → SinkState → Result ℕ WriteFault → Type 0
Finishes state t new result = FinishesBy t.fault (progress state t) new result
