-- What a watcher is told while a picture is written.
use Rattle.std.specs.Prelude.{◌≡◌, ℕ, ◌<◌, ◌≤◌, Bool, true, false, Result, Ok, Err}

-- what a watcher has become that was told of numbers of rows, of so many in all: each is more than the one before, and this
-- is the last one, or 0 if it was told of none. One step is what the watcher makes of a number
pub data WasTold {W : Type 0} (hears : W → ℕ → ℕ → W → Type 0) (rows : ℕ) (before : W) : ℕ → W → Type 0 where
  nothing : WasTold hears rows before 0 before
  more : {last : ℕ} {watcher : W} (done : ℕ) (after : W) → WasTold hears rows before last watcher → last < done → done ≤ rows
      → hears watcher done rows after → WasTold hears rows before done after

-- the same of as many rows in all, of a picture that may not be written whole
pub record WasToldInPart {W : Type 0} (hears : W → ℕ → ℕ → W → Type 0) (rows : ℕ) (before after : W) : Type 0 where
  pub done : ℕ
  pub told : WasTold hears rows before done after

-- of some of the rows that were to be written, if the sink failed; else of nothing
abbrev pub IsToldIn : {W : Type 0} → (W → ℕ → ℕ → W → Type 0) → ℕ → W → W → Bool → Type 0
IsToldIn hears rows before after true = WasToldInPart hears rows before after
IsToldIn hears rows before after false = after ≡ before

-- of all rows that were to be written, the last number being all of them; or there is a fault, of which it is known whether the
-- sink failed
abbrev pub IsTold : {W T F : Type 0} → (F → Bool) → (W → ℕ → ℕ → W → Type 0) → ℕ → W → W → Result T F → Type 0
IsTold is_failure hears rows before after (Ok _) = WasTold hears rows before rows after
IsTold is_failure hears rows before after (Err fault) = IsToldIn hears rows before after (is_failure fault)
