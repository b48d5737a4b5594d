-- What the laws say of documents.
use Rattle.std.specs.Prelude.{◌≡◌, ℕ, List, length, take, drop}

-- so many bytes from the start on, these bytes follow
abbrev pub BeginsAt : List ℕ → ℕ → List ℕ → Type 0
BeginsAt text at piece = take (length piece) (drop at text) ≡ piece
