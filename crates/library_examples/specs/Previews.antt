-- What is kept of a picture.
use Rattle.std.specs.Prelude.{◌≡◌, ℕ, ◌<◌, List, length, take}
use Rattle.library_examples.specs.declared.previews.Preview.{Preview}
use Rattle.library_examples.specs.declared.previews.Preview.TheVariants.{Whole, Beginning}

-- all bytes of the picture, or its first ones if it has more
abbrev pub IsPreviewOf : List ℕ → Preview → Type 0
IsPreviewOf picture (Whole bytes) = bytes.items ≡ picture
IsPreviewOf picture (Beginning bytes) =
    (length bytes.items < length picture) × (bytes.items ≡ take (length bytes.items) picture)
