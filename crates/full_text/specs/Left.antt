-- What is left of a cut, by the state of its reader.
use Rattle.std.specs.Prelude.{ℕ, List, length, drop}
use Rattle.hpgl_text.specs.declared.terminator.Terminator.{Terminator}
use Rattle.hpgl_text.specs.Shapes.{ItemShape}
use Rattle.raster_requests.specs.declared.place.Language.{Language}
use Rattle.full_text.specs.Cut.{escape_at, silent_of, items_from}

-- the items from a place on: each step takes a byte at least
abbrev pub left_from : List ℕ → Language → Terminator → ℕ → List ItemShape
left_from plot language terminator at = items_from (length plot) plot language terminator at

-- how many bytes are silent at a place
abbrev pub silent_at : Language → List ℕ → ℕ → ℕ
silent_at language plot at = silent_of (escape_at (drop at plot)) language (drop at plot)
