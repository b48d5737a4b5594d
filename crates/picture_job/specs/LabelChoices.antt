-- How a document has labels.
use Rattle.std.specs.Prelude.{Bool, true, false}
use Rattle.picture_job.specs.declared.vector_job.LabelChoice.{LabelChoice}
use Rattle.picture_job.specs.declared.vector_job.LabelChoice.TheVariants.{Strokes, Text}

-- as texts
abbrev pub has_text : LabelChoice → Bool
has_text Text = true
has_text Strokes = false
