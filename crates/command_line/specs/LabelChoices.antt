-- What `--labels` names: how a document has the labels of the plot.
use Rattle.std.specs.Prelude.{Option, Some, None, codes, if◌then◌else◌}
use Rattle.std.specs.Str.{bytes_eq}
use Rattle.clap.specs.Words.{Text as Word}
use Rattle.picture_job.specs.declared.vector_job.LabelChoice.{LabelChoice}
use Rattle.picture_job.specs.declared.vector_job.LabelChoice.TheVariants.{Strokes, Text}

-- what this name means
abbrev pub labels_named : Word → Option LabelChoice
labels_named name =
    if bytes_eq name (codes "text") then Some Text else
    if bytes_eq name (codes "strokes") then Some Strokes else None
