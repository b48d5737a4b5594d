-- The numbers of labels.
use Rattle.std.specs.List.{All}
use Rattle.labels.specs.Labels.{IsLine, LabelShape}

-- the places of the lines of a label are where strokes may end
abbrev pub AreInRange : LabelShape → Type 0
AreInRange l = All IsLine l.lines
