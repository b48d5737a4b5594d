-- Labels on a page whose corner lies elsewhere.
use Rattle.std.specs.Prelude.{List, map}
use Rattle.page_fit.specs.Moves.{moved}
use Rattle.page_fit.specs.declared.around.Corner.{Corner}
use Rattle.labels.specs.declared.place.Place.{Place}
use Rattle.labels.specs.Labels.{LabelShape, LineShape, cut}

abbrev pub moved_place : Corner → Place → Place
moved_place corner p = record { x = cut (moved corner.x p.x); y = cut (moved corner.y p.y) }

abbrev pub moved_line : Corner → LineShape → LineShape
moved_line corner l = record l {
  start = moved_place corner l.start;
  end = moved_place corner l.end;
  top = moved_place corner l.top;
}

abbrev pub moved_label : Corner → LabelShape → LabelShape
moved_label corner l = record l { lines = map (moved_line corner) l.lines }

-- labels on a page with this corner
abbrev pub moved_labels : Corner → List LabelShape → List LabelShape
moved_labels corner labels = map (moved_label corner) labels
