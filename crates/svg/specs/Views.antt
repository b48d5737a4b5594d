-- What a view of a sheet shows.
use Rattle.areas.specs.Views.{areas_in}
use Rattle.labels.specs.Sheets.{all_counted}
use Rattle.page_images.specs.Views.{images_in}
use Rattle.stroke_runs.specs.declared.view.SheetView.{SheetView}
use Rattle.svg.specs.Sections.{Contents}

abbrev pub contents : SheetView → Contents
contents view = record {
  strokes = view.strokes.now;
  areas = areas_in view.areas;
  labels = all_counted view.before view.labels.now;
  images = images_in view.images;
}
