-- What a picture shows: strokes and areas, and images among them.
use Rattle.std.specs.Prelude.{List, []}
use Rattle.areas.specs.Shapes.{ShapeList}
use Rattle.areas.specs.Views.{shapes_in}
use Rattle.page_images.specs.PageImages.{ImageShape}
use Rattle.page_images.specs.Views.{images_in}
use Rattle.rows.specs.declared.contents.Contents.{Contents}

pub record ContentList : Type 0 where
  pub shapes : ShapeList
  pub images : List ImageShape

abbrev pub contents_in : Contents → ContentList
contents_in contents = record { shapes = shapes_in contents.shapes; images = images_in contents.images }

-- shapes without images
abbrev pub plain : ShapeList → ContentList
plain shapes = record { shapes = shapes; images = [] }
