use Rattle.std.proofs.Common.{◌≡◌, List, [], sym, subst, ◌∙◌}
use Rattle.std.proofs.lemmas.Bool.{eqb-true}
use Rattle.areas.specs.Views.{shapes_in}
use Rattle.page_images.specs.PageImages.{ImageShape}
use Rattle.page_images.specs.Views.{images_in}
use Rattle.rows.specs.Documents.{HasPaintedPng, picture_shown}
use Rattle.rows.proofs.ImagePictures.{no_images}
use Rattle.rows.proofs.png_picture.paint_png.Goals as goal

pub returns-then-is_empty-clause-paints : goal.returns-then-is_empty-clause-paints
returns-then-is_empty-clause-paints g c =
    let contents = c.args.contents in
    let none : images_in contents.images ≡ [] = no_images contents.images (eqb-true _ _ (sym c.is_empty.ensures ∙ c.if-is_empty.true)) in
    subst (λ (images : List ImageShape). HasPaintedPng (picture_shown c.args.job.now (g.G.Gauge.reaches c.args.gauge.now) (record { shapes = shapes_in contents.shapes; images = images }))
    (g.K.Sink.state c.args.sink) (g.K.Sink.state c.paint_shapes.result.0) c.paint_shapes.result.1) (sym none) c.paint_shapes.ensures.paints
