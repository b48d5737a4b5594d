use Rattle.std.proofs.Common.{◌∙◌, ap, ℕ, ◌*◌, List, drop}
use Rattle.image_colours.specs.Dots.{colour_of}
use Rattle.raster_graphics.proofs.ImageDots.{eight_are, colour_of_eight}
use Rattle.raster_graphics.proofs.image.Image.colour_in.Goals as goal

pub returns : goal.returns
returns c =
    let settings = c.args.self.now.settings in
    let planes = c.args.self.now.planes in
    let first : ℕ = c.args.position * c.plane_count.result in
    c.colour_of.ensures
    ∙ ap (λ (z : List (List ℕ)). colour_of settings.coding settings.palette z c.args.column)
    (eight_are planes first _ _ _ _ _ _ _ _ c.get.ensures.plane c.get-2.ensures.plane c.get-3.ensures.plane c.get-4.ensures.plane
    c.get-5.ensures.plane c.get-6.ensures.plane c.get-7.ensures.plane c.get-8.ensures.plane)
    ∙ colour_of_eight settings.coding settings.palette planes first c.args.column
    ∙ ap (λ (n : ℕ). colour_of settings.coding settings.palette (drop
    (c.args.position * n) planes) c.args.column) c.plane_count.ensures.value
