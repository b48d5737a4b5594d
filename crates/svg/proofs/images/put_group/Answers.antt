use Rattle.std.proofs.Common.{ap, ◌++◌, codes, flat_map}
use Rattle.image_data.specs.Tiles.{tiles}
use Rattle.page_images.specs.PageImages.{ImageShape}
use Rattle.pieces.proofs.Texts.{◌then◌, puts_as}
use Rattle.svg.specs.Images.{group_text, matrix_text, tile_text, view_text}
use Rattle.svg.specs.Places.{rectangle_of}
use Rattle.svg.proofs.images.put_group.Goals as goal

pub returns : goal.returns
unfolding group_text
returns g c =
    let page = c.args.page.now in
    let view = puts_as c.put_view.ensures.puts (ap view_text c.rectangle_of.ensures) in
    let all = view then c.put.ensures.puts then c.put_matrix.ensures.puts then c.put-2.ensures.puts then c.put_tiles.ensures.puts then c.put-3.ensures.puts in
    record { puts = puts_as all (ap (λ (i : ImageShape). view_text (rectangle_of page i.frame.window) ++ codes "<g transform=\"matrix(" ++ matrix_text page c.args.image.now ++ codes ")\">\n" ++ flat_map (tile_text i.image) (tiles i.image) ++ codes "</g></svg>\n") c.image.view_is) }
