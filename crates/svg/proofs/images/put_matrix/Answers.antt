use Rattle.std.proofs.Common.{ap}
use Rattle.page_images.specs.PageImages.{ImageShape}
use Rattle.pieces.proofs.Texts.{◌then◌, puts_as}
use Rattle.svg.specs.Commands.{pair_text}
use Rattle.svg.specs.Images.{matrix_text}
use Rattle.svg.proofs.images.put_matrix.Goals as goal

pub returns : goal.returns
returns g c =
    let before = puts_as c.put.ensures.puts c.before_scale.ensures in
    let between = puts_as c.put-2.ensures.puts c.between_scales.ensures in
    let after = puts_as c.put-3.ensures.puts c.after_scale.ensures in
    let corner = puts_as c.put_place.ensures.puts (ap pair_text c.start_of.ensures.value) in
    let all = before then c.put_scale.ensures.puts then between then c.put_scale-2.ensures.puts then after then corner in
    record { puts = puts_as all (ap (λ (i : ImageShape). matrix_text c.args.page.now i) c.image.view_is) }
