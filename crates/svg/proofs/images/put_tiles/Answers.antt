use Rattle.std.proofs.Common.{◌<◌, List, ℕ, ap, arith, flat_map, length}
use Rattle.image_data.specs.Tiles.{tiles_at}
use Rattle.pieces.proofs.Texts.{all_left, next_put}
use Rattle.svg.specs.Images.{tile_text}
use Rattle.svg.proofs.ImageTexts.{all_numbers, next_bands}
use Rattle.svg.proofs.images.put_tiles.Goals as goal

pub loop-position-init : goal.loop-position-init
loop-position-init g c =
    let image = c.args.image.now in
    all_left c.requires.sound (ap (λ (ks : List ℕ). flat_map (tile_text image) (flat_map (tiles_at image) ks)) (all_numbers (length image.numbers)))

pub loop-position-preserved : goal.loop-position-preserved
loop-position-preserved g c =
    let image = c.args.image.now in
    let l = c.loop-position in
    let less : l.position < length image.numbers = omega (arith, c.loop-position-test.true, ap length c.as_slice-position-end.ensures) in
    next_put l.invariant c.put_tiles_at.ensures.puts (next_bands image l.position (length image.numbers) less)
