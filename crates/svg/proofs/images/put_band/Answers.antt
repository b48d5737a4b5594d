use Rattle.std.proofs.Common.{◌<◌, List, ℕ, ap, arith, flat_map, map}
use Rattle.image_data.specs.Tiles.{strip_count, tile}
use Rattle.pieces.proofs.Texts.{all_left, next_put}
use Rattle.svg.specs.Images.{tile_text}
use Rattle.svg.proofs.ImageTexts.{all_numbers, next_strips}
use Rattle.svg.proofs.images.put_band.Goals as goal

pub loop-strip-init : goal.loop-strip-init
loop-strip-init g c =
    let image = c.args.image.now in
    all_left c.requires.sound (ap (λ (ks : List ℕ). flat_map (tile_text image) (map (tile image c.args.position) ks)) (all_numbers (strip_count image)))

pub loop-strip-preserved : goal.loop-strip-preserved
loop-strip-preserved g c =
    let image = c.args.image.now in
    let l = c.loop-strip in
    let less : l.strip < strip_count image = omega (arith, c.loop-strip-test.true, c.strip_count-strip-end.ensures) in
    next_put l.invariant c.put_tile.ensures.puts (next_strips image c.args.position l.strip (strip_count image) c.tile_of.result less c.tile_of.ensures.tile)
