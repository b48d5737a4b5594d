use Rattle.std.proofs.Common.{◌-◌, flat_map, length}
use Rattle.std.specs.List.{range_with_len}
use Rattle.image_data.specs.Tiles.{tiles, tiles_at}
use Rattle.pieces.proofs.Texts.{Left}
use Rattle.svg.specs.Images.{tile_text}
use Rattle.svg.proofs.images.put_tiles.Given as goal

-- the tiles that are left
abbrev pub invariant-loop-position : goal.invariant-loop-position
invariant-loop-position g l =
    let left = range_with_len l.position (length l.image.numbers - l.position) in
    Left g.K.Sink.state l.fn.text l.text (flat_map (tile_text l.image) (flat_map (tiles_at l.image) left)) (flat_map (tile_text l.image) (tiles l.image))
