use Rattle.std.proofs.Common.{◌-◌, flat_map, map}
use Rattle.std.specs.List.{range_with_len}
use Rattle.image_data.specs.Tiles.{band_tiles, strip_count, tile}
use Rattle.pieces.proofs.Texts.{Left}
use Rattle.svg.specs.Images.{tile_text}
use Rattle.svg.proofs.images.put_band.Given as goal

-- the strips that are left
abbrev pub invariant-loop-strip : goal.invariant-loop-strip
invariant-loop-strip g l =
    let left = range_with_len l.strip (strip_count l.image - l.strip) in
    Left g.K.Sink.state l.fn.text l.text (flat_map (tile_text l.image) (map (tile l.image l.position) left)) (flat_map (tile_text l.image) (band_tiles l.image l.position))
