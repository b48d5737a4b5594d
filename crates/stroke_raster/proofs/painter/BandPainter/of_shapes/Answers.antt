use Rattle.std.proofs.Common.{rules, ◌≡◌, ◌≤◌, ◌+◌, ◌*◌, length, drop}
use Rattle.plot_page.specs.Resolutions.{rows_of}
use Rattle.areas.specs.Views.{areas_in}
use Rattle.stroke_raster.proofs.Bands.{enough_bands}
use Rattle.stroke_raster.proofs.Rooms.{enough_room}
use Rattle.stroke_raster.proofs.Written.{whole}
use Rattle.stroke_raster.proofs.painter.BandPainter.of_shapes.Goals as goal

pub invariant_of-result : goal.invariant_of-result
invariant_of-result g c =
    let heads : length c.chain.new.heads ≡ c.in-Ok-vec.heads.len = search rules in
    let links : length c.chain.new.links ≡ c.in-Ok-vec-2.links.len = search rules in
    let enough : rows_of c.args.page c.args.dots ≤ c.args.first_row + c.in-Ok-vec.heads.len * c.args.band_rows =
    enough_bands (rows_of c.args.page c.args.dots) c.args.first_row c.args.band_rows c.in-Ok-vec.heads.len (search rules) (search rules) (search rules) in
    rw (whole c.chain.new.heads (drop (length c.chain.new.heads) c.in-Ok-vec.heads.items) c.in-Ok-vec.heads.len heads, whole c.chain.new.links (drop (length c.chain.new.links) c.in-Ok-vec-2.links.items) c.in-Ok-vec-2.links.len links) (record {
      end_in = search rules;
      next_in = search rules;
      next_at = search rules;
      painted_before = search rules;
      painted_rows = search rules;
      next_rows = search rules;
      height_in = search rules;
      width_is = search rules;
      canvas = search rules;
      roomy = enough_room c.args.shapes.strokes.now (areas_in c.args.shapes.areas) c.most_edges.result c.min-edges.result c.in-Ok-new.sweep c.most_edges.ensures.enough c.min-edges.ensures (search rules);
      slots = search rules;
      bands_few = search rules;
      bands_enough = rw heads enough;
      linked = c.chain.ensures.linked;
    })
