use Rattle.std.proofs.Common.{◌≡◌, ◌*◌, ◌/◌, ◌%◌, [], length, get_or, sym, arith}
use Rattle.std.specs.List.{flat_map}
use Rattle.std.proofs.lemmas.Grind.{common_steps}
use Rattle.png.specs.Headers.{three}
use Rattle.rows.proofs.PixelRows.{channel_at, channels_size, others_kept, written_more}
use Rattle.rows.proofs.sample_row.put_channels.Goals as goal

pub loop-k-preserved : goal.loop-k-preserved
loop-k-preserved c =
    let samples = c.loop-k.samples in
    let k = c.loop-k.k in
    let inv = c.loop-k.invariant in
    let channel : get_or (get_or c.args.pixels.now (k / 3) []) (k % 3) 0 ≡ get_or (flat_map three c.args.pixels.now) k 0 = sym (channel_at c.args.pixels.now k) in
    record {
      size = grind (arith, common_steps);
      written = written_more samples (flat_map three c.args.pixels.now) k _ (omega arith) channel inv.written;
      others = others_kept samples c.args.samples.now k _ (3 * length c.args.pixels.now) (omega arith) inv.others;
    }

pub returns : goal.returns
returns c =
    let inv = c.loop-k.invariant in
    let size = channels_size c.args.pixels.now in
    record {
      size = inv.size;
      written = λ k lt. inv.written k (omega (arith, lt, size));
      others = λ k le. inv.others k (omega (arith, le, size));
    }
