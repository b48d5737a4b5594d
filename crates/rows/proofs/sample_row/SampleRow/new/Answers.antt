use Rattle.std.proofs.Common.{◌≡◌, ◌<◌, ◌*◌, ℕ, List, length, get_or, ap, ◌∙◌, arith}
use Rattle.std.proofs.lemmas.List.{get_or-replicate}
use Rattle.png.specs.Headers.{bits_of_depth}
use Rattle.rows.specs.Palettes.{numbers_bytes}
use Rattle.rows.proofs.NumberRows.{bytes_in, columns_in, depth_some, zero_at}
use Rattle.rows.proofs.sample_row.SampleRow.new.Goals as goal

pub invariant_of-result : goal.invariant_of-result
invariant_of-result c =
    let size : c.div_ceil-size.result ≡ numbers_bytes c.args.depth c.args.columns =
    (let bits : c.args.columns * c.bits.result ≡ c.args.columns * bits_of_depth c.args.depth = ap (λ (n : ℕ). c.args.columns * n) c.bits.ensures in
    omega (arith, bits, c.div_ceil-size.ensures)) in
    let samples = c.in_ok-samples.ensures in
    let bytes = c.in_ok-bytes.ensures in
    record {
      size = bytes.size ∙ size;
      enough = omega (arith, samples.size, bytes.size, bytes_in c.args.depth (length c.in_ok-bytes.bytes.items));
      wide = omega (arith, samples.size, size, columns_in c.args.depth c.args.columns);
      blank = λ k le. ap (λ (z : List ℕ). get_or z k 0) samples.zeros ∙ zero_at _ k;
      small = λ k d lt.
          let inside : k < 8 * c.div_ceil-size.result = omega (arith, lt, samples.size) in
          let zero : get_or c.in_ok-samples.samples.items k d ≡ 0 = ap (λ (z : List ℕ). get_or z k d) samples.zeros ∙ get_or-replicate (8 * c.div_ceil-size.result) k 0 d inside in
          omega (arith, zero, depth_some c.args.depth);
    }
