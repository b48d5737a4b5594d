use Rattle.std.proofs.Common.{◌≡◌, ◌<◌, ◌≤◌, ◌*◌, ◌^◌, ℕ, List, All, length, get_or, sym, ap, subst, ◌∙◌, arith}
use Rattle.std.proofs.lemmas.List.{with_items_is}
use Rattle.std.specs.Vec.{with_items}
use Rattle.png.specs.declared.header.Depth.{Depth}
use Rattle.png.specs.Headers.{bits_of_depth}
use Rattle.png.specs.Packing.{packed_samples, per_byte}
use Rattle.rows.specs.Palettes.{numbers_bytes}
use Rattle.rows.specs.PixelRows.{HasSamples, samples_of}
use Rattle.rows.proofs.NumberRows.{packed_length, row_packed, samples_small}
use Rattle.rows.proofs.PixelRows.{samples_size}
use Rattle.rows.proofs.sample_row.SampleRow.pack_pixels.Goals as goal

pub pack_samples-requires-clause-small : goal.pack_samples-requires-clause-small
pack_samples-requires-clause-small c =
    let v = c.args.self.now in
    let layout = c.args.layout in
    let pixels = c.args.pixels.now in
    let new : List ℕ = c.put_samples.new.samples in
    let values : List ℕ = samples_of layout pixels in
    let has : HasSamples values v.samples.items new = subst (λ (old : List ℕ). HasSamples values old new) c.deref_mut.ensures.value c.put_samples.ensures.samples in
    let long : length new ≡ v.samples.len = c.put_samples.ensures.samples.size ∙ c.deref_mut.ensures.len in
    let seen : c.deref.result.now ≡ new = c.deref.ensures.value ∙ with_items_is v.samples new long in
    let few : (k : ℕ) → k < length values → get_or new k 0 < 2 ^ bits_of_depth v.depth =
    λ k lt. subst (λ (depth : Depth). get_or new k 0 < 2 ^ bits_of_depth depth) (sym c.requires.depth) (c.put_samples.ensures.small k (omega (arith, lt, samples_size layout pixels))) in
    subst (All (λ (sample : ℕ). sample < 2 ^ bits_of_depth v.depth)) (sym seen) (samples_small v.depth values v.samples.items new has v.small few)

pub invariant_of-self : goal.invariant_of-self
invariant_of-self c =
    let v = c.args.self.now in
    let layout = c.args.layout in
    let pixels = c.args.pixels.now in
    let depth = v.depth in
    let new : List ℕ = c.put_samples.new.samples in
    let row : List ℕ = c.pack_samples.new.row in
    let values : List ℕ = samples_of layout pixels in
    let has : HasSamples values v.samples.items new = subst (λ (old : List ℕ). HasSamples values old new) c.deref_mut.ensures.value c.put_samples.ensures.samples in
    let long : length new ≡ v.samples.len = c.put_samples.ensures.samples.size ∙ c.deref_mut.ensures.len in
    let bytes_are : length row ≡ length c.deref_mut-2.result.now = ap length c.pack_samples.ensures ∙ packed_length depth (length c.deref_mut-2.result.now) c.deref.result.now in
    let S : (with_items v.samples new).items ≡ new = with_items_is v.samples new long in
    let B : (with_items v.bytes row).items ≡ row = with_items_is v.bytes row (bytes_are ∙ c.deref_mut-2.ensures.len) in
    let size_b : length (with_items v.bytes row).items ≡ length v.bytes.items = ap length B ∙ bytes_are ∙ ap length c.deref_mut-2.ensures.value in
    let size_s : length (with_items v.samples new).items ≡ length v.samples.items = ap length S ∙ has.size in
    let columns : length values ≡ v.columns = samples_size layout pixels ∙ sym c.requires.columns in
    let few : (k : ℕ) → k < length values → get_or new k 0 < 2 ^ bits_of_depth depth =
    λ k lt. subst (λ (d : Depth). get_or new k 0 < 2 ^ bits_of_depth d) (sym c.requires.depth) (c.put_samples.ensures.small k (omega (arith, lt, samples_size layout pixels))) in
    record {
      size = size_b ∙ v.size;
      enough = subst (λ (n : ℕ). per_byte depth * n ≤ length (with_items v.samples new).items) (sym size_b) (omega (arith, v.enough, size_s));
      wide = omega (arith, v.wide, size_s);
      blank = λ k le. ap (λ (z : List ℕ). get_or z k 0) S ∙ has.others k (omega (arith, le, columns)) ∙ v.blank k le;
      small = subst (All (λ (sample : ℕ). sample < 2 ^ bits_of_depth depth)) (sym S) (samples_small depth values v.samples.items new has v.small few);
    }

pub returns-clause-bytes : goal.returns-clause-bytes
returns-clause-bytes c =
    let v = c.args.self.now in
    let layout = c.args.layout in
    let pixels = c.args.pixels.now in
    let depth = v.depth in
    let new : List ℕ = c.put_samples.new.samples in
    let row : List ℕ = c.pack_samples.new.row in
    let n = numbers_bytes depth v.columns in
    let values : List ℕ = samples_of layout pixels in
    let has : HasSamples values v.samples.items new = subst (λ (old : List ℕ). HasSamples values old new) c.deref_mut.ensures.value c.put_samples.ensures.samples in
    let long : length new ≡ v.samples.len = c.put_samples.ensures.samples.size ∙ c.deref_mut.ensures.len in
    let bytes_are : length row ≡ length c.deref_mut-2.result.now = ap length c.pack_samples.ensures ∙ packed_length depth (length c.deref_mut-2.result.now) c.deref.result.now in
    let B : (with_items v.bytes row).items ≡ row = with_items_is v.bytes row (bytes_are ∙ c.deref_mut-2.ensures.len) in
    let seen : c.deref.result.now ≡ new = c.deref.ensures.value ∙ with_items_is v.samples new long in
    let many : length c.deref_mut-2.result.now ≡ n = ap length c.deref_mut-2.ensures.value ∙ v.size in
    let columns : v.columns ≡ length values = c.requires.columns ∙ sym (samples_size layout pixels) in
    B ∙ c.pack_samples.ensures ∙ ap (λ (k : ℕ). packed_samples depth k c.deref.result.now) many ∙ ap (packed_samples depth n) seen
    ∙ row_packed depth n values v.samples.items new has (λ k le. v.blank k (omega (arith, le, columns)))
    ∙ ap (λ (w : ℕ). packed_samples depth (numbers_bytes depth w) values) columns
    ∙ ap (λ (d : Depth). packed_samples d (numbers_bytes d (length values)) values) c.requires.depth
