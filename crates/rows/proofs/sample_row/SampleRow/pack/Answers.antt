use Rattle.std.proofs.Common.{◌≡◌, ◌<◌, ◌≤◌, ◌*◌, ◌^◌, ℕ, List, All, length, get_or, map, sym, ap, subst, ◌∙◌, arith}
use Rattle.std.proofs.lemmas.List.{length-map, with_items_is}
use Rattle.std.specs.Vec.{with_items}
use Rattle.png.specs.Headers.{bits_of_depth}
use Rattle.png.specs.Packing.{packed_samples, per_byte}
use Rattle.rows.specs.Palettes.{number_of, numbers_bytes}
use Rattle.rows.specs.PixelRows.{HasSamples}
use Rattle.rows.proofs.NumberRows.{numbers_small, numbers_written, packed_length, row_packed, samples_small}
use Rattle.rows.proofs.sample_row.SampleRow.pack.Goals as goal

pub invariant_of-self : goal.invariant_of-self
invariant_of-self c =
    let v = c.args.self.now in
    let cells = c.args.cells.now in
    let depth = v.depth in
    let new : List ℕ = c.put_numbers.new.samples in
    let row : List ℕ = c.pack_samples.new.row in
    let long : length new ≡ v.samples.len = c.put_numbers.ensures.size ∙ c.deref_mut.ensures.len in
    let same_long : length new ≡ length v.samples.items = c.put_numbers.ensures.size ∙ ap length c.deref_mut.ensures.value in
    let bytes_are : length row ≡ length c.deref_mut-2.result.now = ap length c.pack_samples.ensures ∙ packed_length depth (length c.deref_mut-2.result.now) c.deref.result.now in
    let S : (with_items v.samples new).items ≡ new = with_items_is v.samples new long in
    let B : (with_items v.bytes row).items ≡ row = with_items_is v.bytes row (bytes_are ∙ c.deref_mut-2.ensures.len) in
    let wide : length row ≡ length v.bytes.items = bytes_are ∙ ap length c.deref_mut-2.ensures.value in
    let size_b : length (with_items v.bytes row).items ≡ length v.bytes.items = ap length B ∙ wide in
    let size_s : length (with_items v.samples new).items ≡ length v.samples.items = ap length S ∙ same_long in
    let kept : (k : ℕ) → length cells ≤ k → get_or new k 0 ≡ get_or v.samples.items k 0 = λ k le. c.put_numbers.ensures.others k le ∙ ap (λ (z : List ℕ). get_or z k 0) c.deref_mut.ensures.value in
    let values : List ℕ = map (number_of c.args.numbers.now) cells in
    let has : HasSamples values v.samples.items new = numbers_written cells c.args.numbers.now v.samples.items new same_long c.put_numbers.ensures.numbers kept in
    record {
      size = size_b ∙ v.size;
      enough = subst (λ (n : ℕ). per_byte depth * n ≤ length (with_items v.samples new).items) (sym size_b) (omega (arith, v.enough, size_s));
      wide = omega (arith, v.wide, size_s);
      blank = λ k le. ap (λ (z : List ℕ). get_or z k 0) S ∙ kept k (omega (arith, le, c.requires.columns)) ∙ v.blank k le;
      small = subst (All (λ (sample : ℕ). sample < 2 ^ bits_of_depth depth)) (sym S)
          (samples_small depth values v.samples.items new has v.small
          (numbers_small depth cells c.args.numbers.now new c.requires.numbered c.requires.small c.put_numbers.ensures.numbers));
    }

pub returns-clause-bytes : goal.returns-clause-bytes
returns-clause-bytes c =
    let v = c.args.self.now in
    let cells = c.args.cells.now in
    let depth = v.depth in
    let new : List ℕ = c.put_numbers.new.samples in
    let row : List ℕ = c.pack_samples.new.row in
    let n = numbers_bytes depth v.columns in
    let long : length new ≡ v.samples.len = c.put_numbers.ensures.size ∙ c.deref_mut.ensures.len in
    let bytes_are : length row ≡ length c.deref_mut-2.result.now = ap length c.pack_samples.ensures ∙ packed_length depth (length c.deref_mut-2.result.now) c.deref.result.now in
    let B : (with_items v.bytes row).items ≡ row = with_items_is v.bytes row (bytes_are ∙ c.deref_mut-2.ensures.len) in
    let seen : c.deref.result.now ≡ new = c.deref.ensures.value ∙ with_items_is v.samples new long in
    let many : length c.deref_mut-2.result.now ≡ n = ap length c.deref_mut-2.ensures.value ∙ v.size in
    let kept : (k : ℕ) → length cells ≤ k → get_or new k 0 ≡ get_or v.samples.items k 0 = λ k le. c.put_numbers.ensures.others k le ∙ ap (λ (z : List ℕ). get_or z k 0) c.deref_mut.ensures.value in
    let values : List ℕ = map (number_of c.args.numbers.now) cells in
    let same_long : length new ≡ length v.samples.items = c.put_numbers.ensures.size ∙ ap length c.deref_mut.ensures.value in
    let has : HasSamples values v.samples.items new = numbers_written cells c.args.numbers.now v.samples.items new same_long c.put_numbers.ensures.numbers kept in
    B ∙ c.pack_samples.ensures ∙ ap (λ (k : ℕ). packed_samples depth k c.deref.result.now) many ∙ ap (packed_samples depth n) seen
    ∙ row_packed depth n values v.samples.items new has (λ k le. v.blank k (omega (arith, le, c.requires.columns, length-map cells (number_of c.args.numbers.now))))
