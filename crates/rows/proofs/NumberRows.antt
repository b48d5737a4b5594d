-- Rows of numbers of a palette.
use Rattle.std.proofs.Common.{◌≡◌, ℕ, Bool, zero, suc, subst, ◌-◌, ◌+◌, ◌*◌, ◌^◌, ◌<◌, ◌≤◌, List, All, length, get_or, drop, map, replicate, refl, sym, ◌∙◌, arith, cond, nat_eq, false, inl, inr, ◌⊎◌}
use Rattle.std.proofs.lemmas.Bool.{cases_lt}
use Rattle.std.proofs.lemmas.Bool.Decides.{nat_tests}
use Rattle.std.proofs.Math.ListN.{get_or-map}
use Rattle.std.proofs.lemmas.List.{get_or-replicate, get_or_past, length-map, length-replicate}
use Rattle.std.proofs.lemmas.List.FromFn.{length-map-range_with_len}
use Rattle.std.proofs.lemmas.List.Elements.{All-from_get_or}
use Rattle.png.specs.declared.header.Depth.{Depth}
use Rattle.png.specs.declared.header.Depth.TheVariants.{One, Two, Four, Eight}
use Rattle.png.specs.Headers.{bits_of_depth}
use Rattle.png.specs.Packing.{byte_of, packed_samples, per_byte}
use Rattle.png.proofs.Packings.{packed_same}
use Rattle.rows.specs.Palettes.{number_of, numbers_bytes}
use Rattle.rows.specs.PixelRows.{HasSamples}

-- the samples of a row have room in eight times its bytes
pub columns_in : (depth : Depth) (columns : ℕ) → columns ≤ 8 * numbers_bytes depth columns
columns_in One columns = omega arith
columns_in Two columns = omega arith
columns_in Four columns = omega arith
columns_in Eight columns = omega arith

pub bytes_in : (depth : Depth) (n : ℕ) → per_byte depth * n ≤ 8 * n
bytes_in One n = omega arith
bytes_in Two n = omega arith
bytes_in Four n = omega arith
bytes_in Eight n = omega arith

zero_by : (n k : ℕ) → (k < n) ⊎ (n ≤ k) → ◌≡◌ {A = ℕ} (get_or (replicate n 0) k 0) 0
zero_by n k (inl lt) = get_or-replicate n k 0 0 lt
zero_by n k (inr le) = get_or_past (replicate n 0) k 0 (omega (arith, le, length-replicate {A = ℕ} n 0))

-- zeros are zeros
pub zero_at : (n k : ℕ) → ◌≡◌ {A = ℕ} (get_or (replicate n 0) k 0) 0
zero_at n k = zero_by n k (cases_lt k n)

-- rows of the same cells are the same
pub numbers_same : (depth depth' : Depth) (columns columns' : ℕ) (numbers cells cells' : List ℕ) → depth ≡ depth' → columns ≡ columns' → cells ≡ cells'
    → packed_samples depth (numbers_bytes depth columns) (map (number_of numbers) cells) ≡ packed_samples depth' (numbers_bytes depth' columns') (map (number_of numbers) cells')
numbers_same depth depth' columns columns' numbers cells cells' is size same = rw (is, size, same) refl

pub depth_some : (depth : Depth) → 0 < 2 ^ bits_of_depth depth
depth_some One = omega arith
depth_some Two = omega arith
depth_some Four = omega arith
depth_some Eight = omega arith

-- what the packed samples of a row are, by those that were written
pub row_packed : (depth : Depth) (n : ℕ) (values old samples : List ℕ) → HasSamples values old samples → ((k : ℕ) → length values ≤ k → get_or old k 0 ≡ 0)
    → packed_samples depth n samples ≡ packed_samples depth n values
row_packed depth n values old samples has blank =
    packed_same depth n samples values (λ k. elim (cases_lt k (length values)) as (λ _. get_or samples k 0 ≡ get_or values k 0) [
      | inl lt ↦ has.written k lt
      | inr le ↦ has.others k le ∙ blank k le ∙ sym (get_or_past values k 0 le)
    ])

-- samples have few bits if those that were written do
pub samples_small : (depth : Depth) (values old samples : List ℕ) → HasSamples values old samples → All (λ sample. sample < 2 ^ bits_of_depth depth) old
    → ((k : ℕ) → k < length values → get_or samples k 0 < 2 ^ bits_of_depth depth) → All (λ sample. sample < 2 ^ bits_of_depth depth) samples
samples_small depth values old samples has before written =
    All-from_get_or (λ (sample : ℕ). sample < 2 ^ bits_of_depth depth) samples 0 (λ k lt. elim (cases_lt k (length values)) as (λ _. get_or samples k 0 < 2 ^ bits_of_depth depth) [
      | inl lt' ↦ written k lt'
      | inr le ↦ subst (λ (n : ℕ). n < 2 ^ bits_of_depth depth) (sym (has.others k le)) (before k 0 (omega (arith, lt, has.size)))
    ])

-- the numbers of cells were written
pub numbers_written : (cells numbers old samples : List ℕ) → length samples ≡ length old → ((k : ℕ) → k < length cells → get_or samples k 0 ≡ number_of numbers (get_or cells k 0))
    → ((k : ℕ) → length cells ≤ k → get_or samples k 0 ≡ get_or old k 0) → HasSamples (map (number_of numbers) cells) old samples
numbers_written cells numbers old samples long inside outside = record {
  size = long;
  written = λ k lt. inside k (omega (arith, lt, length-map cells (number_of numbers))) ∙ sym (get_or-map (number_of numbers) cells k 0);
  others = λ k le. outside k (omega (arith, le, length-map cells (number_of numbers)));
}

-- a number of a row has few bits
number_small : (depth : Depth) (numbers : List ℕ) (cell : ℕ) → cell ≤ length numbers → All (λ number. number < 2 ^ bits_of_depth depth) numbers → number_of numbers cell < 2 ^ bits_of_depth depth
number_small depth numbers zero le small = depth_some depth
number_small depth numbers (suc cell) le small =
    let same : suc cell - 1 ≡ cell = omega arith in
    let inside : cell < length numbers = omega (arith, le) in
    let some : nat_eq (suc cell) 0 ≡ false = grind (arith, nat_tests) in
    subst (λ (b : Bool). cond b 0 (get_or numbers (suc cell - 1) 0) < 2 ^ bits_of_depth depth) (sym some)
    (subst (λ (k : ℕ). get_or numbers k 0 < 2 ^ bits_of_depth depth) (sym same) (small cell 0 inside))

pub numbers_small : (depth : Depth) (cells numbers samples : List ℕ) → All (λ cell. cell ≤ length numbers) cells → All (λ number. number < 2 ^ bits_of_depth depth) numbers
    → ((k : ℕ) → k < length cells → get_or samples k 0 ≡ number_of numbers (get_or cells k 0)) → (k : ℕ) → k < length (map (number_of numbers) cells) → get_or samples k 0 < 2 ^ bits_of_depth depth
numbers_small depth cells numbers samples numbered small inside k lt =
    let lt' : k < length cells = omega (arith, lt, length-map cells (number_of numbers)) in
    subst (λ (n : ℕ). n < 2 ^ bits_of_depth depth) (sym (inside k lt')) (number_small depth numbers (get_or cells k 0) (numbered k 0 lt') small)

-- rows of numbers have few bytes
pub bytes_few : (depth : Depth) (columns : ℕ) → numbers_bytes depth columns ≤ columns + 1
bytes_few One columns = omega arith
bytes_few Two columns = omega arith
bytes_few Four columns = omega arith
bytes_few Eight columns = omega arith

pub packed_length : (depth : Depth) (n : ℕ) (samples : List ℕ) → length (packed_samples depth n samples) ≡ n
packed_length depth n samples = length-map-range_with_len (λ (k : ℕ). byte_of depth (drop (per_byte depth * k) samples)) 0 n

-- a number that is within a palette has few bits
pub number_few : (depth : Depth) (n most : ℕ) → n < most → most ≤ 2 ^ bits_of_depth depth → n < 2 ^ bits_of_depth depth
number_few depth n most lt le = omega (arith, lt, le)
