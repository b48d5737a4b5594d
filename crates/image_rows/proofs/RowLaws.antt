-- What holds of rows.
use Rattle.std.proofs.Common.{◌≡◌, ◌≢◌, ℕ, suc, ◌+◌, ◌-◌, ◌<◌, ◌==◌, Bool, true, false, ◌&&◌, ◌||◌, if◌then◌else◌, nat_lt, List, [], ◌∷◌, ◌++◌, length, drop, replicate, refl, sym, ap, ap₂, ◌∙◌, arith}
use Rattle.std.proofs.lemmas.List.{take_all, take_at, drop_at, drop_all, drop-drop, append-nil, length-replicate}
use Rattle.std.proofs.lemmas.Bool.{lt-ltb, le-ltb, ne_eqb}
use Rattle.image_rows.specs.declared.compression.Compression.{Compression}
use Rattle.image_rows.specs.declared.compression.Compression.TheVariants.{Unencoded, RunLength, PackBits, DeltaRow, CompressedDelta}
use Rattle.image_rows.specs.declared.compression.RowLength.{RowLength}
use Rattle.image_rows.specs.declared.compression.RowLength.TheVariants.{Fixed, UpTo}
use Rattle.image_rows.specs.Compressions.{is_delta}
use Rattle.image_rows.specs.Changes.{Change, literal, run, first_change, changes_by, changes}
use Rattle.image_rows.specs.Rows.{fitted, stay, changed, ground, whole_row, sized, row_of, breaks_off_from, breaks_off}
use Rattle.image_rows.specs.Laws.{RowsHaveTheirWidth, UnencodedIsItsData, NoDataAreZerosOrTheSeed, PackBitsIsRead, one_by_one, RowsCanBeWritten, WidthsOnlyCut}
use Rattle.image_rows.proofs.Fitted.{fitted_is, fit_self}
use Rattle.image_rows.proofs.Steps.{length-fitted}
use Rattle.image_rows.proofs.Proper.{changes_by_first}
use Rattle.image_rows.proofs.Agrees.{sized_ground}

pub rows_have_their_width_lem : RowsHaveTheirWidth
rows_have_their_width_lem width compression seed input = length-fitted width (whole_row compression seed input)

unencoded_whole : (size : RowLength) (input : List ℕ) → breaks_off size Unencoded input ≡ false
unfolding changes_by breaks_off_from
unencoded_whole size [] = refl
unencoded_whole size (c ∷ []) = refl
unencoded_whole size (c ∷ d ∷ input) = refl

-- the row of no data
nothing_said : (size : RowLength) (compression : Compression) (seed : List ℕ) → row_of size compression seed [] ≡ sized size (ground compression seed)
unfolding changes_by changed
nothing_said size compression seed = refl

no_ground : (compression : Compression) (seed : List ℕ) → is_delta compression ≡ false → ground compression seed ≡ []
no_ground compression seed e = ap (λ (b : Bool). if b then seed else []) e

seed_ground : (compression : Compression) (seed : List ℕ) → is_delta compression ≡ true → ground compression seed ≡ seed
seed_ground compression seed e = ap (λ (b : Bool). if b then seed else []) e

sized_twice : (size : RowLength) (row : List ℕ) → sized size (sized size row) ≡ sized size row
sized_twice (UpTo most) row = refl
sized_twice (Fixed width) row = fitted_is width (fitted width row) ∙ fit_self width (fitted width row) (length-fitted width row)

pub no_data_are_zeros_or_the_seed_lem : NoDataAreZerosOrTheSeed
no_data_are_zeros_or_the_seed_lem = record {
  zeros = λ width compression seed e. nothing_said (Fixed width) compression seed ∙ ap (fitted width) (no_ground compression seed e)
      ∙ take_all width (replicate width 0) (omega (arith, length-replicate {A = ℕ} width 0));
  none = λ most compression seed e. nothing_said (UpTo most) compression seed ∙ no_ground compression seed e;
  seed = λ size compression seed e. nothing_said size compression seed ∙ ap (sized size) (seed_ground compression seed e);
  again = λ size compression before seed input e. nothing_said size compression (row_of size before seed input) ∙ ap (sized size) (seed_ground compression (row_of size before seed input) e)
      ∙ sized_twice size (whole_row before seed input);
}

-- bytes that are put where there is no row
on_nothing : (bytes : List ℕ) (is_broken : Bool) (more : List Change) → changed [] (record { skip = 0; bytes = bytes; is_broken = is_broken } ∷ more) ≡ bytes ++ changed [] more
unfolding changed
on_nothing [] is_broken more = refl
on_nothing (b ∷ bytes) is_broken more = ap (λ (z : List ℕ). (b ∷ bytes) ++ changed z more) (drop_all (0 + length (b ∷ bytes)) [] (omega arith))

unencoded_row : (input : List ℕ) → changed [] (changes Unencoded input) ≡ input
unfolding changes_by changed
unencoded_row [] = refl
unencoded_row (c ∷ []) = on_nothing (c ∷ []) false [] ∙ append-nil (c ∷ [])
unencoded_row (c ∷ d ∷ input) = on_nothing (c ∷ d ∷ input) false [] ∙ append-nil (c ∷ d ∷ input)

pub unencoded_is_its_data_lem : UnencodedIsItsData
unencoded_is_its_data_lem = record {
  row = λ most seed input. unencoded_row input;
  whole = unencoded_whole;
}

-- a row by its first change
by_first : (most c : ℕ) (seed input bytes rest : List ℕ) (is_broken : Bool) → first_change PackBits c input ≡ (record { skip = 0; bytes = bytes; is_broken = is_broken }, rest)
    → row_of (UpTo most) PackBits seed (c ∷ input) ≡ bytes ++ row_of (UpTo most) PackBits seed rest
by_first most c seed input bytes rest is_broken e =
    ap (changed []) (changes_by_first PackBits (c ∷ input) (record { skip = 0; bytes = bytes; is_broken = is_broken }, rest) (omega arith) (sym e))
    ∙ on_nothing bytes is_broken (changes PackBits rest)

on_true : {A : Type 0} (b : Bool) (x y : A) → b ≡ true → (if b then x else y) ≡ x
on_true b x y e = ap (λ (t : Bool). if t then x else y) e

on_false : {A : Type 0} (b : Bool) (x y : A) → b ≡ false → (if b then x else y) ≡ y
on_false b x y e = ap (λ (t : Bool). if t then x else y) e

first_bytes : (c : ℕ) (bytes more : List ℕ) → c < 128 → length bytes ≡ c + 1
    → first_change PackBits c (bytes ++ more) ≡ (record { skip = 0; bytes = bytes; is_broken = nat_lt (length (bytes ++ more)) (c + 1) }, more)
first_bytes c bytes more small size =
    on_true (nat_lt c 128) (literal 0 (c + 1) (bytes ++ more)) (if c == 128 then (record { skip = 0; bytes = []; is_broken = false }, bytes ++ more) else run 0 (257 - c) (bytes ++ more)) (lt-ltb c 128 small)
    ∙ ap₂ (λ (x y : List ℕ). (record { skip = 0; bytes = x; is_broken = nat_lt (length (bytes ++ more)) (c + 1) }, y)) (take_at bytes more (c + 1) size) (drop_at bytes more (c + 1) size)

first_run : (c n byte : ℕ) (more : List ℕ) → 128 < c → 257 - c ≡ n → first_change PackBits c (byte ∷ more) ≡ (record { skip = 0; bytes = replicate n byte; is_broken = false }, more)
first_run c n byte more large e =
    on_false (nat_lt c 128) (literal 0 (c + 1) (byte ∷ more)) (if c == 128 then (record { skip = 0; bytes = []; is_broken = false }, byte ∷ more) else run 0 (257 - c) (byte ∷ more)) (le-ltb c 128 (omega arith))
    ∙ on_false (c == 128) (record { skip = 0; bytes = []; is_broken = false }, byte ∷ more) (run 0 (257 - c) (byte ∷ more)) (ne_eqb c 128 (λ f. omega (arith, f, large)))
    ∙ ap (λ (k : ℕ). (record { skip = 0; bytes = replicate k byte; is_broken = false }, more)) e

pub pack_bits_is_read_lem : PackBitsIsRead
pack_bits_is_read_lem = record {
  bytes = λ most seed bytes more some few. by_first most (length bytes - 1) seed (bytes ++ more) bytes more (nat_lt (length (bytes ++ more)) (length bytes - 1 + 1))
      (first_bytes (length bytes - 1) bytes more (omega arith) (omega arith));
  run = λ most seed n byte more two few. by_first most (257 - n) seed (byte ∷ more) (replicate n byte) more false (first_run (257 - n) n byte more (omega arith) (omega arith));
  nothing = λ most seed more. by_first most 128 seed more [] more false refl;
}

-- in each compression but the first, a 0 and a byte put this byte
one_byte : (compression : Compression) (byte : ℕ) (rest : List ℕ) → compression ≢ Unencoded → first_change compression 0 (byte ∷ rest) ≡ (record { skip = 0; bytes = byte ∷ []; is_broken = false }, rest)
one_byte Unencoded byte rest h = absurd (h refl)
one_byte RunLength byte rest h = refl
one_byte PackBits byte rest h = ap (λ (b : Bool). (record { skip = 0; bytes = byte ∷ []; is_broken = b }, rest)) (le-ltb (suc (length rest)) 1 (omega arith))
one_byte DeltaRow byte rest h = ap (λ (b : Bool). (record { skip = 0; bytes = byte ∷ []; is_broken = b }, rest)) (le-ltb (suc (length rest)) 1 (omega arith))
one_byte CompressedDelta byte rest h = ap (λ (b : Bool). (record { skip = 0; bytes = byte ∷ []; is_broken = b }, rest)) (le-ltb (suc (length rest)) 1 (omega arith))

put_one : (row : List ℕ) (byte : ℕ) (more : List Change) → changed row (record { skip = 0; bytes = byte ∷ []; is_broken = false } ∷ more) ≡ byte ∷ changed (drop 1 row) more
unfolding changed
put_one row byte more = refl

put_each : (compression : Compression) (row bytes : List ℕ) → compression ≢ Unencoded → changed row (changes compression (one_by_one bytes)) ≡ bytes ++ drop (length bytes) row
unfolding changes_by changed
put_each compression row [] h = refl
put_each compression row (byte ∷ bytes) h =
    ap (changed row) (changes_by_first compression (0 ∷ byte ∷ one_by_one bytes) (record { skip = 0; bytes = byte ∷ []; is_broken = false }, one_by_one bytes) (omega arith) (sym (one_byte compression byte (one_by_one bytes) h)))
    ∙ put_one row byte (changes compression (one_by_one bytes))
    ∙ ap (λ (z : List ℕ). byte ∷ z) (put_each compression (drop 1 row) bytes h ∙ ap (λ (z : List ℕ). bytes ++ z) (drop-drop (length bytes) 1 row ∙ ap (λ (n : ℕ). drop n row) (let same : 1 + length bytes ≡ suc (length bytes) = omega arith in same)))

pub rows_can_be_written_lem : RowsCanBeWritten
rows_can_be_written_lem most compression seed bytes h = put_each compression (ground compression seed) bytes h

-- what breaks off in a width breaks off without one
also_breaks : (width most place : ℕ) (changes : List Change) → breaks_off_from (Fixed width) place changes ≡ true → breaks_off_from (UpTo most) place changes ≡ true
unfolding breaks_off_from
also_breaks width most place [] e = e
also_breaks width most place (change ∷ more) e =
    either change.is_broken (nat_lt (place + change.skip) width) (breaks_off_from (Fixed width) next more) (breaks_off_from (UpTo most) next more) (also_breaks width most next more) e
  where
    next : ℕ
    next = place + (stay change.skip change.bytes + length change.bytes)

    either : (a b c d : Bool) → (c ≡ true → d ≡ true) → ((a && b) || c) ≡ true → ((a && true) || d) ≡ true
    either true b c d f g = refl
    either false b c d f g = f g

seed_cut : (width : ℕ) (compression : Compression) (seed input : List ℕ) → row_of (Fixed width) compression (fitted width seed) input ≡ row_of (Fixed width) compression seed input
seed_cut width Unencoded seed input = refl
seed_cut width RunLength seed input = refl
seed_cut width PackBits seed input = refl
seed_cut width DeltaRow seed input = sized_ground (Fixed width) seed (changes DeltaRow input)
seed_cut width CompressedDelta seed input = sized_ground (Fixed width) seed (changes CompressedDelta input)

pub widths_only_cut_lem : WidthsOnlyCut
widths_only_cut_lem = record {
  row = λ width most compression seed input. refl;
  seed = seed_cut;
  ending = λ width most compression input e. also_breaks width most 0 (changes compression input) e;
}
