-- The laws of dots.
use Rattle.std.proofs.Common.{◌≡◌, ◌∙◌, sym, ap, ap₂, refl, ℕ, zero, suc, ◌+◌, ◌-◌, ◌*◌, ◌%◌, ◌/◌, ◌^◌, ◌<◌, ◌≤◌, inl, inr, Bool, true, false, cond, nat_lt, ◌==◌, List, [], ◌∷◌, length, get_or, take, arith, length-take}
use Rattle.std.specs.List.{All, range_with_len}
use Rattle.std.proofs.lemmas.Bool.{cases_lt}
use Rattle.std.proofs.lemmas.List.{get_or_past}
use Rattle.std.proofs.lemmas.List.Elements.{All-nil, All-head, All-tail, All-take, All-set, All-map}
use Rattle.std.proofs.Math.Nat.{mod-lt, zero-div, zero-mod}
use Rattle.plot_page.specs.declared.colour.Colour.{Colour}
use Rattle.image_colours.specs.declared.coding.Space.{Space}
use Rattle.image_colours.specs.declared.coding.Space.TheVariants.{Rgb, Cmy}
use Rattle.image_colours.specs.declared.coding.Coding.{Coding}
use Rattle.image_colours.specs.declared.coding.Coding.TheVariants.{Black, BlackAndCmy, DirectPlanes, IndexPlanes, IndexPixels, DirectPixels}
use Rattle.image_colours.specs.declared.coding.Entries.{Entries}
use Rattle.image_colours.specs.declared.palette.Parts.{Parts}
use Rattle.image_colours.specs.Bits.{bits_of, pixel_bits_of}
use Rattle.image_colours.specs.Palettes.{black, white, mixed, corner, of_two, of_four, of_more, of_index, starting, start, set_colour, with_entry}
use Rattle.image_colours.specs.Dots.{bits_at, index_of_planes, first_plane, index_of, direct, colour_of}
use Rattle.image_colours.specs.Laws.{IsInRange, DotsHaveColours, IndexesHaveEntries, ZerosAreIndexZero, HaveSame, DotsDependOnTheirBits}
use Rattle.image_colours.proofs.Indices.{index_within}

few : (count : ℕ) (planes : List (List ℕ)) → length (take count planes) ≤ count
few count planes = omega (arith, length-take count planes)

of_planes : (count : ℕ) (planes : List (List ℕ)) (column : ℕ) → index_of_planes (take count planes) column < 2 ^ count
of_planes count planes column = index_within (take count planes) column count (few count planes)

pub indexes_have_entries_lem : IndexesHaveEntries
indexes_have_entries_lem Black planes column some = of_planes 1 planes column
indexes_have_entries_lem BlackAndCmy planes column some = of_planes 4 planes column
indexes_have_entries_lem (DirectPlanes space) planes column some = of_planes 3 planes column
indexes_have_entries_lem (IndexPlanes bits entries) planes column some = of_planes (bits_of bits) planes column
indexes_have_entries_lem (IndexPixels bits entries) planes column some = mod-lt _ some
indexes_have_entries_lem (DirectPixels space) planes column some = absurd (omega arith)

abbrev AreZero : List ℕ → Type 0
AreZero plane = All (λ b. b ≡ 0) plane

-- a byte of a plane, also past its end
byte_in : (P : ℕ → Type 0) → P 0 → (plane : List ℕ) (place : ℕ) → All P plane → P (get_or plane place 0)
byte_in P none plane place all = elim (cases_lt place (length plane)) [
  | inl h ↦ all place 0 h
  | inr h ↦ rw
      (get_or_past plane place 0 h) none
]

zero_bits : (bits : ℕ) (plane : List ℕ) (column : ℕ) → All (λ b. b ≡ 0) plane → bits_at bits plane column ≡ 0
zero_bits bits plane column zeros =
    let none : get_or plane (column * bits / 8) 0 ≡ 0 = byte_in (λ b. b ≡ 0) refl plane (column * bits / 8) zeros in
    ap (λ (b : ℕ). b / 2 ^ (8 - bits - column * bits % 8) % 2 ^ bits) none
    ∙ ap (λ (n : ℕ). n % 2 ^ bits) (zero-div (2 ^ (8 - bits - column * bits % 8))) ∙ zero-mod (2 ^ bits)

zero_planes : (planes : List (List ℕ)) (column : ℕ) → All (λ plane. All (λ b. b ≡ 0) plane) planes
    → index_of_planes planes column ≡ 0
unfolding index_of_planes
zero_planes [] column zeros = refl
zero_planes (plane ∷ planes) column zeros =
    omega (
      arith,
      zero_bits 1 plane column (All-head (λ p. All (λ b. b ≡ 0) p) plane planes zeros),
      zero_planes planes column
          (All-tail (λ p. All (λ b. b ≡ 0) p) plane planes zeros),
    )

first_all : (P : List ℕ → Type 0) → P [] → (planes : List (List ℕ)) → All P planes → P (first_plane planes)
first_all P none [] all = none
first_all P none (plane ∷ planes) all = All-head P plane planes all

pub zeros_are_index_zero_lem : ZerosAreIndexZero
zeros_are_index_zero_lem Black planes column zeros = zero_planes (take 1 planes) column (All-take AreZero 1 planes zeros)
zeros_are_index_zero_lem BlackAndCmy planes column zeros = zero_planes (take 4 planes) column (All-take AreZero 4 planes zeros)
zeros_are_index_zero_lem (DirectPlanes space) planes column zeros = zero_planes (take 3 planes) column
    (All-take AreZero 3 planes zeros)
zeros_are_index_zero_lem (IndexPlanes bits entries) planes column zeros = zero_planes (take (bits_of bits) planes) column
    (All-take AreZero (bits_of bits) planes zeros)
zeros_are_index_zero_lem (IndexPixels bits entries) planes column zeros =
    zero_bits (pixel_bits_of bits) (first_plane planes) column (first_all AreZero (All-nil (λ b. b ≡ 0)) planes zeros)
zeros_are_index_zero_lem (DirectPixels space) planes column zeros = zero_planes (take 1 planes) column
    (All-take AreZero 1 planes zeros)

no_planes : (count column : ℕ) → index_of_planes (take count []) column ≡ 0
unfolding index_of_planes
no_planes zero column = refl
no_planes (suc count) column = refl

no_bits : (column : ℕ) → bits_at 1 [] column ≡ 0
no_bits column = zero_bits 1 [] column (All-nil (λ b. b ≡ 0))

-- planes that have the same at a column have the same index there
same_planes : (count : ℕ) (planes other : List (List ℕ)) (column : ℕ)
    → ((p : ℕ) → p < count → bits_at 1 (get_or planes p []) column ≡ bits_at 1 (get_or other p []) column)
    → index_of_planes (take count planes) column ≡ index_of_planes (take count other) column
unfolding index_of_planes
same_planes zero planes other column same = refl
same_planes (suc count) [] [] column same = refl
same_planes (suc count) [] (q ∷ other) column same =
    let rest : index_of_planes (take count []) column ≡ index_of_planes (take count other) column =
    same_planes count [] other column (λ k h. same (suc k) (omega (arith, h))) in
    let here : bits_at 1 [] column ≡ bits_at 1 q column = same 0 (omega arith) in
    omega (arith, no_bits column, no_planes count column, rest, here)
same_planes (suc count) (p ∷ planes) [] column same =
    let rest : index_of_planes (take count planes) column ≡ index_of_planes (take count []) column =
    same_planes count planes [] column (λ k h. same (suc k) (omega (arith, h))) in
    let here : bits_at 1 p column ≡ bits_at 1 [] column = same 0 (omega arith) in
    omega (arith, no_bits column, no_planes count column, rest, here)
same_planes (suc count) (p ∷ planes) (q ∷ other) column same =
    ap₂ (λ (m n : ℕ). m + 2 * n) (same 0 (omega arith)) (same_planes count planes other column (λ k h. same (suc k) (omega
    (arith, h))))

same_direct : (space : Space) (plane other : List ℕ) (column : ℕ) → HaveSame (DirectPixels space) plane other column
    → direct space plane column ≡ direct space other column
same_direct space plane other column same =
    let first : get_or plane (3 * column) 0 ≡ get_or other (3 * column) 0 =
    let e : 3 * column + 0 ≡ 3 * column = omega arith in ap (λ (k : ℕ). get_or plane k 0) (sym e) ∙ same 0 (omega arith)
    ∙ ap (λ (k : ℕ). get_or other k 0) e in
    let second : get_or plane (3 * column + 1) 0 ≡ get_or other (3 * column + 1) 0 = same 1 (omega arith) in
    let third : get_or plane (3 * column + 2) 0 ≡ get_or other (3 * column + 2) 0 = same 2 (omega arith) in
    ap₂ (λ (m n : ℕ). mixed space m n (get_or plane (3 * column + 2) 0)) first second
    ∙ ap (λ (n : ℕ). mixed space (get_or other (3 * column) 0) (get_or other (3 * column + 1) 0) n) third

by_planes : (count : ℕ) (palette : List Colour) (planes other : List (List ℕ)) (column : ℕ)
    → ((p : ℕ) → p < count → bits_at 1 (get_or planes p []) column ≡ bits_at 1 (get_or other p []) column)
    → get_or palette (index_of_planes (take count planes) column) black ≡ get_or palette (index_of_planes
    (take count other) column) black
by_planes count palette planes other column same = ap (λ (n : ℕ). get_or palette n black)
    (same_planes count planes other column same)

pub dots_depend_on_their_bits_lem : DotsDependOnTheirBits
dots_depend_on_their_bits_lem Black palette planes other column same = by_planes 1 palette planes other column same
dots_depend_on_their_bits_lem BlackAndCmy palette planes other column same = by_planes 4 palette planes other column same
dots_depend_on_their_bits_lem (DirectPlanes space) palette planes other column same = by_planes 3 palette planes other column same
dots_depend_on_their_bits_lem (IndexPlanes bits entries) palette planes other column same = by_planes
    (bits_of bits) palette planes other column same
dots_depend_on_their_bits_lem (IndexPixels bits entries) palette planes other column same = ap (λ (n : ℕ). get_or palette n black)
    (same 0 (omega arith))
dots_depend_on_their_bits_lem (DirectPixels space) palette planes other column same =
    same_direct space (get_or planes 0 []) (get_or other 0 []) column (same 0 (omega arith))

-- colours
in_mixed : (space : Space) (a b d : ℕ) → a ≤ 255 → b ≤ 255 → d ≤ 255 → IsInRange (mixed space a b d)
in_mixed Rgb a b d h j k = record { red = h; green = j; blue = k }
in_mixed Cmy a b d h j k = record { red = omega arith; green = omega arith; blue = omega arith }

in_corner : (space : Space) (n : ℕ) → IsInRange (corner space n)
in_corner space n = in_mixed space _ _ _ (omega (arith, mod-lt n {m = 2})) (omega (arith, mod-lt (n / 2) {m = 2})) (omega
    (arith, mod-lt (n / 4) {m = 2}))

in_black : IsInRange black
in_black = record { red = omega arith; green = omega arith; blue = omega arith }

in_choice : (b : Bool) (x y : Colour) → IsInRange x → IsInRange y → IsInRange (cond b x y)
in_choice true x y h k = h
in_choice false x y h k = k

in_two : (n : ℕ) → IsInRange (of_two n)
in_two n = in_choice (n == 0) white black (record { red = omega arith; green = omega arith; blue = omega arith }) in_black

in_more : (space : Space) (n : ℕ) → IsInRange (of_more space n)
in_more space n = in_choice (nat_lt n 8) (corner space n) black (in_corner space n) in_black

in_four : (space : Space) (n : ℕ) → IsInRange (of_four space n)
in_four space n =
    in_choice (n == 3) (corner space 7) (cond (nat_lt n 3) (corner space n) black) (in_corner space 7) (in_choice (nat_lt n 3)
    (corner space n) black (in_corner space n) in_black)

in_index : (bits : ℕ) (space : Space) (n : ℕ) → IsInRange (of_index bits space n)
in_index bits space n =
    in_choice (bits == 1) (of_two n) (cond (bits == 2) (of_four space n) (of_more space n)) (in_two n)
    (in_choice (bits == 2) (of_four space n) (of_more space n) (in_four space n) (in_more space n))

in_start : (coding : Coding) (n : ℕ) → IsInRange (starting coding n)
in_start Black n = in_two n
in_start BlackAndCmy n = in_choice (n % 2 == 1) black (corner Cmy (n / 2)) in_black (in_corner Cmy (n / 2))
in_start (DirectPlanes space) n = in_more space n
in_start (IndexPlanes bits entries) n = in_index (bits_of bits) entries.space n
in_start (IndexPixels bits entries) n = in_index (pixel_bits_of bits) entries.space n
in_start (DirectPixels space) n = in_black

in_set : (entries : Entries) (parts : Parts) → IsInRange (set_colour entries parts)
in_set entries parts = in_mixed entries.space _ _ _ (omega arith) (omega arith) (omega arith)

set_in : (coding : Coding) (n : ℕ) (parts : Parts) (palette : List Colour) → All IsInRange palette
    → All IsInRange (with_entry coding n parts palette)
set_in Black n parts palette all = all
set_in BlackAndCmy n parts palette all = all
set_in (DirectPlanes space) n parts palette all = all
set_in (IndexPlanes bits entries) n parts palette all = All-set IsInRange palette n (set_colour entries parts)
    (in_set entries parts) all
set_in (IndexPixels bits entries) n parts palette all = All-set IsInRange palette n (set_colour entries parts)
    (in_set entries parts) all
set_in (DirectPixels space) n parts palette all = all

entry_in : (palette : List Colour) (n : ℕ) → All IsInRange palette → IsInRange (get_or palette n black)
entry_in palette n all = elim (cases_lt n (length palette)) [
  | inl h ↦ all n black h
  | inr h ↦ rw
      (get_or_past palette n black h) in_black
]

direct_in : (space : Space) (plane : List ℕ) (column : ℕ) → All (λ b. b ≤ 255) plane → IsInRange (direct space plane column)
direct_in space plane column all =
    in_mixed space _ _ _ (byte_in (λ b. b ≤ 255) (omega arith) plane (3 * column) all) (byte_in (λ b. b ≤ 255) (omega arith) plane
    (3 * column + 1) all)
    (byte_in (λ b. b ≤ 255) (omega arith) plane (3 * column + 2) all)

dot_in : (coding : Coding) (palette : List Colour) (planes : List (List ℕ)) (column : ℕ) → All IsInRange palette
    → All (λ plane. All (λ b. b ≤ 255) plane) planes
    → IsInRange (colour_of coding palette planes column)
dot_in Black palette planes column all bytes = entry_in palette (index_of Black planes column) all
dot_in BlackAndCmy palette planes column all bytes = entry_in palette (index_of BlackAndCmy planes column) all
dot_in (DirectPlanes space) palette planes column all bytes = entry_in palette (index_of (DirectPlanes space) planes column) all
dot_in (IndexPlanes bits entries) palette planes column all bytes = entry_in palette (index_of
    (IndexPlanes bits entries) planes column) all
dot_in (IndexPixels bits entries) palette planes column all bytes = entry_in palette (index_of
    (IndexPixels bits entries) planes column) all
dot_in (DirectPixels space) palette planes column all bytes =
    direct_in space (first_plane planes) column (first_all (λ plane. All (λ b. b ≤ 255) plane) (All-nil
    (λ b. b ≤ 255)) planes bytes)

start_in : (coding : Coding) → All IsInRange (start coding)
unfolding start
start_in coding = All-map IsInRange (starting coding) (range_with_len 0 256) (λ k d h. in_start coding (get_or
    (range_with_len 0 256) k d))

pub dots_have_colours_lem : DotsHaveColours
dots_have_colours_lem = record { start = start_in; set = set_in; dot = dot_in }
