-- Rows of bits, each after the command that transfers it, are the rows of PCL.
use Rattle.std.proofs.Common.{◌≡◌, ℕ, zero, suc, ◌+◌, ◌*◌, ◌/◌, ◌<◌, List, [], ◌∷◌, ◌++◌, All, length, take, drop, map, get_or}
use Rattle.std.proofs.Common.{flat_map, refl, sym, ap, ◌∙◌, arith, length-append}
use Rattle.std.proofs.Math.Nat.{div-eq_of_eq-mul_left}
use Rattle.std.proofs.lemmas.Grind.{take_at_read}
use Rattle.std.proofs.lemmas.List.{flat_map_more, length-drop, length-take-le}
use Rattle.std.proofs.lemmas.List.Concat.{flat_map-cons}
use Rattle.stroke_raster.specs.Rows.{split_rows}
use Rattle.stroke_raster.proofs.Rows.{get_or-split_rows, length-split_rows}
use Rattle.bit_rows.specs.Bits.{packed}
use Rattle.picture_out.specs.declared.form.Form.TheVariants.{Pcl}
use Rattle.picture_out.specs.declared.inks.Ink.{Ink}
use Rattle.picture_out.specs.Pcl as pcl
use Rattle.picture_out.specs.Pcl.{transfer_command}
use Rattle.rows.specs.Progress.{AreEven, rows_text}

-- one more row
pub row_more : (s k n i : ℕ) (bits text next : List ℕ) → i < n → k ≡ s → text ≡ flat_map pcl.row (take i (split_rows s n bits))
    → next ≡ text ++ pcl.row (take k (drop (i * s) bits)) → next ≡ flat_map pcl.row (take (i + 1) (split_rows s n bits))
row_more s k n i bits text next h d e f =
    let rows = split_rows s n bits in
    let row = get_or-split_rows s n i bits h in
    let inside : i < length rows = omega (arith, h, length-split_rows s n bits) in
    f ∙ ap (λ (m : ℕ). text ++ pcl.row (take m (drop (i * s) bits))) d
    ∙ ap (λ (z : List ℕ). z ++ pcl.row (take s (drop (i * s) bits))) e
    ∙ ap (λ (z : List ℕ). flat_map pcl.row (take i rows) ++ pcl.row z) (sym row)
    ∙ flat_map_more pcl.row [] (take i rows) (get_or rows i [])
    ∙ ap (flat_map pcl.row) (sym (take_at_read rows i [] inside).1)

-- rows of as many bits have as many bytes
even : (inks : List Ink) (at s : ℕ) (rows : List (List ℕ)) → All (λ (row : List ℕ). length (packed row) ≡ s) rows → AreEven Pcl inks at rows (length (transfer_command s) + s)
even inks at s rows wide = λ k h.
    let bytes = packed (get_or rows k []) in
    let one : length bytes ≡ s = wide k [] h in
    length-append (transfer_command (length bytes)) bytes ∙ ap (λ (n : ℕ). length (transfer_command n) + n) one

text_is : (inks : List Ink) (at : ℕ) (rows : List (List ℕ)) → flat_map pcl.row (map packed rows) ≡ rows_text Pcl inks at rows
text_is inks at [] = refl
text_is inks at (x ∷ xs) = flat_map-cons pcl.row (packed x) (map packed xs) ∙ ap (λ (z : List ℕ). pcl.row (packed x) ++ z) (text_is inks (at + 1) xs)

-- the text of n rows of s bytes each
pub pcl_size : (s n : ℕ) (bits : List ℕ) → s * n ≡ length bits → length (flat_map pcl.row (split_rows s n bits)) ≡ n * (length (transfer_command s) + s)
pcl_size s zero bits fit = omega arith
pcl_size s (suc n) bits fit =
    let command = transfer_command (length (take s bits)) in
    let first : length (take s bits) ≡ s = length-take-le s bits (omega (arith, fit)) in
    let others = pcl_size s n (drop s bits) (omega (arith, fit, length-drop s bits)) in
    let row : length (pcl.row (take s bits)) ≡ length (transfer_command s) + s = length-append command (take s bits) ∙ ap (λ (k : ℕ). length (transfer_command k) + k) first in
    let parts = ap length (flat_map-cons pcl.row (take s bits) (split_rows s n (drop s bits))) ∙ length-append (pcl.row (take s bits)) (flat_map pcl.row (split_rows s n (drop s bits))) in
    omega (arith, parts, row, others)

-- each has an n-th of it
pub nth_part : (s n used : ℕ) (bits text : List ℕ) → 0 < n → length bits ≡ n * s → length text ≡ used → text ≡ flat_map pcl.row (split_rows s n bits)
    → used / n ≡ length (transfer_command s) + s
nth_part s n used bits text some fit long made =
    let all = pcl_size s n bits (omega (arith, fit)) in
    let count : used ≡ (length (transfer_command s) + s) * n = omega (arith, long, ap length made, all) in
    div-eq_of_eq-mul_left some count

-- and they are the rows of a picture
pub even_part : (inks : List Ink) (at s size : ℕ) (rows : List (List ℕ)) → size ≡ length (transfer_command s) + s → All (λ (row : List ℕ). length (packed row) ≡ s) rows → AreEven Pcl inks at rows size
even_part inks at s size rows one wide = rw one (even inks at s rows wide)

pub whole_text : (inks : List Ink) (at : ℕ) (rows parts : List (List ℕ)) (text : List ℕ) → parts ≡ map packed rows → text ≡ flat_map pcl.row parts → text ≡ rows_text Pcl inks at rows
whole_text inks at rows parts text split made = made ∙ ap (flat_map pcl.row) split ∙ text_is inks at rows
