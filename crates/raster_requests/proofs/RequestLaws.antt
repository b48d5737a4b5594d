-- What holds of requests.
use Rattle.std.proofs.Common.{◌≡◌, ℕ, zero, suc, ◌+◌, ◌*◌, ◌/◌, ◌^◌, ◌≤◌, ◌==◌, Bool, true, false, ◌&&◌, ◌||◌, if◌then◌else◌, List, Option, Some, None, refl, sym, ap, ◌∙◌, arith}
use Rattle.std.specs.Prelude.{ℤ, pos, neg_ℤ, negsuc, ◌*ℤ◌, ◌≤ℤ◌, min, option_map}
use Rattle.std.specs.Ordering.{int_eq}
use Rattle.std.proofs.lemmas.Bool.{true≢false}
use Rattle.std.proofs.lemmas.Int.{ints}
use Rattle.exact.specs.Fraction.{round, quotient}
use Rattle.exact.specs.Ranges.{is_between}
use Rattle.exact.proofs.Between.{exactly, at_most}
use Rattle.hpgl_text.specs.Bytes.{byte}
use Rattle.escapes.specs.declared.command.Sign.{Sign}
use Rattle.escapes.specs.declared.command.Sign.TheVariants.{Unsigned, Plus, Minus}
use Rattle.escapes.specs.Commands.{Said, is_byte, count_of}
use Rattle.raster_requests.specs.declared.image.TheConstants.{GREATEST_WIDTH}
use Rattle.raster_requests.specs.declared.image.ImageSetting.TheVariants.{Resolution, Width, Height}
use Rattle.raster_requests.specs.declared.request.Request.TheVariants.{Set, MoveRows, PaletteEntry, Unit}
use Rattle.raster_requests.specs.Values.{signed_value, whole_value, with_sign}
use Rattle.raster_requests.specs.Images.{rows_moved, above_0, resolution_of, width_of, height_of, coding_of, transparency_of}
use Rattle.raster_requests.specs.Requests.{asked_of, unit_of, asked_of_rows, asked_of_place, asked_of_colours, asked_of_decipoints, asked_of_resolution, asked_of_image, asked_of_page, asked_of_language, asked_of_unit, asked_of_pcl, asked_of_raster}
use Rattle.raster_requests.specs.Laws.{DataAreNotRead, IsAsWritten, HasData, RequestsAreAsWritten, WholeValuesAreKept, DataAreRoundedAlike}

not_read : (group : Option ℕ) (command : Said) (input : List ℕ) → asked_of group
    (record command { input = input }) ≡ asked_of group command
not_read None command input = refl
not_read (Some group) command input = refl

pub data_are_not_read_lem : DataAreNotRead
data_are_not_read_lem command input = not_read command.group command input

-- a whole value
kept : (command : Said) (n : ℤ) → signed_value command ≡ pos 1000000 *ℤ n → whole_value command ≡ n
kept command n e = exactly 1000000 (signed_value command) n (omega arith) e

halves : (n : ℕ) → (2 * (n * 1000000) + 1000000) / 2000000 ≡ n
halves n = omega arith

resolution_kept : (n : ℕ) → 10 ≤ n → n ≤ 2400 → resolution_of (pos n) ≡ Resolution n
resolution_kept n least most = grind arith

unit_kept : (n : ℕ) → 10 ≤ n → n ≤ 9600 → unit_of (pos n) ≡ Unit n
unit_kept n least most = grind arith

above_kept : (n : ℕ) → 1 ≤ n → above_0 (pos n) ≡ Some n
above_kept n least = grind arith

width_kept : (n : ℕ) → 1 ≤ n → n ≤ GREATEST_WIDTH → width_of (pos n) ≡ Width (Some n)
width_kept n least most =
    let m : min n GREATEST_WIDTH ≡ n = omega (arith, most) in
    ap (λ (z : Option ℕ). Width (option_map (λ dots. min dots GREATEST_WIDTH) z)) (above_kept n least) ∙ ap (λ (z : ℕ). Width
    (Some z)) m

moved : (n : ℕ) → rows_moved (pos n) ≡ n
moved n = grind arith

pub whole_values_are_kept_lem : WholeValuesAreKept
whole_values_are_kept_lem = record {
  whole = kept;
  resolution = λ n least most. ap (λ (z : ℕ). Set (resolution_of (pos z))) (halves n) ∙ ap Set (resolution_kept n least most);
  width = λ n least most. ap (λ (z : ℕ). Set (width_of (pos z))) (halves n) ∙ ap Set (width_kept n least most);
  height = λ n least. ap (λ (z : ℕ). Set (height_of (pos z))) (halves n) ∙ ap (λ (z : Option ℕ). Set (Height z))
      (above_kept n least);
  rows = λ n. ap MoveRows (moved ((2 * (n * 1000000) + 1000000) / 2000000) ∙ halves n);
  entry = λ n. ap (λ (z : ℕ). PaletteEntry (pos z)) (halves n);
  unit = λ n least most. ap (λ (z : ℕ). unit_of (pos z)) (halves n) ∙ unit_kept n least most;
}

none_moved : (z : ℤ) → z ≤ℤ pos 0 → rows_moved z ≡ 0
none_moved (pos zero) h = refl
none_moved (pos (suc n)) h = absurd (omega (arith, ints))
none_moved (negsuc n) h = refl

counted : (m : ℕ) → (m + 500000) / 10 ^ 6 ≡ rows_moved (pos ((2 * m + 1000000) / 2000000))
counted m =
    let e : (m + 500000) / 10 ^ 6 ≡ (2 * m + 1000000) / 2000000 = omega arith in
    e ∙ sym (moved ((2 * m + 1000000) / 2000000))

rounded_alike : (sign : Sign) (m : ℕ) → count_of sign m ≡ rows_moved (round (record { over = with_sign sign m; under = 1000000 }))
rounded_alike Unsigned m = counted m
rounded_alike Plus m = counted m
rounded_alike Minus m = sym (none_moved (round (quotient (neg_ℤ (pos m)) (pos 1000000))) (at_most 1000000 (neg_ℤ (pos m))
    (pos 0) (omega arith) (omega (arith, ints))))

pub data_are_rounded_alike_lem : DataAreRoundedAlike
data_are_rounded_alike_lem command = rounded_alike command.sign command.millionths

-- a choice, in which each part has what the other has
by_if : {A : Type 0} (P : A → Type 0) (b : Bool) (x y : A) → (b ≡ true → P x) → (b ≡ false → P y) → P (if b then x else y)
by_if P true x y p q = p refl
by_if P false x y p q = q refl

-- data of W, and of V after *b
has_w : (w v x : Bool) → w ≡ true → (w || v || x) ≡ true
has_w true v x e = refl
has_w false v x e = absurd (true≢false (sym e))

has_v : (w group parameter v x : Bool) → group ≡ true → parameter ≡ true → v ≡ true → (w || (group && parameter && v) || x) ≡ true
has_v true group parameter v x e f g = refl
has_v false true true true x e f g = refl
has_v false true true false x e f g = absurd (true≢false (sym g))
has_v false true false v x e f g = absurd (true≢false (sym f))
has_v false false parameter v x e f g = absurd (true≢false (sym e))

is_x : Said → Bool
is_x command = is_byte command.group (byte "&") && is_byte command.parameter (byte "p") && (command.letter == byte "X")

is_v : Said → Bool
is_v command = is_byte command.group (byte "*") && is_byte command.parameter (byte "b") && (command.letter == byte "V")

data_of_w : (command : Said) → command.letter == byte "W" ≡ true → HasData command
unfolding is_x is_v
data_of_w command e = has_w (command.letter == byte "W") (is_v command) (is_x command) e

data_of_v : (command : Said) → is_byte command.group (byte "*") ≡ true → is_byte command.parameter (byte "b") ≡ true
    → command.letter == byte "V" ≡ true
    → HasData command
unfolding is_x
data_of_v command group parameter e =
    has_v (command.letter == byte "W") (is_byte command.group (byte "*")) (is_byte command.parameter (byte "b"))
    (command.letter == byte "V") (is_x command) group parameter e

rows_written : (command : Said) → is_byte command.group (byte "*") ≡ true → is_byte command.parameter (byte "b") ≡ true
    → IsAsWritten command (asked_of_rows command.letter (whole_value command))
rows_written command group parameter =
    by_if (IsAsWritten command) (command.letter == byte "M") _ _ (λ _. tt)
    (λ _. by_if (IsAsWritten command) (command.letter == byte "V") _ _ (λ e. data_of_v command group parameter e)
    (λ _. by_if (IsAsWritten command) (command.letter == byte "W") _ _ (λ e. data_of_w command e)
    (λ _. by_if (IsAsWritten command) (command.letter == byte "Y") _ _ (λ _. tt)
    (λ _. tt))))

place_written : (command : Said) → IsAsWritten command (asked_of_place command.letter command)
place_written command =
    by_if (IsAsWritten command) (command.letter == byte "X") _ _ (λ _. (refl, refl))
    (λ _. by_if (IsAsWritten command) (command.letter == byte "Y") _ _ (λ _. (refl, refl))
    (λ _. tt))

decipoints_written : (command : Said) → IsAsWritten command (asked_of_decipoints command.letter command)
decipoints_written command =
    by_if (IsAsWritten command) (command.letter == byte "H") _ _ (λ _. (refl, refl))
    (λ _. by_if (IsAsWritten command) (command.letter == byte "V") _ _ (λ _. (refl, refl))
    (λ _. tt))

coding_written : (command : Said) (n : ℤ) → IsAsWritten command (Set (coding_of n))
coding_written command n =
    by_if (λ z. IsAsWritten command (Set z)) (int_eq n (pos 1) || int_eq n (negsuc 0)) _ _ (λ _. tt)
    (λ _. by_if (λ z. IsAsWritten command (Set z)) (int_eq n (pos 3)) _ _ (λ _. tt)
    (λ _. by_if (λ z. IsAsWritten command (Set z)) (int_eq n (negsuc 2)) _ _ (λ _. tt)
    (λ _. by_if (λ z. IsAsWritten command (Set z)) (int_eq n (negsuc 3)) _ _ (λ _. tt) (λ _. tt))))

transparency_written : (command : Said) (n : ℤ) → IsAsWritten command (Set (transparency_of n))
transparency_written command n =
    by_if (λ z. IsAsWritten command (Set z)) (int_eq n (pos 0)) _ _ (λ _. tt)
    (λ _. by_if (λ z. IsAsWritten command (Set z)) (int_eq n (pos 1)) _ _ (λ _. tt) (λ _. tt))

resolution_written : (command : Said) (n : ℤ) → IsAsWritten command (Set (resolution_of n))
resolution_written command n = by_if (λ z. IsAsWritten command (Set z)) (is_between (pos 10) (pos 2400) n) _ _ (λ _. tt) (λ _. tt)

image_written : (command : Said) → IsAsWritten command (asked_of_image command.letter (whole_value command))
image_written command =
    by_if (IsAsWritten command) (command.letter == byte "A") _ _ (λ _. tt)
    (λ _. by_if (IsAsWritten command) (command.letter == byte "B") _ _ (λ _. tt)
    (λ _. by_if (IsAsWritten command) (command.letter == byte "C") _ _ (λ _. tt)
    (λ _. by_if (IsAsWritten command) (command.letter == byte "S") _ _ (λ _. tt)
    (λ _. by_if (IsAsWritten command) (command.letter == byte "T") _ _ (λ _. tt)
    (λ _. by_if (IsAsWritten command) (command.letter == byte "U") _ _ (λ _. coding_written command (whole_value command))
    (λ _. by_if (IsAsWritten command) (command.letter == byte "F" || command.letter == byte "L" || command.letter == byte "Q") _
    _ (λ _. tt)
    (λ _. tt)))))))

colours_written : (command : Said) → IsAsWritten command (asked_of_colours command.letter (whole_value command))
colours_written command =
    by_if (IsAsWritten command) (command.letter == byte "A") _ _ (λ _. tt)
    (λ _. by_if (IsAsWritten command) (command.letter == byte "B") _ _ (λ _. tt)
    (λ _. by_if (IsAsWritten command) (command.letter == byte "C") _ _ (λ _. tt)
    (λ _. by_if (IsAsWritten command) (command.letter == byte "I") _ _ (λ _. tt)
    (λ _. by_if (IsAsWritten command) (command.letter == byte "N") _ _ (λ _. transparency_written command (whole_value command))
    (λ _. by_if (IsAsWritten command) (command.letter == byte "W") _ _ (λ e. data_of_w command e)
    (λ _. tt))))))

dots_written : (command : Said) → IsAsWritten command (asked_of_resolution command.letter (whole_value command))
dots_written command =
    by_if (IsAsWritten command) (command.letter == byte "R") _ _ (λ _. resolution_written command (whole_value command))
    (λ _. tt)

unit_written : (command : Said) (n : ℤ) → IsAsWritten command (unit_of n)
unit_written command n = by_if (IsAsWritten command) (is_between (pos 10) (pos 9600) n) _ _ (λ _. tt) (λ _. tt)

page_written : (command : Said) → IsAsWritten command (asked_of_page command.letter (whole_value command))
page_written command =
    by_if (IsAsWritten command) (command.letter == byte "H") _ _
    (λ _. by_if (IsAsWritten command) (int_eq (whole_value command) (pos 0)) _ _ (λ _. tt) (λ _. tt)) (λ _. tt)

language_written : (command : Said) → IsAsWritten command (asked_of_language command.letter (whole_value command))
language_written command =
    by_if (IsAsWritten command) (command.letter == byte "A") _ _ (λ _. tt)
    (λ _. by_if (IsAsWritten command) (command.letter == byte "B") _ _ (λ _. tt)
    (λ _. by_if (IsAsWritten command) (command.letter == byte "X") _ _
    (λ _. by_if (IsAsWritten command) (int_eq (whole_value command) (negsuc 12344)) _ _ (λ _. tt) (λ _. tt)) (λ _. tt)))

units_written : (command : Said) → IsAsWritten command (asked_of_unit command.letter (whole_value command))
units_written command =
    by_if (IsAsWritten command) (command.letter == byte "D") _ _ (λ _. unit_written command (whole_value command))
    (λ _. tt)

pcl_written : (command : Said) → IsAsWritten command (asked_of_pcl command.parameter command)
pcl_written command =
    by_if (IsAsWritten command) (is_byte command.parameter (byte "a")) _ _ (λ _. decipoints_written command)
    (λ _. by_if (IsAsWritten command) (is_byte command.parameter (byte "l")) _ _ (λ _. page_written command)
    (λ _. by_if (IsAsWritten command) (is_byte command.parameter (byte "u")) _ _ (λ _. units_written command)
    (λ _. tt)))

raster_written : (command : Said) → is_byte command.group (byte "*") ≡ true → IsAsWritten command
    (asked_of_raster command.parameter command)
raster_written command group =
    by_if (IsAsWritten command) (is_byte command.parameter (byte "b")) _ _ (λ e. rows_written command group e)
    (λ _. by_if (IsAsWritten command) (is_byte command.parameter (byte "p")) _ _ (λ _. place_written command)
    (λ _. by_if (IsAsWritten command) (is_byte command.parameter (byte "r")) _ _ (λ _. image_written command)
    (λ _. by_if (IsAsWritten command) (is_byte command.parameter (byte "t")) _ _ (λ _. dots_written command)
    (λ _. by_if (IsAsWritten command) (is_byte command.parameter (byte "v")) _ _ (λ _. colours_written command)
    (λ _. by_if (IsAsWritten command) (is_byte command.parameter (byte "l") || is_byte command.parameter (byte "o")) _ _
    (λ _. tt) (λ _. tt))))))

all_written : (command : Said) (group : Option ℕ) → command.group ≡ group → IsAsWritten command (asked_of group command)
all_written command None e = by_if (IsAsWritten command) (command.letter == byte "E") _ _ (λ _. tt) (λ _. tt)
all_written command (Some group) e =
    by_if (IsAsWritten command) (group == byte "%") _ _ (λ _. language_written command)
    (λ _. by_if (IsAsWritten command) (group == byte "&") _ _ (λ _. pcl_written command)
    (λ _. by_if (IsAsWritten command) (group == byte "(" || group == byte ")") _ _ (λ _. tt)
    (λ _. by_if (IsAsWritten command) (group == byte "*") _ _ (λ h. raster_written command (ap (λ (z : Option ℕ). is_byte z
    (byte "*")) e ∙ h)) (λ _. tt))))

pub requests_are_as_written_lem : RequestsAreAsWritten
requests_are_as_written_lem command = all_written command command.group refl
