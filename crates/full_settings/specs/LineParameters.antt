-- What the numbers of LT (Line Type) and UL (User-Defined Line Type) ask for, or None if they are wrong. Numbers are in
-- millionths, and those after the last that an instruction has are ignored.
use Rattle.std.specs.Prelude.{ℕ, ◌^◌, ℤ, pos, negsuc, nat_abs, int_lt, int_le, nat_lt, nat_le, Bool, ◌&&◌}
use Rattle.std.specs.Prelude.{List, [], ◌∷◌, map, take, sum, Option, Some, None, if◌then◌else◌}
use Rattle.std.specs.List.{list_all}
use Rattle.std.specs.Ordering.{int_eq}
use Rattle.exact.specs.Ranges.{is_between}
use Rattle.plot_settings.specs.Parameters.{whole_of}
use Rattle.full_settings.specs.declared.line_setting.LineSetting.{LineSetting}
use Rattle.full_settings.specs.declared.line_setting.LineSetting.TheVariants as setting
use Rattle.full_settings.specs.declared.line_setting.PatternLength.{PatternLength}
use Rattle.full_settings.specs.declared.line_setting.PatternLength.TheVariants.{Percent, Millimetres}

abbrev pub is_type : ℤ → Bool
is_type n = is_between (negsuc 7) (pos 8) n

-- a length is above 0; it is in percent of the distance from P1 to P2, or by mode 1 in millimetres
abbrev pub length_in : ℤ → ℕ → Option PatternLength
length_in mode size =
    if int_eq mode (pos 0) then Some (Percent size) else
    if int_eq mode (pos 1) then Some (Millimetres size) else
    None

abbrev pub length_given : ℤ → ℤ → Option PatternLength
length_given size mode = if int_lt (pos 0) size then length_in mode (nat_abs size) else None

abbrev pub with_length : ℤ → Option PatternLength → Option LineSetting
with_length n (Some l) = Some (setting.TypeAndLength n l)
with_length n None = None

abbrev pub typed : ℤ → List ℤ → Option LineSetting
typed n [] = Some (setting.Type n)
typed n (size ∷ []) = with_length n (length_given size (pos 0))
typed n (size ∷ (mode ∷ ns)) = with_length n (length_given size (whole_of mode))

abbrev pub type_given : ℤ → List ℤ → Option LineSetting
type_given n ns = if is_type n then typed n ns else None

-- LT type, length, mode: solid if none is named, and by 99 the type before
abbrev pub line_type : List ℤ → Option LineSetting
line_type [] = Some setting.Solid
line_type (t ∷ ns) = if int_eq (whole_of t) (pos 99) then Some setting.Again else type_given (whole_of t) ns

-- gaps are at least 0 and not all 0; 20 numbers of a plot are always below 2^48 together
abbrev pub are_positive : List ℤ → Bool
are_positive gaps = list_all (λ g. int_le (pos 0) g) gaps

abbrev pub has_length : List ℕ → Bool
has_length gaps = nat_lt 0 (sum gaps) && nat_lt (sum gaps) (2 ^ 48)

abbrev pub gaps_of_length : List ℕ → Option (List ℕ)
gaps_of_length gaps = if has_length gaps then Some gaps else None

abbrev pub gaps_given : List ℤ → Option (List ℕ)
gaps_given gaps = if are_positive gaps then gaps_of_length (map nat_abs gaps) else None

abbrev pub own_pattern : ℕ → Option (List ℕ) → Option LineSetting
own_pattern n (Some gaps) = Some (setting.OwnPattern n gaps)
own_pattern n None = None

abbrev pub pattern_given : ℕ → List ℤ → Option LineSetting
pattern_given n [] = Some (setting.UsualPattern n)
pattern_given n (g ∷ gs) = own_pattern n (gaps_given (take 20 (g ∷ gs)))

abbrev pub is_pattern_type : ℕ → Bool
is_pattern_type n = nat_le 1 n && nat_le n 8

-- UL index, gaps: without gaps the usual patterns of the type, and without an index those of all
abbrev pub user_line_type : List ℤ → Option LineSetting
user_line_type [] = Some setting.UsualPatterns
user_line_type (i ∷ gaps) =
    let n = nat_abs (whole_of i) in if is_pattern_type n then pattern_given n gaps else None
