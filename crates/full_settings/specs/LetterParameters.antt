-- What the numbers of SR (Relative Character Size), SL (Character Slant), DI (Absolute Direction), DR (Relative
-- Direction), ES (Extra Space), LO (Label Origin) and DV (Define Variable Text Path) ask for, or None if they are
-- wrong. Numbers are in millionths, and those after the last that an instruction has are ignored.
use Rattle.std.specs.Prelude.{ℕ, ◌*◌, ◌^◌, ◌≤◌, ◌<◌, ◌+◌, ◌%◌, ℤ, pos, negsuc, ◌+ℤ◌, nat_abs, Bool, not, ◌&&◌, ◌||◌, ⊤}
use Rattle.std.specs.Prelude.{List, [], ◌∷◌, Option, Some, None, if◌then◌else◌}
use Rattle.std.specs.Ordering.{int_eq}
use Rattle.exact.specs.Ranges.{is_between}
use Rattle.lettering.specs.declared.style.LineFeed.{LineFeed}
use Rattle.lettering.specs.declared.style.LineFeed.TheVariants.{Normal, Reverse}
use Rattle.lettering.specs.declared.style.Path.{Path}
use Rattle.lettering.specs.declared.style.Path.TheVariants.{Right, Down, Left, Up}
use Rattle.plot_frame.specs.declared.pair.Pair.{Pair}
use Rattle.plot_settings.specs.Parameters.{whole_of, when}
use Rattle.full_settings.specs.Percentages.{is_percentage}
use Rattle.full_settings.specs.declared.letter_setting.LetterSetting.{LetterSetting}
use Rattle.full_settings.specs.declared.letter_setting.LetterSetting.TheVariants as setting

abbrev pub pair_of : ℤ → ℤ → Pair ℤ
pair_of x y = record { x = x; y = y }

-- SR width, height: percentages of the distances from P1 to P2, 0.75 and 1.5 if none is named
abbrev pub is_relative_size : ℤ → Bool
is_relative_size n = not (int_eq n (pos 0)) && is_percentage n

abbrev pub relative_size : List ℤ → Option LetterSetting
relative_size [] = Some (setting.RelativeSize (pair_of (pos 750000) (pos 1500000)))
relative_size (w ∷ []) = None
relative_size (w ∷ (h ∷ ns)) = when (is_relative_size w && is_relative_size h) (setting.RelativeSize (pair_of w h))

-- SL tangent: -1000 to 1000, which is our choice; 0 if none is named
abbrev pub is_tangent : ℤ → Bool
is_tangent n = is_between (negsuc 999999999) (pos 1000000000) n

abbrev pub slant : List ℤ → Option LetterSetting
slant [] = Some (setting.Slant (pos 0))
slant (n ∷ ns) = when (is_tangent n) (setting.Slant n)

-- a run and a rise are not both 0
abbrev pub is_vector : ℤ → ℤ → Bool
is_vector x y = not (int_eq x (pos 0) && int_eq y (pos 0))

-- DI run, rise: to the right if none is named
abbrev pub letter_direction : List ℤ → Option LetterSetting
letter_direction [] = Some (setting.Direction (pair_of (pos 1000000) (pos 0)))
letter_direction (x ∷ []) = None
letter_direction (x ∷ (y ∷ ns)) = when (is_vector x y) (setting.Direction (pair_of x y))

-- DR run, rise: percentages of the distances from P1 to P2; to the right if none is named
abbrev pub relative_direction : List ℤ → Option LetterSetting
relative_direction [] = Some (setting.RelativeDirection (pair_of (pos 1000000) (pos 0)))
relative_direction (x ∷ []) = None
relative_direction (x ∷ (y ∷ ns)) = when (is_vector x y) (setting.RelativeDirection (pair_of x y))

-- ES spaces, lines: how much more than a letter's cell a step to the next letter takes, and one to the next line; 0 if
-- none is named. That they are -100 to 100 is our choice
abbrev pub is_space : ℤ → Bool
is_space n = is_between (negsuc 99999999) (pos 100000000) n

abbrev pub more_than_1 : ℤ → ℤ
more_than_1 n = pos (10 ^ 6) +ℤ n

abbrev pub spacing_by : ℤ → ℤ → Option LetterSetting
spacing_by x y = when (is_space x && is_space y) (setting.Step (pair_of (more_than_1 x) (more_than_1 y)))

abbrev pub space : List ℤ → Option LetterSetting
space [] = spacing_by (pos 0) (pos 0)
space (x ∷ []) = spacing_by x (pos 0)
space (x ∷ (y ∷ ns)) = spacing_by x y

-- LO position: 1 to 9, 11 to 19, or 21, which is 1; 1 if none is named
abbrev pub is_origin : ℤ → Bool
is_origin n = is_between (pos 1) (pos 9) n || is_between (pos 11) (pos 19) n

abbrev pub origin_by : ℤ → Option LetterSetting
origin_by n =
    if int_eq n (pos 21) then Some (setting.Origin 1) else when (is_origin n) (setting.Origin (nat_abs n))

abbrev pub letter_origin : List ℤ → Option LetterSetting
letter_origin [] = Some (setting.Origin 1)
letter_origin (n ∷ ns) = origin_by (whole_of n)

-- DV path, line: the path 0 to the right, 1 down, 2 to the left, 3 up; line 1 for a reverse line feed; each 0 if it is
-- not named
abbrev pub path_by : ℤ → Option Path
path_by n =
    if int_eq n (pos 0) then Some Right else
    if int_eq n (pos 1) then Some Down else
    if int_eq n (pos 2) then Some Left else
    if int_eq n (pos 3) then Some Up else
    None

abbrev pub line_feed_by : ℤ → Option LineFeed
line_feed_by n =
    if int_eq n (pos 0) then Some Normal else
    if int_eq n (pos 1) then Some Reverse else
    None

abbrev pub path_and_line : Option Path → Option LineFeed → Option LetterSetting
path_and_line (Some path) (Some line) = Some (setting.Path path line)
path_and_line _ _ = None

abbrev pub text_path : List ℤ → Option LetterSetting
text_path [] = path_and_line (path_by (pos 0)) (line_feed_by (pos 0))
text_path (p ∷ []) = path_and_line (path_by (whole_of p)) (line_feed_by (pos 0))
text_path (p ∷ (l ∷ ns)) = path_and_line (path_by (whole_of p)) (line_feed_by (whole_of l))

-- both numbers are at most n on either side of 0
pub record IsPairWithin (n : ℕ) (p : Pair ℤ) : Type 0 where
  pub x_in : nat_abs p.x ≤ n
  pub y_in : nat_abs p.y ≤ n

-- a run and a rise that have a direction
pub record IsHeading (p : Pair ℤ) : Type 0 where
  pub run_in : nat_abs p.x ≤ 2 ^ 55
  pub rise_in : nat_abs p.y ≤ 2 ^ 55
  pub not_both : 0 < nat_abs p.x + nat_abs p.y

pub record IsOrigin (n : ℕ) : Type 0 where
  pub digit : 1 ≤ n % 10
  pub most : n ≤ 19

-- what is set is in its range
abbrev pub IsLetterSetting : LetterSetting → Type 0
IsLetterSetting (setting.RelativeSize size) = IsPairWithin (10 ^ 9) size
IsLetterSetting (setting.Direction heading) = IsHeading heading
IsLetterSetting (setting.RelativeDirection heading) = IsHeading heading
IsLetterSetting (setting.Slant tangent) = nat_abs tangent ≤ 10 ^ 9
IsLetterSetting (setting.Step step) = IsPairWithin (101 * 10 ^ 6) step
IsLetterSetting (setting.Origin n) = IsOrigin n
IsLetterSetting _ = ⊤
