-- What the numbers of IR (Input Relative P1 and P2) ask for, or None if they are wrong, and the P1 and P2 that it sets
-- on a page. Numbers are in millionths, and those after the last that IR has are ignored.
use Rattle.std.specs.Prelude.{ℕ, ◌*◌, ◌^◌, ℤ, pos, ◌*ℤ◌, ◌-ℤ◌, ◌&&◌, List, [], ◌∷◌, Option, Some, None, ⊤}
use Rattle.exact.specs.Fraction.{round}
use Rattle.plot_frame.specs.declared.pair.Pair.{Pair}
use Rattle.plot_settings.specs.Parameters.{when, points_at}
use Rattle.plot_settings.specs.declared.setting.Setting.{Setting}
use Rattle.plot_settings.specs.declared.setting.Setting.TheVariants.{PageCorners, FirstPoint, BothPoints}
use Rattle.full_settings.specs.LetterParameters.{pair_of, IsPairWithin}
use Rattle.full_settings.specs.Percentages.{is_percentage}
use Rattle.full_settings.specs.declared.page_points.RelativePoints.{RelativePoints}
use Rattle.full_settings.specs.declared.page_points.RelativePoints.TheVariants.{Page, First, Both}

-- a point in percent of the page
abbrev pub relative_point : ℤ → ℤ → Option (Pair ℤ)
relative_point x y = when (is_percentage x && is_percentage y) (pair_of x y)

abbrev pub first_point : Option (Pair ℤ) → Option RelativePoints
first_point (Some p) = Some (First p)
first_point None = None

abbrev pub both_points : Option (Pair ℤ) → Option (Pair ℤ) → Option RelativePoints
both_points (Some p) (Some q) = Some (Both p q)
both_points _ _ = None

-- IR x, y, x, y: none, only P1, or both
abbrev pub relative_points : List ℤ → Option RelativePoints
relative_points [] = Some Page
relative_points (a ∷ (b ∷ [])) = first_point (relative_point a b)
relative_points (a ∷ (b ∷ (c ∷ (d ∷ ns)))) = both_points (relative_point a b) (relative_point c d)
relative_points _ = None

-- a percentage of a side of the page, whose corner is `before` plotter units before 0, as a coordinate in plotter units
abbrev pub side_part : ℤ → ℕ → ℕ → ℤ
side_part percent side before = round (record { over = percent *ℤ pos side; under = 100 * 10 ^ 6 }) -ℤ pos before

-- what it sets on a page of this width and height as it is turned, with the corner (-left, -below)
abbrev pub setting_of : RelativePoints → ℕ → ℕ → ℕ → ℕ → Setting
setting_of Page width height left below = PageCorners
setting_of (First p) width height left below = FirstPoint (side_part p.x width left) (side_part p.y height below)
setting_of (Both p q) width height left below =
    BothPoints
    (points_at
    (side_part p.x width left)
    (side_part p.y height below)
    (side_part q.x width left)
    (side_part q.y height below))

abbrev pub IsRelativePoints : RelativePoints → Type 0
IsRelativePoints Page = ⊤
IsRelativePoints (First p) = IsPairWithin (10 ^ 9) p
IsRelativePoints (Both p q) = IsPairWithin (10 ^ 9) p × IsPairWithin (10 ^ 9) q
