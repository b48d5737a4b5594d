-- What a plot writes: labels, of lines of letters.
use Rattle.std.specs.Prelude.{ℕ, ◌≤◌, ℤ, pos, neg_ℤ, nat_abs, List, [], ◌∷◌, ◌++◌}
use Rattle.std.specs.Int.{int_max, int_min}
use Rattle.std.specs.List.{All}
use Rattle.areas.specs.declared.area.Area.{Area}
use Rattle.areas.specs.Shapes.{NoneGoesOn}
use Rattle.exact.specs.declared.spot.Spot.{Spot}
use Rattle.plot_page.specs.declared.stroke.TheConstants.{FARTHEST_END}
use Rattle.labels.specs.declared.place.Place.{Place}

-- letters that follow one another on one line: their code points, where the first one begins on the page, where one after
-- the last would begin, and the corner above the start of the first one
pub record LineShape : Type 0 where
  pub text : List ℕ
  pub start : Place
  pub end : Place
  pub top : Place

-- a label: how many strokes there were before it, and after it, and its lines
pub record LabelShape : Type 0 where
  pub first : ℕ
  pub after : ℕ
  pub lines : List LineShape

-- a number of a place is cut to what the ends of strokes may have
abbrev pub cut : ℤ → ℤ
cut z = int_max (neg_ℤ (pos FARTHEST_END)) (int_min (pos FARTHEST_END) z)

abbrev pub place_of : Spot → Place
place_of q = record { x = cut q.x; y = cut q.y }

-- where strokes may end
pub record IsNear (p : Place) : Type 0 where
  pub x_in : nat_abs p.x ≤ FARTHEST_END
  pub y_in : nat_abs p.y ≤ FARTHEST_END

pub record IsLine (l : LineShape) : Type 0 where
  pub start_in : IsNear l.start
  pub end_in : IsNear l.end
  pub top_in : IsNear l.top

-- a line without letters yet
abbrev pub line_at : Place → Place → LineShape
line_at start top = record { text = []; start = start; end = start; top = top }

-- with a letter more, after which the next one would begin there
abbrev pub with_letter : LineShape → ℕ → Place → LineShape
with_letter l code_point end = record l { text = l.text ++ code_point ∷ []; end = end }

-- each label begins after the one before it has ended, and the first one after the first `at` strokes
abbrev pub AreInOrder : ℕ → List LabelShape → Type 0
AreInOrder at [] = Unit {0}
AreInOrder at (l ∷ ls) = (at ≤ l.first) × (l.first ≤ l.after) × AreInOrder l.after ls

-- no area goes on where one of these labels begins or ends
abbrev pub AreBeside : List Area → List LabelShape → Type 0
AreBeside areas labels = All (λ l. NoneGoesOn l.first areas × NoneGoesOn l.after areas) labels
