-- How the letters of a line lie on the page, as a TEXT of DXF R12 says it.
use Rattle.std.specs.Prelude.{ℕ, ◌*◌, ◌/◌, ◌==◌, max, min, not, ℤ, pos, neg_ℤ, int_lt, ◌+ℤ◌, ◌-ℤ◌, ◌*ℤ◌, nat_abs, length, if◌then◌else◌}
use Rattle.exact.specs.Roots.{root}
use Rattle.labels.specs.Labels.{LineShape}
use Rattle.labels.specs.declared.place.Place.{Place}
use Rattle.dxf.specs.Angles.{angle_within, direction, rounded}
use Rattle.dxf.specs.declared.forms.Form.{Form}
use Rattle.dxf.specs.declared.forms.TheConstants.{MOST_LEANING}
use Rattle.dxf.specs.declared.angles.Vector.{Vector}
use Rattle.dxf.specs.declared.groups.TheConstants.{GRAIN}

-- from one place to another
abbrev pub way : Place → Place → Vector
way from to = record { x = to.x -ℤ from.x; y = to.y -ℤ from.y }

abbrev pub cross : Vector → Vector → ℤ
cross u v = u.x *ℤ v.y -ℤ u.y *ℤ v.x

abbrev pub crossed : Vector → Vector → ℕ
crossed u v = nat_abs (cross u v)

abbrev pub dot : Vector → Vector → ℤ
dot u v = u.x *ℤ v.x +ℤ u.y *ℤ v.y

-- the square of the length of a vector
abbrev pub square : Vector → ℕ
square u = nat_abs (dot u u)

-- the length of a vector, in parts
abbrev pub length_of : Vector → ℕ
length_of u = root (GRAIN * GRAIN * square u)

-- one grain instead of no height
abbrev pub some_height : ℕ → ℕ
some_height height = if height == 0 then GRAIN else height

-- how far the top is from the line, in parts; if the letters are one below the other, how far it is from the start
abbrev pub height_of : Vector → Vector → ℕ
height_of u v =
    some_height (if crossed u v == 0 then length_of v else
    root (GRAIN * crossed u v * (GRAIN * crossed u v) / max 1 (square u)))

-- the width of a letter as a share of its height, to four decimals, at least 0.0001
abbrev pub factor_of : Vector → ℕ → ℕ → ℕ
factor_of u letters height = 1000 * max 1 (length_of u * 10000 / max 1 (letters * height))

-- a vector turned clockwise by a quarter turn
abbrev pub turned : Vector → Vector
turned v = record { x = v.y; y = neg_ℤ v.x }

-- the direction of the line, or if the letters are one below the other, that of their width
abbrev pub rotation_of : Vector → Vector → ℕ
rotation_of u v = if crossed u v == 0 then direction (turned v) else direction u

-- by how much the letters lean forward or back, at most 85 degrees, in ten-thousandths of a degree
abbrev pub leaning_of : Vector → Vector → ℕ
leaning_of u v =
    if crossed u v == 0 then 0 else min MOST_LEANING (rounded (angle_within (crossed u v) (nat_abs (dot u v))))

abbrev pub form_by : Vector → Vector → ℕ → Form
form_by u v letters = record {
  height = height_of u v;
  rotation = rotation_of u v;
  factor = factor_of u letters (height_of u v);
  leaning = leaning_of u v;
  is_backward = int_lt (dot u v) (pos 0);
  is_mirrored = int_lt (cross u v) (pos 0);
  is_fit = not (crossed u v == 0);
}

abbrev pub form_of : LineShape → Form
form_of l = form_by (way l.start l.end) (way l.start l.top) (length l.text)
