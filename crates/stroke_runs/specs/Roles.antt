-- What strokes are, as they are taken one at a time: shapes, or edges of areas.
use Rattle.std.specs.Prelude.{ℕ, ◌+◌, nat_lt, Bool, false, List, [], ◌∷◌, ◌++◌, map, flat_map, Option, Some, None, if◌then◌else◌}
use Rattle.areas.specs.Shapes.{Shape, beginning_at}
use Rattle.areas.specs.Views.{areas_in}
use Rattle.areas.specs.declared.among.Areas.{Areas}
use Rattle.areas.specs.declared.area.Area.{Area}
use Rattle.plot_page.specs.Segments.{Segment}
use Rattle.plot_page.specs.declared.pens.PenSet.{PenSet}
use Rattle.polygons.specs.declared.lines.Rule.{Rule}
use Rattle.stroke_runs.specs.declared.role.Role.{Role}
use Rattle.stroke_runs.specs.declared.role.Role.TheVariants.{Stroke, FirstEdge, NextEdge}
use Rattle.stroke_runs.specs.declared.roles.Roles.{Roles}
use Rattle.stroke_runs.specs.Drawn.{is_drawn}

-- after so many strokes, none of which is an edge of an area that goes on
abbrev pub roles_at : Areas → ℕ → Roles
roles_at areas before = record { areas = areas; before = before; end = 0; is_drawn = false }

abbrev pub role_if : Bool → Role → Option Role
role_if b role = if b then Some role else None

-- what the first stroke of a shape is, by the area that begins with it
abbrev pub first_role : Option Area → Role
first_role None = Stroke
first_role (Some a) = FirstEdge a.rule

-- what the next stroke is, if it is drawn
abbrev pub role_of : PenSet → Roles → Segment → Option Role
role_of pens r s =
    if nat_lt r.before r.end then role_if r.is_drawn NextEdge else
    role_if (is_drawn pens s) (first_role (beginning_at r.before (areas_in r.areas)))

-- after the first stroke of a shape that is drawn or not, by the area that begins with it
abbrev pub after_first : Bool → Roles → Option Area → Roles
after_first drawn r None = record r { before = r.before + 1 }
after_first drawn r (Some a) = record r { before = r.before + 1; end = a.end; is_drawn = drawn }

abbrev pub roles_after : PenSet → Roles → Segment → Roles
roles_after pens r s =
    if nat_lt r.before r.end then record r { before = r.before + 1 } else
    after_first (is_drawn pens s) r (beginning_at r.before (areas_in r.areas))

-- a stroke that is drawn, and what it is
pub record Member : Type 0 where
  pub stroke : Segment
  pub role : Role

abbrev pub member : Role → Segment → Member
member role s = record { stroke = s; role = role }

-- the strokes of a shape
abbrev pub members_by : Option Rule → List Segment → List Member
members_by None ss = map (member Stroke) ss
members_by (Some rule) [] = []
members_by (Some rule) (s ∷ ss) = member (FirstEdge rule) s ∷ map (member NextEdge) ss

-- the strokes of shapes
abbrev pub members_of : List Shape → List Member
members_of shapes = flat_map (λ shape. members_by shape.rule shape.strokes) shapes

abbrev pub member_if : Option Role → Segment → List Member
member_if None s = []
member_if (Some role) s = member role s ∷ []

-- those of these strokes that are drawn, as they are taken one at a time
abbrev pub members_from : PenSet → Roles → List Segment → List Member
members_from pens r [] = []
members_from pens r (s ∷ ss) = member_if (role_of pens r s) s ++ members_from pens (roles_after pens r s) ss
