-- The entities of strokes and areas. DXF R12: LINE, POINT and POLYLINE.
use Rattle.std.specs.Prelude.{ℕ, ◌*◌, ◌&&◌, List, [], ◌∷◌, ◌++◌, flat_map, if◌then◌else◌, codes}
use Rattle.areas.specs.Shapes.{Shape}
use Rattle.plot_page.specs.declared.pens.PenSet.{PenSet}
use Rattle.dxf.specs.Chains.{Chain, chains, is_same_point, marks}
use Rattle.dxf.specs.Groups.{count_group, group, number_group, size_group}
use Rattle.dxf.specs.Layers.{layer_groups, layer_name}
use Rattle.dxf.specs.declared.chains.Piece.{Piece}
use Rattle.dxf.specs.declared.cuts.Point.{Point}
use Rattle.dxf.specs.declared.groups.TheConstants.{GRAIN}
use Rattle.dxf.specs.declared.layers.Layers.{Layers}

-- a point, by the code of its x and that of its y
abbrev pub point_text : ℕ → ℕ → Point → List ℕ
point_text x y p = number_group x p.x ++ number_group y p.y

-- an entity of this type begins
abbrev pub entity_start : List ℕ → Layers → Piece → List ℕ
entity_start type_name layers p = group 0 type_name ++ layer_groups layers p.pen p.colour

-- a chain of one piece: a point if it has no length, or a line
abbrev pub single_text : Layers → Piece → List ℕ
single_text layers p =
    if is_same_point p.from p.to then entity_start (codes "POINT") layers p ++ point_text 10 20 p.from else
    entity_start (codes "LINE") layers p ++ point_text 10 20 p.from ++ point_text 11 21 p.to

-- the flags of a polyline: whether it is closed
abbrev pub flags : Piece → ℕ
flags p = if p.is_closed then 1 else 0

-- a polyline begins: vertices follow, its elevation, its flags, and its width at its start and at its end
abbrev pub polyline_start : Layers → Piece → List ℕ
polyline_start layers p =
    entity_start (codes "POLYLINE") layers p ++ count_group 66 1 ++ count_group 10 0 ++ count_group 20 0 ++ count_group 30 0
    ++ count_group 70 (flags p) ++ size_group 40 (GRAIN * p.width) ++ size_group 41 (GRAIN * p.width)

abbrev pub vertex_text : Layers → ℕ → Point → List ℕ
vertex_text layers pen p = group 0 (codes "VERTEX") ++ group 8 (layer_name layers pen) ++ point_text 10 20 p

-- where a piece begins
abbrev pub start_vertex : Layers → Piece → List ℕ
start_vertex layers p = vertex_text layers p.pen p.from

-- where the last piece ends: a closed polyline that began there leads back by itself
abbrev pub last_vertex : Layers → Point → Piece → List ℕ
last_vertex layers start last =
    if last.is_closed && is_same_point start last.to then [] else vertex_text layers last.pen last.to

abbrev pub polyline_end : Layers → Point → Piece → List ℕ
polyline_end layers start last = last_vertex layers start last ++ group 0 (codes "SEQEND")

-- the last of a piece and those after it
abbrev pub last_of : Piece → List Piece → Piece
last_of last [] = last
last_of last (p ∷ ps) = last_of p ps

abbrev pub chain_text : Layers → Piece → List Piece → List ℕ
chain_text layers p [] = single_text layers p
chain_text layers p (q ∷ qs) =
    polyline_start layers p ++ start_vertex layers p ++ flat_map (start_vertex layers) (q ∷ qs)
    ++ polyline_end layers p.from (last_of q qs)

abbrev pub chains_text : Layers → List Chain → List ℕ
chains_text layers cs = flat_map (λ c. chain_text layers c.first c.others) cs

-- strokes and areas
abbrev pub shapes_text : Layers → PenSet → List Shape → List ℕ
shapes_text layers pens shapes = chains_text layers (chains (marks pens shapes))
