-- What is written for the pieces of strokes, as they are taken one at a time.
use Rattle.std.specs.Prelude.{ℕ, ◌+◌, ◌-◌, false, List, [], ◌∷◌, ◌++◌, flat_map, take, Option, Some, None, if◌then◌else◌}
use Rattle.std.specs.List.{list_all}
use Rattle.areas.specs.declared.area.Area.{Area}
use Rattle.plot_page.specs.Segments.{Segment}
use Rattle.plot_page.specs.declared.pens.PenSet.{PenSet}
use Rattle.stroke_runs.specs.Drawn.{begins_drawn, is_drawn}
use Rattle.dxf.specs.Chains.{Mark, edge_marks, following, goes_on, piece_of}
use Rattle.dxf.specs.Cuts.{is_whole}
use Rattle.dxf.specs.Entities.{chain_text, chains_text, last_of, polyline_end, polyline_start, single_text, start_vertex}
use Rattle.dxf.specs.declared.chains.Piece.{Piece}
use Rattle.dxf.specs.declared.chains.Pending.{Pending}
use Rattle.dxf.specs.declared.chains.Pending.TheVariants.{Nothing, Single, Open}
use Rattle.dxf.specs.declared.layers.Layers.{Layers}
use Rattle.dxf.specs.declared.strokes.Walk.{Walk}

-- the chain that has begun ends
abbrev pub end_text : Layers → Pending → List ℕ
end_text layers Nothing = []
end_text layers (Single last) = single_text layers last
end_text layers (Open start last) = polyline_end layers start last

-- the next piece of a chain, or of another one
abbrev pub piece_text : Layers → Pending → Piece → List ℕ
piece_text layers Nothing next = []
piece_text layers (Single last) next =
    if goes_on last next then polyline_start layers last ++ start_vertex layers last ++ start_vertex layers next else
    single_text layers last
piece_text layers (Open start last) next =
    if goes_on last next then start_vertex layers next else polyline_end layers start last

abbrev pub after_piece : Pending → Piece → Pending
after_piece Nothing next = Single next
after_piece (Single last) next = if goes_on last next then Open last.from next else Single next
after_piece (Open start last) next = if goes_on last next then Open start next else Single next

-- a piece, if there is one
abbrev pub text_if : Layers → Pending → Option Piece → List ℕ
text_if layers pending None = []
text_if layers pending (Some next) = piece_text layers pending next

abbrev pub after_if : Pending → Option Piece → Pending
after_if pending None = pending
after_if pending (Some next) = after_piece pending next

-- what is still to be written, up to the end of the last chain
abbrev pub left_text : Layers → Pending → List Mark → List ℕ
left_text layers Nothing ms = chains_text layers (following None ms).chains
left_text layers (Single last) ms =
    chain_text layers last (following (Some last) ms).rest ++ chains_text layers (following (Some last) ms).chains
left_text layers (Open start last) ms =
    flat_map (start_vertex layers) (following (Some last) ms).rest
    ++ polyline_end layers start (last_of last (following (Some last) ms).rest)
    ++ chains_text layers (following (Some last) ms).chains

-- a stroke that is no edge, if it is drawn
abbrev pub stroke_text : Layers → PenSet → Pending → Segment → List ℕ
stroke_text layers pens pending s = if is_drawn pens s then text_if layers pending (piece_of s.width false s) else []

abbrev pub after_stroke : PenSet → Pending → Segment → Pending
after_stroke pens pending s = if is_drawn pens s then after_if pending (piece_of s.width false s) else pending

-- the edges of an area, if it is drawn
abbrev pub area_text : Layers → PenSet → Pending → List Segment → List ℕ
area_text layers pens pending edges =
    if begins_drawn pens edges
    then end_text layers pending ++ left_text layers Nothing (edge_marks (list_all is_whole edges) edges) else []

abbrev pub after_area : PenSet → Pending → List Segment → Pending
after_area pens pending edges = if begins_drawn pens edges then Nothing else pending

-- the first of strokes, which is no edge
abbrev pub first_text : Layers → PenSet → Pending → List Segment → List ℕ
first_text layers pens pending [] = []
first_text layers pens pending (s ∷ ss) = stroke_text layers pens pending s

abbrev pub after_first : PenSet → Pending → List Segment → Pending
after_first pens pending [] = pending
after_first pens pending (s ∷ ss) = after_stroke pens pending s

-- the shape that begins with the first of these strokes, before which there are `i` others of a sheet after `before` others,
-- by the area that begins with it
abbrev pub shape_text : Layers → PenSet → ℕ → ℕ → Pending → List Segment → Option Area → List ℕ
shape_text layers pens before i pending rest None = first_text layers pens pending rest
shape_text layers pens before i pending rest (Some a) = area_text layers pens pending (take (a.end - before - i) rest)

abbrev pub shape_after : PenSet → ℕ → ℕ → Pending → List Segment → Option Area → Walk
shape_after pens before i pending rest None = record { pending = after_first pens pending rest; done = i + 1 }
shape_after pens before i pending rest (Some a) =
    record { pending = after_area pens pending (take (a.end - before - i) rest); done = a.end - before }
