-- Chains: the longest lists of pieces of strokes that follow one another, with the same pen, colour and width, each of which
-- begins where the one before it ends.
use Rattle.std.specs.Prelude.{ℕ, ◌==◌, ◌&&◌, Bool, false, List, [], ◌∷◌, ◌++◌, flat_map, Option, Some, None, is_some, if◌then◌else◌}
use Rattle.std.specs.List.{list_all}
use Rattle.std.specs.Ordering.{int_eq}
use Rattle.areas.specs.Shapes.{Shape}
use Rattle.plot_page.specs.Segments.{Segment}
use Rattle.plot_page.specs.declared.pens.PenSet.{PenSet}
use Rattle.stroke_runs.specs.Drawn.{drawn_shapes, is_same_colour}
use Rattle.stroke_runs.specs.declared.shown.TheConstants.{LEAST_WIDTH}
use Rattle.dxf.specs.Cuts.{is_whole, line_of}
use Rattle.dxf.specs.declared.cuts.Line.{Line}
use Rattle.dxf.specs.declared.cuts.Point.{Point}
use Rattle.dxf.specs.declared.chains.Piece.{Piece}

-- what is seen of a stroke, with this width; an edge of an area that is seen as a whole is closed
abbrev pub piece_on : ℕ → Bool → Segment → Option Line → Option Piece
piece_on width closed s None = None
piece_on width closed s (Some line) =
    Some (record { pen = s.pen; colour = s.colour; width = width; is_closed = closed; from = line.from; to = line.to })

abbrev pub piece_of : ℕ → Bool → Segment → Option Piece
piece_of width closed s = piece_on width closed s (line_of s)

-- a piece that may go on a chain, or a place where each chain ends
pub data Mark : Type 0 where
  Seen : Piece → Mark
  Break : Mark

abbrev pub mark_if : Option Piece → List Mark
mark_if None = []
mark_if (Some piece) = Seen piece ∷ []

-- a stroke, which has its own width
abbrev pub stroke_marks : Segment → List Mark
stroke_marks s = mark_if (piece_of s.width false s)

-- the edges of an area, which have the least width of a stroke in a document
abbrev pub edge_marks : Bool → List Segment → List Mark
edge_marks closed edges = flat_map (λ e. mark_if (piece_of LEAST_WIDTH closed e)) edges

-- an area: it is closed if no window cuts any of its edges
abbrev pub area_marks : List Segment → List Mark
area_marks edges = Break ∷ (edge_marks (list_all is_whole edges) edges ++ Break ∷ [])

abbrev pub shape_marks : Shape → List Mark
shape_marks shape = if is_some shape.rule then area_marks shape.strokes else flat_map stroke_marks shape.strokes

-- the shapes that are drawn
abbrev pub marks : PenSet → List Shape → List Mark
marks pens shapes = flat_map shape_marks (drawn_shapes pens shapes)

-- a chain: its first piece, and the others
pub record Chain : Type 0 where
  pub first : Piece
  pub others : List Piece

-- what follows a piece: the rest of its chain, and the chains after it
pub record Following : Type 0 where
  pub rest : List Piece
  pub chains : List Chain

abbrev pub is_same_point : Point → Point → Bool
is_same_point p q = int_eq p.x q.x && int_eq p.y q.y

-- a piece goes on the chain of the last one
abbrev pub goes_on : Piece → Piece → Bool
goes_on last next =
    ((last.pen == next.pen && last.width == next.width) && is_same_colour last.colour next.colour)
    && is_same_point last.to next.from

abbrev pub going_on : Piece → Following → Following
going_on next f = record { rest = next ∷ f.rest; chains = f.chains }

abbrev pub beginning : Piece → Following → Following
beginning next f = record { rest = []; chains = record { first = next; others = f.rest } ∷ f.chains }

abbrev pub following_next : Option Piece → Piece → Following → Following
following_next None next f = beginning next f
following_next (Some last) next f = if goes_on last next then going_on next f else beginning next f

-- what follows the last piece, if there is one whose chain may go on
abbrev pub following : Option Piece → List Mark → Following
following last [] = record { rest = []; chains = [] }
following last (Seen next ∷ ms) = following_next last next (following (Some next) ms)
following last (Break ∷ ms) = record { rest = []; chains = (following None ms).chains }

abbrev pub chains : List Mark → List Chain
chains ms = (following None ms).chains
