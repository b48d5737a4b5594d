-- What the entities of a document are, and which lines they show.
use Rattle.std.specs.Prelude.{ℕ, ◌+◌, ◌*◌, ◌==◌, ◌&&◌, ℤ, pos, neg_ℤ, false, List, [], ◌∷◌, ◌++◌, flat_map, length, map, Option, Some, None, if◌then◌else◌}
use Rattle.areas.specs.Shapes.{Shape}
use Rattle.areas.specs.declared.area.Area.{Area}
use Rattle.labels.specs.Labels.{LabelShape, LineShape}
use Rattle.plot_page.specs.Segments.{Segment}
use Rattle.plot_page.specs.declared.colour.Colour.{Colour}
use Rattle.plot_page.specs.declared.pens.PenSet.{PenSet}
use Rattle.stroke_runs.specs.Sheets.{shapes_between}
use Rattle.svg.specs.Parts.{cut_labels}
use Rattle.svg.specs.Sheets.{Sheet}
use Rattle.dxf.specs.Chains.{Chain, chains, is_same_point, marks}
use Rattle.dxf.specs.Colours.{colour_number}
use Rattle.dxf.specs.Cuts.{point_of}
use Rattle.dxf.specs.Entities.{last_of}
use Rattle.dxf.specs.Forms.{form_of}
use Rattle.dxf.specs.Layers.{colour_of, layer_name, layers_of}
use Rattle.dxf.specs.Letters.{has_letters, is_written, letter}
use Rattle.dxf.specs.Parts.{label_stroke}
use Rattle.dxf.specs.Reader.{Entity, Letters, Lines, Look, TextForm}
use Rattle.dxf.specs.declared.chains.Piece.{Piece}
use Rattle.dxf.specs.declared.cuts.Line.{Line}
use Rattle.dxf.specs.declared.cuts.Point.{Point}
use Rattle.dxf.specs.declared.forms.Form.{Form}
use Rattle.dxf.specs.declared.groups.TheConstants.{GRAIN}
use Rattle.dxf.specs.declared.layers.Layers.{Layers}

-- the number of a colour, if it is another one than that of the layer
abbrev pub own_colour : Colour → Option Colour → Option ℕ
own_colour own None = Some (colour_number own)
own_colour own (Some c) = if colour_number own == colour_number c then None else Some (colour_number own)

abbrev pub look_of : Layers → ℕ → Colour → Look
look_of layers pen colour =
    record { layer = layer_name layers pen; colour = own_colour colour (colour_of layers.colours pen) }

-- a piece by itself: a line, or a point if it has no length
abbrev pub single : Layers → Piece → Entity
single layers p =
    Lines (look_of layers p.pen p.colour) None false (if is_same_point p.from p.to then p.from ∷ [] else p.from ∷ p.to ∷ [])

-- the last point of a chain, but for one that closes where it began
abbrev pub end_points : Point → Piece → List Point
end_points start last = if last.is_closed && is_same_point start last.to then [] else last.to ∷ []

abbrev pub chain_entity : Layers → Piece → List Piece → Entity
chain_entity layers p [] = single layers p
chain_entity layers p (q ∷ qs) =
    Lines (look_of layers p.pen p.colour) (Some (GRAIN * p.width)) p.is_closed
    (p.from ∷ (map (λ piece. piece.from) (q ∷ qs) ++ end_points p.from (last_of q qs)))

abbrev pub chain_entities : Layers → List Chain → List Entity
chain_entities layers cs = map (λ c. chain_entity layers c.first c.others) cs

-- strokes and areas
abbrev pub shape_entities : Layers → PenSet → List Shape → List Entity
shape_entities layers pens shapes = chain_entities layers (chains (marks pens shapes))

-- how letters lie that lie so
abbrev pub oblique_of : Form → ℤ
oblique_of form = if form.is_backward then neg_ℤ (pos (1000 * form.leaning)) else pos (1000 * form.leaning)

abbrev pub text_form_of : Form → TextForm
text_form_of form = record {
  height = form.height;
  angle = 1000 * form.rotation;
  factor = form.factor;
  oblique = oblique_of form;
  is_mirrored = form.is_mirrored;
}

-- a line of letters, with the layer and the colour of a stroke
abbrev pub letters_of : Layers → Segment → LineShape → Entity
letters_of layers s l =
    Letters (look_of layers s.pen s.colour) (point_of l.start.x l.start.y)
    (if (form_of l).is_fit then Some (point_of l.end.x l.end.y) else None) (text_form_of (form_of l)) (map letter l.text)

abbrev pub line_entities : Layers → Segment → LineShape → List Entity
line_entities layers s l = if has_letters l then letters_of layers s l ∷ [] else []

-- a label, by the first of its strokes that is drawn
abbrev pub label_entities : Layers → PenSet → List Segment → List Area → LabelShape → Option Segment → List Entity
label_entities layers pens strokes areas l None = []
label_entities layers pens strokes areas l (Some s) =
    if is_written l then flat_map (line_entities layers s) l.lines else
    shape_entities layers pens (shapes_between strokes areas l.first l.after)

-- the strokes after the first `at`, with these labels in order
abbrev pub entities_after : Layers → PenSet → List Segment → List Area → ℕ → List LabelShape → List Entity
entities_after layers pens strokes areas at [] =
    shape_entities layers pens (shapes_between strokes areas at (length strokes))
entities_after layers pens strokes areas at (l ∷ ls) =
    shape_entities layers pens (shapes_between strokes areas at l.first)
    ++ (label_entities layers pens strokes areas l (label_stroke pens strokes l)
    ++ entities_after layers pens strokes areas l.after ls)

-- strokes, and the areas of which they are edges, with their labels, each stroke once
abbrev pub entities_of : Option ℕ → PenSet → List Segment → List Area → List LabelShape → List Entity
entities_of sheet pens strokes areas labels =
    entities_after (layers_of sheet pens strokes) pens strokes areas 0 (cut_labels 0 labels)

-- the entities of sheets, after so many others, each on layers of its own
abbrev pub entities_of_sheets : PenSet → ℕ → List Sheet → List Entity
entities_of_sheets pens before [] = []
entities_of_sheets pens before (sheet ∷ sheets) =
    entities_of (Some (before + 1)) pens sheet.strokes sheet.areas sheet.labels
    ++ entities_of_sheets pens (before + 1) sheets

-- the lines from a point through others, and back to a point if they are closed
abbrev pub lines_through : Point → List Point → List Line
lines_through p [] = []
lines_through p (q ∷ qs) = record { from = p; to = q } ∷ lines_through q qs

-- the lines of an entity; one point is a line without length
abbrev pub lines_of : Entity → List Line
lines_of (Lines seen width closed []) = []
lines_of (Lines seen width closed (p ∷ [])) = record { from = p; to = p } ∷ []
lines_of (Lines seen width closed (p ∷ q ∷ qs)) = lines_through p (q ∷ (qs ++ (if closed then p ∷ [] else [])))
lines_of (Letters seen start end form text) = []
