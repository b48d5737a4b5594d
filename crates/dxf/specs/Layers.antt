-- The layers of a DXF document: one for each pen of a sheet that is drawn.
use Rattle.std.specs.Prelude.{ℕ, zero, suc, ◌+◌, ◌==◌, List, [], ◌∷◌, ◌++◌, replicate, Option, Some, None, is_some, if◌then◌else◌, codes, decimal, slice_index_or, slice_set}
use Rattle.plot_page.specs.Segments.{Segment}
use Rattle.plot_page.specs.declared.colour.Colour.{Colour}
use Rattle.plot_page.specs.declared.pens.PenSet.{PenSet}
use Rattle.stroke_runs.specs.Drawn.{drawn}
use Rattle.dxf.specs.Colours.{colour_number}
use Rattle.dxf.specs.Groups.{count_group, group}
use Rattle.dxf.specs.declared.layers.Layers.{Layers}

-- the colour of the layer of a pen, if it has one
abbrev pub colour_of : List (Option Colour) → ℕ → Option Colour
colour_of colours pen = slice_index_or colours pen None

-- a layer of this colour for a pen, unless there is one
abbrev pub with_layer : List (Option Colour) → ℕ → Colour → List (Option Colour)
with_layer colours pen colour =
    if is_some (colour_of colours pen) then colours else slice_set colours pen (Some colour)

-- layers, and one more for the pen of a stroke that is drawn, unless there is one
abbrev pub with_stroke : List (Option Colour) → Segment → List (Option Colour)
with_stroke colours s = with_layer colours s.pen s.colour

abbrev pub with_strokes : List (Option Colour) → List Segment → List (Option Colour)
with_strokes colours [] = colours
with_strokes colours (s ∷ ss) = with_strokes (with_stroke colours s) ss

-- the layers of the strokes of a sheet: the colour of a layer is that of the first stroke of its pen that is drawn
abbrev pub layers_of : Option ℕ → PenSet → List Segment → Layers
layers_of sheet pens strokes = record { sheet = sheet; colours = with_strokes (replicate 256 None) (drawn pens strokes) }

-- what the names of the layers of a sheet begin with, if the document has several
abbrev pub sheet_name : Option ℕ → List ℕ
sheet_name None = []
sheet_name (Some number) = codes "S" ++ decimal number ++ codes "_"

abbrev pub layer_name : Layers → ℕ → List ℕ
layer_name layers pen = sheet_name layers.sheet ++ codes "PEN_" ++ decimal pen

-- the colour of an entity, if it has another number than that of its layer
abbrev pub colour_group : Colour → Option Colour → List ℕ
colour_group own None = count_group 62 (colour_number own)
colour_group own (Some c) = if colour_number own == colour_number c then [] else count_group 62 (colour_number own)

-- the layer of an entity, and its colour if this is another one

abbrev pub layer_groups : Layers → ℕ → Colour → List ℕ
layer_groups layers pen colour =
    group 8 (layer_name layers pen) ++ colour_group colour (colour_of layers.colours pen)

-- an entry of the table of layers: its name, its flags, its colour and its line type
abbrev pub layer_entry : List ℕ → ℕ → List ℕ
layer_entry name number =
    group 0 (codes "LAYER") ++ group 2 name ++ count_group 70 0 ++ count_group 62 number ++ group 6 (codes "CONTINUOUS")

-- the entry of a layer of this name, if there is one of a colour
abbrev pub entry_if : List ℕ → Option Colour → List ℕ
entry_if name None = []
entry_if name (Some c) = layer_entry name (colour_number c)

-- the entry of a pen, if it has a layer
abbrev pub pen_entry : Layers → ℕ → List ℕ
pen_entry layers pen = entry_if (layer_name layers pen) (colour_of layers.colours pen)

-- the entries of so many pens from this one on
abbrev pub pen_entries : Layers → ℕ → ℕ → List ℕ
pen_entries layers pen zero = []
pen_entries layers pen (suc count) = pen_entry layers pen ++ pen_entries layers (pen + 1) count

-- the entries of all pens, in order
abbrev pub layers_text : Layers → List ℕ
layers_text layers = pen_entries layers 1 255
