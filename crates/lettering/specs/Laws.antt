-- What holds of labels.
use Rattle.std.specs.Prelude.{◌≡◌, ℕ, IsTrue, List, map}
use Rattle.exact.specs.declared.spot.Spot.{Spot}
use Rattle.directions.specs.Directions.{vector_turned}
use Rattle.directions.specs.Laws.{right}
use Rattle.directions.specs.declared.turn.Turn.{Turn}
use Rattle.stick_font.specs.Labels as upright
use Rattle.stick_font.specs.declared.label.LabelStroke.{LabelStroke}
use Rattle.stick_font.specs.declared.size.CharacterSize.{CharacterSize}
use Rattle.character_sets.specs.Texts.{signs}
use Rattle.character_sets.specs.declared.encoding.Encoding.{Encoding}
use Rattle.character_sets.specs.declared.sets.Sets.{Sets}
use Rattle.lettering.specs.CoreTexts.{is_core_text}
use Rattle.lettering.specs.Labels.{styled_label_strokes, styled_label_end}
use Rattle.lettering.specs.Styles.{usual}
use Rattle.lettering.specs.declared.style.Style.{Style}

-- the usual style, with letters of a size, turned by quarters
abbrev pub usual_turned : CharacterSize → Turn → Style
usual_turned size turn = record usual { width = size.width; height = size.height; direction = vector_turned turn right }

-- how far a point of a label is from the start, if the label is turned
abbrev pub turned_offset : CharacterSize → Turn → Spot → Spot
turned_offset size turn p = vector_turned turn (upright.offset size p)

abbrev pub turned_stroke : CharacterSize → Turn → LabelStroke → Spot × Spot
turned_stroke size turn s = (turned_offset size turn s.from, turned_offset size turn s.to)

-- in the usual style, turned by quarters, a label has the strokes and the end of the stick font's label of its text
pub record IsTurned (size : CharacterSize) (turn : Turn) (encoding : Encoding) (sets : Sets) (text : List ℕ) : Type 0 where
  pub strokes :
      styled_label_strokes (usual_turned size turn) (signs encoding sets text)
      ≡ map (turned_stroke size turn) (upright.label_strokes text)
  pub end :
      styled_label_end (usual_turned size turn) (signs encoding sets text) ≡ turned_offset size turn (upright.label_end text)

abbrev pub UsualLabelsAreTurned : Type 0
UsualLabelsAreTurned =
    (size : CharacterSize) (turn : Turn) (encoding : Encoding) (sets : Sets) (text : List ℕ)
    → IsTrue (is_core_text encoding sets text)
    → IsTurned size turn encoding sets text
