-- Labels, symbols and ticks (HP-GL/2 guide: LB, CP and SM; XT, YT and PB of old HP-GL). Their strokes are not dashed.
use Rattle.std.specs.Prelude.{ℕ, ◌^◌, nat_lt, List, [], ◌∷◌, length, map, Bool, true, false, if◌then◌else◌}
use Rattle.std.specs.Prelude.{Option, Some, None, ℤ, pos, ◌+ℤ◌, neg_ℤ}
use Rattle.std.specs.Int.{int_min, int_max}
use Rattle.exact.specs.declared.spot.Spot.{Spot}
use Rattle.directions.specs.Directions.{vector_turned}
use Rattle.directions.specs.Laws.{right}
use Rattle.directions.specs.declared.turn.Turn.{Turn}
use Rattle.directions.specs.declared.turn.Turn.TheVariants as turn
use Rattle.character_sets.specs.Texts.{signs}
use Rattle.character_sets.specs.declared.sign.Sign.{Sign}
use Rattle.lettering.specs.Cells.{cell_offset}
use Rattle.lettering.specs.Labels.{styled_label_strokes, styled_label_end, margin_move}
use Rattle.lettering.specs.Letters.{centred}
use Rattle.lettering.specs.Styles.{usual}
use Rattle.lettering.specs.declared.style.Style.{Style}
use Rattle.plot_settings.specs.declared.setting.Rotation.{Rotation}
use Rattle.plot_settings.specs.declared.setting.Rotation.TheVariants as rotation
use Rattle.hpgl_plot.specs.declared.state.State.{State}
use Rattle.hpgl_plot.specs.Paths.{pen_placed}
use Rattle.hpgl_plot.specs.Machine as core
use Rattle.full_settings.specs.declared.character_moves.CharacterMove.{CharacterMove}
use Rattle.full_settings.specs.declared.character_moves.CharacterMove.TheVariants.{ToMargin, By}
use Rattle.full_settings.specs.declared.letter_setting.LetterSetting.{LetterSetting}
use Rattle.full_settings.specs.declared.letter_setting.LetterSetting.TheVariants as setting
use Rattle.full_settings.specs.Characters.{characters_after, selected_font}
use Rattle.full_settings.specs.LineStyles.{distance}
use Rattle.full_settings.specs.Letters.{letters_with, style_in, grains_of_share}
use Rattle.full_plot.specs.Bold.{letter_lines}
use Rattle.full_plot.specs.Worlds.{FullWorld, with_core}

-- RO as a turn of directions
abbrev pub turn_by : Rotation → Turn
turn_by rotation.None = turn.None
turn_by rotation.Quarter = turn.Quarter
turn_by rotation.Half = turn.Half
turn_by rotation.ThreeQuarters = turn.ThreeQuarters

-- how letters are written now
abbrev pub style_of : FullWorld → Style
style_of w =
    let s = w.core.state in
    style_in w.writing.letters (selected_font w.characters) s.size s.frame.points (turn_by s.frame.rotation)

-- whether letters are bold now
abbrev pub are_bold : FullWorld → Bool
are_bold w = (selected_font w.characters).is_bold

-- the signs of a text, as it is read now
abbrev pub signs_of : FullWorld → List ℕ → List Sign
signs_of w text = signs w.encoding w.characters.sets text

-- the style of core's labels
abbrev pub core_style : State → Style
core_style s = record usual {
  width = s.size.width;
  height = s.size.height;
  direction = vector_turned (turn_by s.frame.rotation) (vector_turned (turn_by s.direction) right);
}

abbrev pub moved_by : Spot → Spot → Spot
moved_by place offset = record { x = place.x +ℤ offset.x; y = place.y +ℤ offset.y }

-- a stroke from two offsets from a start
abbrev pub line_at : Spot → Spot × Spot → List Spot
line_at start stroke = moved_by start stroke.0 ∷ (moved_by start stroke.1 ∷ [])

-- strokes at offsets from the pen, drawn whether the pen is down or not: None if a place is out of range
abbrev pub inked_at_pen : core.World → List (Spot × Spot) → Option core.World
inked_at_pen v strokes = core.travelled_all v true (map (line_at v.state.place) strokes)

-- those of letters, which may be bold
abbrev pub letters_at_pen : Bool → core.World → List (Spot × Spot) → Option core.World
letters_at_pen is_bold v strokes = letter_lines is_bold v (map (line_at v.state.place) strokes)

-- the pen is put at a place, with its coordinates recomputed
abbrev pub put : core.World → Spot → Option core.World
put v q = core.put_at v (pen_placed v.page v.state.frame q)

-- the left margin: a margin that would be 2^96 grains away or more is cut to that, which no plot comes to, since labels
-- end in range
abbrev pub cut_far : ℤ → ℤ
cut_far n = int_max (neg_ℤ (pos (2 ^ 96))) (int_min (pos (2 ^ 96)) n)

abbrev pub margin_by : Spot → Spot → Spot
margin_by margin offset =
    let q = moved_by margin offset in record { x = cut_far q.x; y = cut_far q.y }

abbrev pub with_margin : Spot → Option FullWorld → Option FullWorld
with_margin q None = None
with_margin q (Some w) = Some (record w { margin = q })

-- the left margin is where the pen is
abbrev pub at_margin : FullWorld → FullWorld
at_margin w = record w { margin = w.core.state.place }

-- a label: its strokes, and then the pen is at its end
abbrev pub label_by : Bool → Style → core.World → List Sign → Option core.World
label_by is_bold style v signs =
    core.followed (letters_at_pen is_bold v (styled_label_strokes style signs)) (λ (u : core.World).
    put u (moved_by v.state.place (styled_label_end style signs)))

-- a text of more than 2^26 bytes is out of range, but no plot has one, since it has at most so many bytes itself
abbrev pub if_short : List ℕ → Option core.World → Option core.World
if_short text o = if nat_lt (2 ^ 26) (length text) then None else o

-- after a label the left margin is at the beginning of its last line
abbrev pub labelled : FullWorld → List ℕ → Option FullWorld
labelled w text =
    let style = style_of w in
    let signs = signs_of w text in
    with_margin (margin_by w.margin (margin_move style signs))
    (with_core w (if_short text (label_by (are_bold w) style w.core signs)))

-- SO and SI in a text select a set for what follows it, too
abbrev pub shifted_by : List ℕ → FullWorld → FullWorld
shifted_by text w = record w { characters = characters_after w.characters text }

abbrev pub then_shifted : List ℕ → Option FullWorld → Option FullWorld
then_shifted text None = None
then_shifted text (Some w) = Some (shifted_by text w)

abbrev pub written : FullWorld → List ℕ → Option FullWorld
written w text = then_shifted text (labelled w text)

-- the pen and the left margin at a place
abbrev pub put_at_margin : FullWorld → Spot → Option FullWorld
put_at_margin w q = with_margin q (with_core w (put w.core q))

-- CP without numbers: one line on from the left margin, which is then there; with numbers: as many columns to the right
-- and lines up from where the pen is, and the left margin as many lines up
abbrev pub moved_by_characters : FullWorld → CharacterMove → Option FullWorld
moved_by_characters w ToMargin = put_at_margin w (margin_by w.margin (cell_offset (style_of w) (pos 0) (pos (10 ^ 6))))
moved_by_characters w (By n) =
    let style = style_of w in
    with_margin (margin_by w.margin (cell_offset style (pos 0) (neg_ℤ n.y)))
    (with_core w (put w.core (moved_by w.core.state.place (cell_offset style n.x (neg_ℤ n.y)))))

-- the symbol at the pen, if one is set: a label of its byte, which is centred
abbrev pub marked_by : Option ℕ → FullWorld → Option FullWorld
marked_by None w = Some w
marked_by (Some byte) w =
    with_core w (letters_at_pen (are_bold w) w.core (styled_label_strokes (centred (style_of w)) (signs_of w (byte ∷ []))))

-- a point that far above the pen for XT, or to the right for YT, if the page is not turned
abbrev pub tick_point : Bool → ℤ → Spot
tick_point is_upright n = if is_upright then record { x = pos 0; y = n } else record { x = n; y = pos 0 }

abbrev pub tick_distance : FullWorld → Bool → ℤ
tick_distance w is_upright =
    let points = w.core.state.frame.points in distance (if is_upright then points.y else points.x)

-- where a part of a tick ends that is so many grains long, from the pen, as RO turns it
abbrev pub tick_end : Rotation → Bool → ℤ → Spot
tick_end r is_upright n = vector_turned (turn_by r) (tick_point is_upright n)

-- a tick, upright by XT and level by YT
abbrev pub ticked : FullWorld → Bool → Option FullWorld
ticked w is_upright =
    let part = grains_of_share (tick_distance w is_upright) in
    let end = tick_end w.core.state.frame.rotation is_upright in
    let stroke : Spot × Spot = (end (neg_ℤ (part w.writing.ticks.down)), end (part w.writing.ticks.up)) in
    with_core w (inked_at_pen w.core (stroke ∷ []))

-- DI, DR, DV and LO put the left margin where the pen is
abbrev pub sets_margin : LetterSetting → Bool
sets_margin (setting.Direction p) = true
sets_margin (setting.RelativeDirection p) = true
sets_margin (setting.Path path line) = true
sets_margin (setting.Origin n) = true
sets_margin _ = false

abbrev pub lettered : LetterSetting → FullWorld → FullWorld
lettered s w =
    let v = record w { writing = record w.writing { letters = letters_with s w.writing.letters } } in
    if sets_margin s then at_margin v else v
