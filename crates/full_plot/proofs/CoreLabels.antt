-- Labels of core in the profile full: along an axis, in the usual style, they are those of core.
use Rattle.std.proofs.Common.{◌≡◌, ◌∙◌, ℕ, zero, suc, ℤ, pos, negsuc, ap, ap₂, sym, refl, arith, true, false, true≢false, not, ◌&&◌, List, [], ◌∷◌, ◌++◌, map, Option, Some, None, IsTrue}
use Rattle.std.specs.Prelude.{nat_le, int_lt}
use Rattle.std.proofs.lemmas.Bool.{false_from_ne_true, le-leb, le-ltb, lt-leb}
use Rattle.std.proofs.lemmas.Bool.Decides.{Decides-int_eq}
use Rattle.plot_page.specs.declared.page.Page.{Page}
use Rattle.std.specs.Ordering.{int_eq}
use Rattle.std.proofs.lemmas.Int.{ints}
use Rattle.exact.specs.declared.spot.Spot.{Spot}
use Rattle.directions.specs.Directions.{vector_turned, unit}
use Rattle.directions.specs.Laws.{right}
use Rattle.directions.specs.declared.turn.Turn.{Turn}
use Rattle.directions.specs.declared.turn.Turn.TheVariants.{None as NoTurn, Quarter, Half, ThreeQuarters}
use Rattle.directions.proofs.Axes.{axes_are_exact_lem}
use Rattle.stick_font.specs.Labels as upright
use Rattle.stick_font.specs.declared.label.LabelStroke.{LabelStroke}
use Rattle.stick_font.specs.declared.size.CharacterSize.{CharacterSize}
use Rattle.character_sets.specs.Texts.{signs}
use Rattle.character_sets.specs.declared.encoding.Encoding.{Encoding}
use Rattle.character_sets.specs.declared.sets.Sets.{Sets}
use Rattle.character_sets.specs.declared.sign.Sign.{Sign}
use Rattle.lettering.specs.CoreTexts.{is_core_text}
use Rattle.lettering.specs.Labels.{styled_label_strokes, styled_label_end}
use Rattle.lettering.specs.Laws.{IsTurned, turned_offset, turned_stroke, usual_turned}
use Rattle.lettering.specs.Styles.{usual}
use Rattle.lettering.specs.declared.style.Style.{Style}
use Rattle.lettering.proofs.Turned.{usual_labels_are_turned_lem}
use Rattle.plot_frame.specs.declared.pair.Pair.{Pair}
use Rattle.plot_frame.specs.declared.scaling.Ends.{Ends}
use Rattle.plot_settings.specs.Meanings.{Write}
use Rattle.plot_settings.specs.Parameters.{nearest_axis}
use Rattle.plot_settings.specs.declared.setting.Rotation.{Rotation}
use Rattle.plot_settings.specs.declared.setting.Rotation.TheVariants as rotation
use Rattle.hpgl_plot.specs.OnPage.{turned_vector}
use Rattle.hpgl_plot.specs.Paths.{label_place, path, pen_placed, stroke_places}
use Rattle.hpgl_plot.specs.declared.state.State.{State}
use Rattle.hpgl_plot.specs.Machine as core
use Rattle.hpgl_plot.proofs.Polylines.{lines_then, lines_then_out, one_line}
use Rattle.hpgl_plot.proofs.Travels.{IsKept, lines_keep, step_by}
use Rattle.full_settings.specs.LetterParameters.{is_vector, pair_of}
use Rattle.full_settings.specs.Letters.{LetterStyle, letter_size_in, style_in, usual_letters}
use Rattle.full_settings.specs.Characters.{usual_font}
use Rattle.full_settings.specs.declared.letter_size.LetterSize.{LetterSize}
use Rattle.full_settings.specs.declared.heading.Heading.TheVariants.{Absolute}
use Rattle.full_plot.specs.Texts.{label_by, line_at, moved_by, put, turn_by}

-- two turns, one after another
abbrev composed : Turn → Turn → Turn
composed NoTurn t = t
composed t NoTurn = t
composed Quarter Quarter = Half
composed Quarter Half = ThreeQuarters
composed Quarter ThreeQuarters = NoTurn
composed Half Quarter = ThreeQuarters
composed Half Half = NoTurn
composed Half ThreeQuarters = Quarter
composed ThreeQuarters Quarter = NoTurn
composed ThreeQuarters Half = Quarter
composed ThreeQuarters ThreeQuarters = Half

abbrev vector : ℤ → ℤ → Spot
vector x y = record { x = x; y = y }

pub turned_twice : (s t : Turn) (v : Spot) → vector_turned s (vector_turned t v) ≡ vector_turned (composed s t) v
turned_twice NoTurn t v = refl
turned_twice s NoTurn v = refl
turned_twice Quarter Quarter v = refl
turned_twice Quarter Half v = ap₂ vector (omega (arith, ints)) refl
turned_twice Quarter ThreeQuarters v = ap₂ vector (omega (arith, ints)) refl
turned_twice Half Quarter v = ap₂ vector (omega (arith, ints)) refl
turned_twice Half Half v = ap₂ vector (omega (arith, ints)) (omega (arith, ints))
turned_twice Half ThreeQuarters v = ap₂ vector refl (omega (arith, ints))
turned_twice ThreeQuarters Quarter v = ap₂ vector refl (omega (arith, ints))
turned_twice ThreeQuarters Half v = ap₂ vector refl (omega (arith, ints))
turned_twice ThreeQuarters ThreeQuarters v = refl

-- RO and core's directions as turns
turns_vector : (r : Rotation) (v : Spot) → turned_vector r v ≡ vector_turned (turn_by r) v
turns_vector rotation.None v = refl
turns_vector rotation.Quarter v = ap₂ vector (omega (arith, ints)) refl
turns_vector rotation.Half v = ap₂ vector (omega (arith, ints)) (omega (arith, ints))
turns_vector rotation.ThreeQuarters v = ap₂ vector refl (omega (arith, ints))

-- how labels are turned
abbrev pub turn_in : State → Turn
turn_in s = composed (turn_by s.frame.rotation) (turn_by s.direction)

place_is : (s : State) (p : Spot) → moved_by s.place (turned_offset s.size (turn_in s) p) ≡ label_place s p
place_is s p =
    let o : Spot = upright.offset s.size p in
    let r : Rotation = s.frame.rotation in
    ap (λ (v : Spot). moved_by s.place v)
    (sym (turned_twice (turn_by r) (turn_by s.direction) o)
    ∙ ap (λ (v : Spot). vector_turned (turn_by r) v) (sym (turns_vector s.direction o))
    ∙ sym (turns_vector r (turned_vector s.direction o)))

lines_are : (s : State) (ts : List LabelStroke)
    → map (line_at s.place) (map (turned_stroke s.size (turn_in s)) ts) ≡ map (stroke_places s) ts
lines_are s [] = refl
lines_are s (t ∷ ts) =
    ap₂ (λ (l : List Spot) (ls : List (List Spot)). l ∷ ls)
    (ap₂ (λ (a b : Spot). a ∷ (b ∷ [])) (place_is s t.from) (place_is s t.to))
    (lines_are s ts)

-- the strokes, and then the pen is put at the end
lines_then_put : (c : core.World) (ks : List (List Spot)) (q : Spot) (o : Option core.World) → core.travelled_all c true ks ≡ o
    → core.followed o (λ (u : core.World). put u q)
    ≡ core.ends_in (core.moved c.state (pen_placed c.page c.state.frame q)) (core.travelled_all c true (ks ++ ((q ∷ []) ∷ [])))
lines_then_put c ks q None h =
    ap (λ (o : Option core.World). core.ends_in (core.moved c.state (pen_placed c.page c.state.frame q)) o)
    (sym (lines_then_out c true ks ((q ∷ []) ∷ []) h))
lines_then_put c ks q (Some u) h =
    let k : IsKept c u = lines_keep c u true ks h in
    ap₂ (λ (page : Page) (s : State). core.ends_in (core.moved s (pen_placed page s.frame q)) (core.travelled u true (q ∷ [])))
    k.page_is k.state_is
    ∙ ap (λ (o : Option core.World). core.ends_in (core.moved c.state (pen_placed c.page c.state.frame q)) o)
    (sym (lines_then c u true ks ((q ∷ []) ∷ []) h ∙ one_line u true (q ∷ [])))

-- the style that core's labels have
pub style_is : (l : LetterStyle) (h : Pair ℤ) (z : LetterSize) (size : CharacterSize) (points : Pair Ends) (r d : Rotation)
    → l ≡ record usual_letters { heading = Absolute h; size = z } → letter_size_in z usual_font size points ≡ pair_of size.width size.height
    → unit h.x h.y ≡ vector_turned (turn_by d) right
    → style_in l usual_font size points (turn_by r) ≡ usual_turned size (composed (turn_by r) (turn_by d))
style_is l h z size points r d e sized f =
    let styled : Pair ℤ → Spot → Style = λ (p : Pair ℤ) (v : Spot). record usual { width = p.x; height = p.y; direction = v } in
    let own : Pair ℤ = pair_of size.width size.height in
    ap (λ (m : LetterStyle). style_in m usual_font size points (turn_by r)) e
    ∙ ap (λ (p : Pair ℤ). styled p (vector_turned (turn_by r) (unit h.x h.y))) sized
    ∙ ap (λ (v : Spot). styled own (vector_turned (turn_by r) v)) f
    ∙ ap (styled own) (turned_twice (turn_by r) (turn_by d) right)

pub label_as_in_core : (c : core.World) (style : Style) (encoding : Encoding) (sets : Sets) (bytes : List ℕ)
    → style ≡ usual_turned c.state.size (turn_in c.state) → IsTrue (is_core_text encoding sets bytes)
    → label_by false style c (signs encoding sets bytes) ≡ core.step c (Write bytes)
label_as_in_core c style encoding sets bytes e plain =
    let s : State = c.state in
    let t : Turn = turn_in s in
    let ks : List (List Spot) = map (stroke_places s) (upright.label_strokes bytes) in
    let q : Spot = label_place s (upright.label_end bytes) in
    let own : List Sign = signs encoding sets bytes in
    let is : IsTurned s.size t encoding sets bytes = usual_labels_are_turned_lem s.size t encoding sets bytes plain in
    let strokes : map (line_at s.place) (styled_label_strokes (usual_turned s.size t) own) ≡ ks =
    ap (λ (l : List (Spot × Spot)). map (line_at s.place) l) is.strokes
    ∙ lines_are s (upright.label_strokes bytes) in
    let end : moved_by s.place (styled_label_end (usual_turned s.size t) own) ≡ q =
    ap (λ (o : Spot). moved_by s.place o) is.end ∙ place_is s (upright.label_end bytes) in
    rw e
    (ap₂ (λ (ls : List (List Spot)) (p : Spot). core.followed (core.travelled_all c true ls) (λ (u : core.World). put u p)) strokes end
    ∙ lines_then_put c ks q (core.travelled_all c true ks) refl
    ∙ sym (step_by c (Write bytes) (path c.page s (Write bytes)) refl))

-- a direction along an axis is the axis that core has
above : (n : ℕ) → nat_le (suc n) 0 ≡ false
above n = lt-leb (suc n) 0 (omega arith)

below : (n : ℕ) → nat_le 0 (suc n) ≡ true
below n = le-leb 0 (suc n) (omega arith)

not_left : (n : ℕ) → int_lt (pos (suc n)) (pos 0) ≡ false
not_left n = le-ltb (suc n) 0 (omega arith)

not_none : (n : ℕ) → int_eq (pos (suc n)) (pos 0) ≡ false
not_none n =
    false_from_ne_true (int_eq (pos (suc n)) (pos 0))
    (λ t. let e : pos (suc n) ≡ pos 0 = (Decides-int_eq (pos (suc n)) (pos 0)).0 t in cc e)

pub axis_leads : (x y : ℤ) → is_vector x y ≡ true → (not (int_eq x (pos 0)) && not (int_eq y (pos 0))) ≡ false
    → unit x y ≡ vector_turned (turn_by (nearest_axis x y)) right
axis_leads (pos zero) (pos zero) v h = absurd (true≢false (sym v))
axis_leads (pos zero) (pos (suc n)) v h = rw (above n, not_left n) (axes_are_exact_lem.y (pos (suc n)) (omega (arith, ints)))
axis_leads (pos zero) (negsuc n) v h = rw (above n) (axes_are_exact_lem.y (negsuc n) (omega (arith, ints)))
axis_leads (pos (suc n)) (pos zero) v h = rw (below n, not_left n) (axes_are_exact_lem.x (pos (suc n)) (omega (arith, ints)))
axis_leads (negsuc n) (pos zero) v h = rw (below n) (axes_are_exact_lem.x (negsuc n) (omega (arith, ints)))
axis_leads (pos (suc m)) (pos (suc n)) v h = absurd (true≢false (rw (not_none m, not_none n) at h))
axis_leads (pos (suc m)) (negsuc n) v h = absurd (true≢false (rw (not_none m) at h))
axis_leads (negsuc m) (pos (suc n)) v h = absurd (true≢false (rw (not_none n) at h))
axis_leads (negsuc m) (negsuc n) v h = absurd (true≢false h)
