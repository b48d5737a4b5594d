-- Steps of core in the profile full, while all that it has besides is as core has it.
use Rattle.std.proofs.Common.{◌≡◌, ◌∙◌, ◌≤◌, ap, sym, subst, refl, Bool, true, false, true≢false, IsTrue, not, ◌&&◌, ◌||◌, if◌then◌else◌, ap₂, ℕ, ℤ, List, [], ◌∷◌, length, nat_eq, nat_lt, Option, Some, None}
use Rattle.std.specs.Prelude.{⊤}
use Rattle.std.specs.List.{list_all}
use Rattle.std.proofs.lemmas.Bool.{and_from, and_parts}
use Rattle.exact.specs.declared.spot.Spot.{Spot}
use Rattle.directions.specs.Directions.{vector_turned, unit}
use Rattle.directions.specs.Laws.{right}
use Rattle.stick_font.specs.declared.size.CharacterSize.{CharacterSize}
use Rattle.character_sets.specs.Ascii.{reads_ascii}
use Rattle.character_sets.specs.Signs.{sets_after, shifted}
use Rattle.character_sets.specs.declared.encoding.Encoding.{Encoding}
use Rattle.character_sets.specs.declared.sets.Sets.{Sets}
use Rattle.lettering.specs.CoreTexts.{is_core_byte}
use Rattle.lettering.specs.Laws.{usual_turned}
use Rattle.plot_frame.specs.declared.pair.Pair.{Pair}
use Rattle.plot_frame.specs.declared.scaling.Ends.{Ends}
use Rattle.plot_page.specs.declared.page.Page.{Page}
use Rattle.plot_settings.specs.Meanings.{Step, Touch, Move, Go, Edge, DrawCircle, DrawArc, Write}
use Rattle.plot_settings.specs.declared.setting.Rotation.{Rotation}
use Rattle.hpgl_plot.specs.declared.state.State.{State}
use Rattle.hpgl_plot.specs.Paths.{path}
use Rattle.hpgl_plot.specs.Strokes.{are_in_range}
use Rattle.hpgl_plot.specs.Machine as core
use Rattle.full_settings.specs.LineStyles.{Style, is_solid}
use Rattle.full_settings.specs.Characters.{Characters, selected_font, usual_characters, usual_font}
use Rattle.full_settings.specs.LetterParameters.{pair_of}
use Rattle.full_settings.specs.Letters.{LetterStyle, letter_size_in, style_in, usual_letters}
use Rattle.full_settings.specs.declared.font.Font.{Font}
use Rattle.full_settings.specs.declared.letter_size.LetterSize.{LetterSize}
use Rattle.full_settings.specs.declared.heading.Heading.TheVariants.{Absolute}
use Rattle.full_plot.specs.Items.{as_core}
use Rattle.polygons.specs.Buffers.{Contents}
use Rattle.full_notes.specs.Contexts.{Context, first_context}
use Rattle.full_plot.specs.Lines.{line_step, places_of}
use Rattle.full_plot.specs.Machine.{core_step, marked, marked_in, full_moved, run, touched, touched_in}
use Rattle.full_plot.specs.Polygons.{lined_by, lined_step, only_figure, with_buffer}
use Rattle.full_plot.specs.Texts.{are_bold, at_margin, if_short, label_by, labelled, marked_by, signs_of, style_of, then_shifted, turn_by, with_margin, written}
use Rattle.full_plot.specs.Worlds.{FullWorld, Writing, full_followed, with_core, no_graphics}
use Rattle.full_plot.proofs.CoreLabels.{label_as_in_core, style_is, turn_in}
use Rattle.full_plot.proofs.LinesAlong.{IsLine, solid_line}
use Rattle.full_plot.proofs.Solid.{shape_solid}
use Rattle.full_plot.proofs.Changes.{In, in_if}
use Rattle.full_plot.proofs.Nexts.{IsNext, IsUnshifted, KeepsSets, next_core_step}

-- what core sets for labels
pub record Labelling : Type 0 where
  pub direction : Rotation
  pub size : CharacterSize

abbrev pub labelling : State → Labelling
labelling s = record { direction = s.direction; size = s.size }

-- labels lead along an axis and have a size as core has them, and are usual otherwise
pub record IsLed (d : Labelling) (l : LetterStyle) : Type 0 where
  pub heading : Pair ℤ
  pub size : LetterSize
  pub letters_are : l ≡ record usual_letters { heading = Absolute heading; size = size }
  pub leads : unit heading.x heading.y ≡ vector_turned (turn_by d.direction) right
  pub sized : (points : Pair Ends) → letter_size_in size usual_font d.size points ≡ pair_of d.size.width d.size.height

-- besides core all is as at the start, but labels may lead along an axis and have a size
pub record IsLikeCore (d : Labelling) (w : FullWorld) : Type 0 where
  pub solid : is_solid w.style.kind ≡ true
  pub first : w.context ≡ first_context
  pub plain : IsTrue (reads_ascii w.encoding w.characters.sets)
  pub usual : w.characters ≡ usual_characters
  pub no_symbol : w.writing.symbol ≡ None
  pub led : IsLed d w.writing.letters
  pub no_extra : w.extra ≡ 0
  pub no_ends : w.ends ≡ []
  pub no_areas : w.areas ≡ []
  pub no_escapes : w.graphics ≡ no_graphics
  pub few : length w.core.kept ≤ 4194304
  pub few_places : w.buffer.places ≤ 4194304

outside : (w : FullWorld) → w.context ≡ first_context → w.context.in_polygon ≡ false
outside w h = ap (λ (c : Context). c.in_polygon) h

-- what core has of a world
abbrev pub core_of : Option FullWorld → Option core.World
core_of None = None
core_of (Some w) = Some w.core

core_with : (w : FullWorld) (o : Option core.World) → core_of (with_core w o) ≡ o
core_with w None = refl
core_with w (Some c) = refl

core_margin : (w : FullWorld) (o : Option core.World) (q : Spot) → core_of (with_margin q (with_core w o)) ≡ o
core_margin w None q = refl
core_margin w (Some c) q = refl

-- a solid line
solid_is : (w : FullWorld) (t : Step) → IsLine w t → is_solid w.style.kind ≡ true → line_step w t ≡ with_core w (core.step w.core t)
solid_is w t l h = solid_line w t l (shape_solid w.style.kind w.style.own _ h)

-- out of polygon mode
lined_is : (w : FullWorld) (t : Step) → IsLine w t → is_solid w.style.kind ≡ true → w.context.in_polygon ≡ false → lined_step w t ≡ with_core w (core.step w.core t)
lined_is w t l h off = ap (λ (b : Bool). lined_by b w t) off ∙ solid_is w t l h

-- a move, after which no symbol is drawn
core_move : (w : FullWorld) (o : Option core.World) → w.context.in_polygon ≡ false → w.writing.symbol ≡ None
    → core_of (full_followed (with_core w o) (λ (v : FullWorld). marked (at_margin v))) ≡ o
core_move w None off h = refl
core_move w (Some c) off h =
    let v : FullWorld = at_margin (record w { core = c }) in
    ap (λ (b : Bool). core_of (marked_in b v)) off ∙ ap (λ (s : Option ℕ). core_of (marked_by s v)) h

core_go : (w : FullWorld) (t : Step) → IsLine w t → is_solid w.style.kind ≡ true → w.context.in_polygon ≡ false → w.writing.symbol ≡ None
    → core_of (full_moved w t) ≡ core.step w.core t
core_go w t l h off k =
    ap (λ (o : Option FullWorld). core_of (full_followed o (λ (v : FullWorld). marked (at_margin v)))) (lined_is w t l h off)
    ∙ core_move w (core.step w.core t) off k

-- a dot
core_touch : (w : FullWorld) → w.context.in_polygon ≡ false → core_of (touched w) ≡ core.step w.core Touch
core_touch w off = ap (λ (b : Bool). core_of (touched_in b w)) off ∙ core_with w (core.step w.core Touch)

-- the edge of a rectangle
core_buffer : (b : Contents) (o : Option FullWorld) → core_of (with_buffer b o) ≡ core_of o
core_buffer b None = refl
core_buffer b (Some v) = refl

core_arc : (w : FullWorld) (o : Option core.World) → core_of (full_followed (with_core w o) (λ (v : FullWorld). Some (at_margin v))) ≡ o
core_arc w None = refl
core_arc w (Some c) = refl

-- a label that both profiles draw alike: a short one of bytes of core
pub record IsCoreLabel (text : List ℕ) : Type 0 where
  pub short : nat_lt 67108864 (length text) ≡ false
  pub plain : IsTrue (list_all is_core_byte text)

abbrev pub IsShort : Step → Type 0
IsShort (Write text) = IsCoreLabel text
IsShort _ = ⊤

core_shifted : (text : List ℕ) (o : Option FullWorld) → core_of (then_shifted text o) ≡ core_of o
core_shifted text None = refl
core_shifted text (Some v) = refl

core_written : (w : FullWorld) (text : List ℕ) → IsLikeCore (labelling w.core.state) w → IsCoreLabel text
    → core_of (written w text) ≡ core.step w.core (Write text)
core_written w text h k =
    let s : State = w.core.state in
    let l : IsLed (labelling s) w.writing.letters = h.led in
    let label : Option core.World = label_by false (style_of w) w.core (signs_of w text) in
    let font : selected_font w.characters ≡ usual_font = ap (λ (c : Characters). selected_font c) h.usual in
    let style : style_of w ≡ usual_turned s.size (turn_in s) =
    ap (λ (f : Font). style_in w.writing.letters f s.size s.frame.points (turn_by s.frame.rotation)) font
    ∙ style_is w.writing.letters l.heading l.size s.size s.frame.points s.frame.rotation s.direction l.letters_are
    (l.sized s.frame.points) l.leads in
    core_shifted text (labelled w text)
    ∙ core_margin w (if_short text (label_by (are_bold w) (style_of w) w.core (signs_of w text))) _
    ∙ ap (λ (f : Font). if_short text (label_by f.is_bold (style_of w) w.core (signs_of w text))) font
    ∙ rw k.short refl
    ∙ label_as_in_core w.core (style_of w) w.encoding w.characters.sets text style
    (and_from (reads_ascii w.encoding w.characters.sets) (list_all is_core_byte text) h.plain k.plain)

-- bytes of core select no set
no_shift : (low out inward more : Bool) (a b s : Sets) → IsTrue ((low && not (out || inward)) && more)
    → (if out then a else (if inward then b else s)) ≡ s
no_shift true true inward more a b s h = absurd (true≢false (sym h))
no_shift true false true more a b s h = absurd (true≢false (sym h))
no_shift true false false more a b s h = refl
no_shift false out inward more a b s h = absurd (true≢false (sym h))

unshifted_byte : (byte : ℕ) (sets : Sets) → IsTrue (is_core_byte byte) → shifted sets byte ≡ sets
unshifted_byte byte sets h = no_shift (nat_lt byte 128) (nat_eq byte 14) (nat_eq byte 15) _ _ _ sets h

unshifted : (text : List ℕ) → IsTrue (list_all is_core_byte text) → IsUnshifted text
unshifted [] h sets = refl
unshifted (byte ∷ text) h sets =
    let both = and_parts (is_core_byte byte) (list_all is_core_byte text) h in
    ap (λ (s : Sets). sets_after s text) (unshifted_byte byte sets both.0) ∙ unshifted text both.1 sets

keeps_sets : (t : Step) → IsShort t → KeepsSets t
keeps_sets (Write text) h = unshifted text h.plain
keeps_sets t h = tt

pub step_as_in_core : (w : FullWorld) (t : Step) → IsLikeCore (labelling w.core.state) w → IsShort t → core_of (core_step w t) ≡ core.step w.core t
step_as_in_core w Touch h short = core_touch w (outside w h.first)
step_as_in_core w (Move x y) h short = core_go w (Move x y) refl h.solid (outside w h.first) h.no_symbol
step_as_in_core w (Go relative x y) h short = core_go w (Go relative x y) refl h.solid (outside w h.first) h.no_symbol
step_as_in_core w (DrawArc relative a) h short =
    ap (λ (o : Option FullWorld). core_of (full_followed o (λ (v : FullWorld). Some (at_margin v)))) (lined_is w (DrawArc relative a) refl h.solid (outside w h.first))
    ∙ core_arc w (core.step w.core (DrawArc relative a))
step_as_in_core w (Edge relative x y) h short =
    core_buffer (only_figure (places_of w (Edge relative x y))) (line_step w (Edge relative x y))
    ∙ ap core_of (solid_is w (Edge relative x y) refl h.solid) ∙ core_with w (core.step w.core (Edge relative x y))
step_as_in_core w (DrawCircle c) h short = ap core_of (lined_is w (DrawCircle c) refl h.solid (outside w h.first)) ∙ core_with w (core.step w.core (DrawCircle c))
step_as_in_core w (Write text) h short = core_written w text h short
step_as_in_core w t h short = core_with w (core.step w.core t)

-- what a step of core keeps
pub like_next : (d : Labelling) (w v : FullWorld) → IsLikeCore d w → IsNext w v → IsLikeCore d v
like_next d w v h n = record {
  solid = ap (λ (s : Style). is_solid s.kind) n.style_is ∙ h.solid;
  first = n.context_is ∙ h.first;
  plain = subst IsTrue (sym (ap₂ (λ (e : Encoding) (c : Characters). reads_ascii e c.sets) n.encoding_is n.characters_are)) h.plain;
  usual = n.characters_are ∙ h.usual;
  no_symbol = ap (λ (s : Writing). s.symbol) n.writing_is ∙ h.no_symbol;
  led = subst (λ (s : Writing). IsLed d s.letters) (sym n.writing_is) h.led;
  no_extra = n.extra_is ∙ h.no_extra;
  no_ends = n.ends_are ∙ h.no_ends;
  no_areas = n.areas_are ∙ h.no_areas;
  no_escapes = n.graphics_are ∙ h.no_escapes;
  few = n.few.1 h.few;
  few_places = n.few_places (outside w h.first) h.few_places;
}

-- what core sets for labels is d before a step, and r after it
abbrev pub Leads : Labelling → Labelling → Step → Type 0
Leads d r t = (page : Page) (s : State) → labelling s ≡ d → labelling (core.after page s t) ≡ r

led_by : (c e : core.World) (d r : Labelling) (t : Step) → Leads d r t → labelling c.state ≡ d → core.step c t ≡ Some e → labelling e.state ≡ r
unfolding core.step
led_by c e d r t l k h =
    let P : core.World → Type 0 = λ u. labelling u.state ≡ r in
    subst (In P) h (in_if P (list_all (are_in_range c.range) (path c.page c.state t).lines) _ (l c.page c.state k))

-- what steps leave: core sets r for labels then, and labels are by d as before
abbrev pub LikeIn : Labelling → Labelling → Option FullWorld → Type 0
LikeIn d r None = ⊤
LikeIn d r (Some v) = IsLikeCore d v × (labelling v.core.state ≡ r)

pub record IsAsInCore (d r : Labelling) (o : Option FullWorld) (p : Option core.World) : Type 0 where
  pub same : core_of o ≡ p
  pub like : LikeIn d r o

like_after : (d r : Labelling) (w : FullWorld) (t : Step) (o : Option FullWorld) → Leads d r t → IsLikeCore d w → labelling w.core.state ≡ d
    → In (IsNext w) o → core_of o ≡ core.step w.core t → LikeIn d r o
like_after d r w t None l h k n e = tt
like_after d r w t (Some v) l h k n e = (like_next d w v h n, led_by w.core v.core d r t l k (sym e))

pub one_step : (d r : Labelling) (w : FullWorld) (t : Step) → Leads d r t → IsShort t → IsLikeCore d w → labelling w.core.state ≡ d
    → IsAsInCore d r (core_step w t) (core.step w.core t)
one_step d r w t l short h k =
    let e : core_of (core_step w t) ≡ core.step w.core t =
    step_as_in_core w t (subst (λ (x : Labelling). IsLikeCore x w) (sym k) h) short in
    record { same = e; like = like_after d r w t (core_step w t) l h k (next_core_step w t (keeps_sets t short)) e }

-- steps that leave what core sets for labels as it is
abbrev pub IsStill : Step → Type 0
IsStill t = ((d : Labelling) → Leads d d t) × IsShort t

abbrev pub AllStill : List Step → Type 0
AllStill [] = ⊤
AllStill (t ∷ ts) = IsStill t × AllStill ts

next_still : (d r : Labelling) (o : Option FullWorld) (ts : List Step) → LikeIn d r o
    → ((v : FullWorld) → IsLikeCore d v → labelling v.core.state ≡ r → IsAsInCore d r (run v (as_core ts)) (core.run v.core ts))
    → IsAsInCore d r (full_followed o (λ (v : FullWorld). run v (as_core ts))) (core.followed (core_of o) (λ (c : core.World). core.run c ts))
next_still d r None ts h go = record { same = refl; like = tt }
next_still d r (Some v) ts h go = go v h.0 h.1

pub still_steps : (d : Labelling) (ts : List Step) (w : FullWorld) → AllStill ts → IsLikeCore d w → labelling w.core.state ≡ d
    → IsAsInCore d d (run w (as_core ts)) (core.run w.core ts)
still_steps d [] w all h k = record { same = refl; like = (h, k) }
still_steps d (t ∷ ts) w all h k =
    let one : IsAsInCore d d (core_step w t) (core.step w.core t) = one_step d d w t (all.0.0 d) all.0.1 h k in
    subst
    (λ (p : Option core.World). IsAsInCore d d (run w (as_core (t ∷ ts))) (core.followed p (λ (c : core.World). core.run c ts)))
    one.same
    (next_still d d (core_step w t) ts one.like (λ (v : FullWorld) (l : IsLikeCore d v) (m : labelling v.core.state ≡ d). still_steps d ts v all.1 l m))
