-- Plots of core in the profile full.
use Rattle.std.proofs.Common.{◌≡◌, ◌∙◌, append-nil, ap, sym, subst, refl, inl, inr, Bool, true, false, true≢false, ◌+◌, ℕ, arith, Result, Ok, Err, List, [], ◌∷◌, ◌++◌, length, nat_lt, Option, Some, None, ℤ, pos, All}
use Rattle.std.specs.Prelude.{if◌then◌else◌, not, ◌&&◌, IsTrue, ⊤}
use Rattle.std.specs.List.{list_all}
use Rattle.std.proofs.lemmas.Bool.{cases_Bool, le-ltb, not-true}
use Rattle.std.proofs.lemmas.Option.{none-some}
use Rattle.std.proofs.lemmas.List.Elements.{All-head, All-tail}
use Rattle.carousel.specs.Carousels.{empty}
use Rattle.carousel.specs.declared.carousel.Carousel.{Carousel}
use Rattle.directions.specs.Directions.{vector_turned, unit}
use Rattle.exact.specs.declared.spot.Spot.{Spot}
use Rattle.directions.specs.Laws.{right}
use Rattle.directions.proofs.Axes.{axes_are_exact_lem}
use Rattle.stick_font.specs.declared.size.CharacterSize.{CharacterSize as Size}
use Rattle.character_sets.specs.Ascii.{reads_ascii}
use Rattle.character_sets.specs.declared.encoding.Encoding.{Encoding}
use Rattle.character_sets.specs.declared.encoding.Encoding.TheVariants.{ByPlot}
use Rattle.lettering.specs.CoreTexts.{is_core_byte}
use Rattle.plot_frame.specs.declared.pair.Pair.{Pair}
use Rattle.plot_frame.specs.declared.scaling.Ends.{Ends}
use Rattle.plot_page.specs.declared.page.Page.{Page}
use Rattle.plot_page.specs.declared.stroke.TheConstants.{FARTHEST_END}
use Rattle.plot_settings.specs.Meanings.{Step, Set, Write, Load, meaning, entry_steps, body_steps, sets, steps_of}
use Rattle.plot_settings.specs.Parameters.{nearest_axis, usual_size, when}
use Rattle.plot_settings.specs.Slants.{is_slanted}
use Rattle.plot_settings.specs.declared.setting.Rotation.{Rotation}
use Rattle.plot_settings.specs.declared.setting.Rotation.TheVariants as rotation
use Rattle.plot_settings.specs.declared.setting.Setting.{Setting}
use Rattle.plot_settings.specs.declared.setting.Setting.TheVariants as setting
use Rattle.hpgl_text.specs.Shapes.{ItemShape, BodyShape, Params, Further, DamagedMoves, DamagedCurves, Label, Coded, Kept, Symbol, Known}
use Rattle.hpgl_text.specs.Shapes as shape
use Rattle.hpgl_text.specs.declared.instruction.Instruction.{Instruction}
use Rattle.hpgl_text.specs.declared.instruction.Instruction.TheVariants.{Initialize, DefaultValues, InputPoints, PenWidth, PenColour, CharacterSize, Direction}
use Rattle.hpgl_plot.specs.declared.fault.PlotFault.{PlotFault}
use Rattle.hpgl_plot.specs.declared.fault.PlotFault.TheVariants as fault
use Rattle.hpgl_plot.specs.Machine as core
use Rattle.hpgl_plot.specs.Strokes.{strokes, strokes_after, strokes_with, refusal_after}
use Rattle.hpgl_plot.proofs.Bridge.{told, world, Told}
use Rattle.full_settings.specs.LetterParameters.{is_vector, pair_of}
use Rattle.full_settings.specs.Characters.{Characters, usual_characters, usual_font}
use Rattle.full_settings.specs.Letters.{LetterStyle, letter_size_in, usual_letters}
use Rattle.full_settings.specs.declared.letter_size.LetterSize.{LetterSize}
use Rattle.full_settings.specs.declared.letter_size.LetterSize.TheVariants.{Absolute as BySize, ByFont}
use Rattle.full_settings.specs.declared.letter_setting.LetterSetting.{LetterSetting}
use Rattle.full_settings.specs.declared.heading.Heading.TheVariants.{Absolute}
use Rattle.full_settings.specs.declared.letter_setting.LetterSetting.TheVariants as letter
use Rattle.full_plot.specs.Items.{as_core, letters_steps, more_steps, params_steps, full_steps, taken}
use Rattle.raster_graphics.specs.Machines.{closed}
use Rattle.full_plot.specs.Worlds.{FullWorld, Graphics, full_followed, no_graphics, with_core}
use Rattle.full_plot.specs.Machine.{FullStep, Core, Letter, Restart, Restyle, Rewiden, restarted, restyled, rewidened, run, widths_in, with_widths}
use Rattle.full_plot.specs.Drawings.{finished, full_at_start, full_at_start_with, full_ended, is_too_much, full_runs, refusal_in, strokes_in, ends_in, areas_of, images_in, image_closed}
use Rattle.full_plot.specs.Laws.{core_part, far_refusal, far_refusal_with, is_core_body, IsCoreItem, Draws}
use Rattle.full_notes.specs.Contexts.{Context, first_context, read_in}
use Rattle.full_notes.specs.Notes.{context_after}
use Rattle.full_plot.specs.Texts.{lettered, turn_by}
use Rattle.full_plot.proofs.CoreLabels.{axis_leads}
use Rattle.full_plot.proofs.CoreNotes.{stays_first}
use Rattle.full_plot.proofs.CoreSteps.{AllStill, IsAsInCore, IsCoreLabel, IsLed, IsLikeCore, Labelling, Leads, LikeIn, core_of, labelling, one_step, still_steps}
use Rattle.full_plot.proofs.FullRuns.{run-append}
use Rattle.full_plot.proofs.Stills.{entries_still, params_still, sets_labels}

-- an item leaves all but core as core has it
abbrev Like : FullWorld → Type 0
Like w = IsLikeCore (labelling w.core.state) w

abbrev LikeNow : Option FullWorld → Type 0
LikeNow None = ⊤
LikeNow (Some w) = Like w

record IsCores (o : Option FullWorld) (p : Option core.World) : Type 0 where
  same : core_of o ≡ p
  like : LikeNow o

like_now : (d : Labelling) (w : FullWorld) → IsLikeCore d w → labelling w.core.state ≡ d → Like w
like_now d w h k = subst (λ (x : Labelling). IsLikeCore x w) (sym k) h

-- steps of core, and then what an instruction does besides
then_more : (d r : Labelling) (o : Option FullWorld) (more : List FullStep) → LikeIn d r o
    → ((v : FullWorld) → IsLikeCore d v → labelling v.core.state ≡ r → IsCores (run v more) (Some v.core))
    → IsCores (full_followed o (λ (v : FullWorld). run v more)) (core_of o)
then_more d r None more h go = record { same = refl; like = tt }
then_more d r (Some v) more h go = go v h.0 h.1

with_more : (d r : Labelling) (o : Option FullWorld) (p : Option core.World) (more : List FullStep) → IsAsInCore d r o p
    → ((v : FullWorld) → IsLikeCore d v → labelling v.core.state ≡ r → IsCores (run v more) (Some v.core))
    → IsCores (full_followed o (λ (v : FullWorld). run v more)) p
with_more d r o p more h go =
    subst (λ (q : Option core.World). IsCores (full_followed o (λ (v : FullWorld). run v more)) q) h.same (then_more d r o more h.like go)

-- nothing more
nothing : (d : Labelling) (v : FullWorld) → IsLikeCore d v → labelling v.core.state ≡ d → IsCores (Some v) (Some v.core)
nothing d v h k = record { same = refl; like = like_now d v h k }

-- IP: widths are in millimetres
unchanged : (v : FullWorld) → v.context ≡ first_context → rewidened v ≡ v
unchanged v h = ap (λ (c : Context). with_widths v (widths_in c.in_percent v.percents v.core.state)) h

after_points : (d : Labelling) (v : FullWorld) (is_wrong : Bool) → IsLikeCore d v → labelling v.core.state ≡ d
    → IsCores (run v (if is_wrong then [] else Rewiden ∷ [])) (Some v.core)
after_points d v true h k = nothing d v h k
after_points d v false h k = rw (unchanged v h.first) (nothing d v h k)

after_still : (d : Labelling) (i : Instruction) (ns : List ℤ) (v : FullWorld) → sets_labels i ≡ false → IsLikeCore d v → labelling v.core.state ≡ d
    → IsCores (run v (more_steps i ns)) (Some v.core)
after_still d Initialize ns v t h k = absurd (true≢false t)
after_still d DefaultValues ns v t h k = absurd (true≢false t)
after_still d InputPoints ns v t h k = after_points d v (meaning InputPoints ns).is_wrong h k
after_still d CharacterSize ns v t h k = absurd (true≢false t)
after_still d Direction ns v t h k = absurd (true≢false t)
after_still d i ns v t h k = nothing d v h k

-- IN and DF
to_right : unit (pos 1000000) (pos 0) ≡ right
to_right = axes_are_exact_lem.x (pos 1000000) (omega arith)

abbrev usual_labelling : Labelling
usual_labelling = record { direction = rotation.None; size = usual_size }

usual_led : IsLed usual_labelling usual_letters
usual_led = record {
  heading = pair_of (pos 1000000) (pos 0);
  size = ByFont;
  letters_are = refl;
  leads = to_right;
  sized = λ points. refl;
}

-- texts are read as at the start
plain_again : (w : FullWorld) → IsTrue (reads_ascii w.encoding w.characters.sets) → w.characters ≡ usual_characters
    → IsTrue (reads_ascii w.encoding usual_characters.sets)
plain_again w h k = subst (λ (c : Characters). IsTrue (reads_ascii w.encoding c.sets)) k h

like_again : (d : Labelling) (v : FullWorld) (q : Spot) → IsLikeCore d v → IsLikeCore usual_labelling (record (restyled v) { margin = q })
like_again d v q h = record {
  solid = refl;
  first = h.first;
  plain = plain_again v h.plain h.usual;
  usual = refl;
  no_symbol = refl;
  led = usual_led;
  no_extra = h.no_extra;
  no_ends = h.no_ends;
  no_areas = h.no_areas;
  no_escapes = h.no_escapes;
  few = h.few;
  few_places = omega arith;
}

after_restart : (d : Labelling) (v : FullWorld) → IsLikeCore d v → labelling v.core.state ≡ usual_labelling → IsCores (run v (Restart ∷ [])) (Some v.core)
after_restart d v h k = record { same = refl; like = like_now usual_labelling (restarted v) (like_again d v v.core.state.place h) k }

after_restyle : (d : Labelling) (v : FullWorld) → IsLikeCore d v → labelling v.core.state ≡ usual_labelling → IsCores (run v (Restyle ∷ [])) (Some v.core)
after_restyle d v h k = record { same = refl; like = like_now usual_labelling (restyled v) (like_again d v v.margin h) k }

-- with other letters
with_letters : (d r : Labelling) (v : FullWorld) (l : LetterStyle) (q : Spot) → IsLed r l → IsLikeCore d v
    → IsLikeCore r (record v { writing = record v.writing { letters = l }; margin = q })
with_letters d r v l q led h = record {
  solid = h.solid;
  first = h.first;
  plain = h.plain;
  usual = h.usual;
  no_symbol = h.no_symbol;
  led = led;
  no_extra = h.no_extra;
  no_ends = h.no_ends;
  no_areas = h.no_areas;
  no_escapes = h.no_escapes;
  few = h.few;
  few_places = h.few_places;
}

-- DI
abbrev directed : Rotation → Pair ℤ → List FullStep
directed r p = Core (Set (setting.Direction r)) ∷ (Letter (letter.Direction p) ∷ [])

after_direction : (d : Labelling) (r : Rotation) (p : Pair ℤ) (v : FullWorld) → unit p.x p.y ≡ vector_turned (turn_by r) right
    → IsLikeCore d v → labelling v.core.state ≡ record d { direction = r } → IsCores (run v (Letter (letter.Direction p) ∷ [])) (Some v.core)
after_direction d r p v u h k =
    let l : LetterStyle = record v.writing.letters { heading = Absolute p } in
    let led : IsLed (record d { direction = r }) l = record {
      heading = p;
      size = h.led.size;
      letters_are = ap (λ (m : LetterStyle). record m { heading = Absolute p }) h.led.letters_are;
      leads = u;
      sized = h.led.sized;
    } in
    record { same = refl; like = like_now (record d { direction = r }) _ (with_letters d (record d { direction = r }) v l v.core.state.place led h) k }

-- SI
abbrev sized : Size → LetterSetting → List FullStep
sized z s = Core (Set (setting.Size z)) ∷ (Letter s ∷ [])

after_size : (d : Labelling) (z : Size) (s : LetterSetting) (by : LetterSize) (v : FullWorld)
    → lettered s v ≡ record v { writing = record v.writing { letters = record v.writing.letters { size = by } } }
    → ((points : Pair Ends) → letter_size_in by usual_font z points ≡ pair_of z.width z.height)
    → IsLikeCore d v → labelling v.core.state ≡ record d { size = z } → IsCores (run v (Letter s ∷ [])) (Some v.core)
after_size d z s by v set fits h k =
    let l : LetterStyle = record v.writing.letters { size = by } in
    let u : FullWorld = record v { writing = record v.writing { letters = l } } in
    let led : IsLed (record d { size = z }) l = record {
      heading = h.led.heading;
      size = by;
      letters_are = ap (λ (m : LetterStyle). record m { size = by }) h.led.letters_are;
      leads = h.led.leads;
      sized = fits;
    } in
    let is : IsCores (Some u) (Some v.core) =
    record { same = refl; like = like_now (record d { size = z }) u (with_letters d (record d { size = z }) v l v.margin led h) k } in
    subst (λ (x : FullWorld). IsCores (Some x) (Some v.core)) (sym set) is

-- one setting
core_to_end : (o : Option core.World) → core.followed o (λ (c : core.World). Some c) ≡ o
core_to_end None = refl
core_to_end (Some c) = refl

set_then : (w : FullWorld) (r : Labelling) (s : Setting) (more : List FullStep) → Like w → Leads (labelling w.core.state) r (Set s)
    → ((v : FullWorld) → IsLikeCore (labelling w.core.state) v → labelling v.core.state ≡ r → IsCores (run v more) (Some v.core))
    → IsCores (run w (Core (Set s) ∷ more)) (core.run w.core (Set s ∷ []))
set_then w r s more h l go =
    let d : Labelling = labelling w.core.state in
    let c : core.World = w.core in
    subst (λ (p : Option core.World). IsCores (run w (Core (Set s) ∷ more)) p) (sym (core_to_end (core.step c (Set s))))
    (with_more d r (with_core w (core.step c (Set s))) (core.step c (Set s)) more (one_step d r w (Set s) l tt h refl) go)

direction_run : (w : FullWorld) (r : Rotation) (p : Pair ℤ) → unit p.x p.y ≡ vector_turned (turn_by r) right → Like w
    → IsCores (run w (directed r p)) (core.run w.core (Set (setting.Direction r) ∷ []))
direction_run w r p u h =
    let d : Labelling = labelling w.core.state in
    set_then w (record d { direction = r }) (setting.Direction r) (Letter (letter.Direction p) ∷ []) h
    (λ page s k. ap (λ (l : Labelling). record l { direction = r }) k)
    (λ (v : FullWorld) (l : IsLikeCore d v) (k : labelling v.core.state ≡ record d { direction = r }). after_direction d r p v u l k)

size_run : (w : FullWorld) (z : Size) (s : LetterSetting) (by : LetterSize)
    → ((v : FullWorld) → lettered s v ≡ record v { writing = record v.writing { letters = record v.writing.letters { size = by } } })
    → ((points : Pair Ends) → letter_size_in by usual_font z points ≡ pair_of z.width z.height)
    → Like w → IsCores (run w (sized z s)) (core.run w.core (Set (setting.Size z) ∷ []))
size_run w z s by set fits h =
    let d : Labelling = labelling w.core.state in
    set_then w (record d { size = z }) (setting.Size z) (Letter s ∷ []) h
    (λ page s k. ap (λ (l : Labelling). record l { size = z }) k)
    (λ (v : FullWorld) (l : IsLikeCore d v) (k : labelling v.core.state ≡ record d { size = z }). after_size d z s by v (set v) fits l k)

size_good : (w : FullWorld) (z : Size) (good : Bool) → Like w
    → IsCores
    (run w (as_core (sets (when good (setting.Size z))).steps
    ++ (if (sets (when good (setting.Size z))).is_wrong then [] else Letter letter.AbsoluteSize ∷ [])))
    (core.run w.core (sets (when good (setting.Size z))).steps)
size_good w z true h = size_run w z letter.AbsoluteSize BySize (λ v. refl) (λ points. refl) h
size_good w z false h = record { same = refl; like = h }

si_run : (w : FullWorld) (ns : List ℤ) → Like w
    → IsCores (run w (params_steps first_context CharacterSize ns)) (core.run w.core (meaning CharacterSize ns).steps)
si_run w [] h = size_run w usual_size letter.FontSize ByFont (λ v. refl) (λ points. refl) h
si_run w (x ∷ []) h = record { same = refl; like = h }
si_run w (x ∷ (y ∷ ns)) h = size_good w _ _ h

vector_run : (w : FullWorld) (x y : ℤ) (good : Bool) → (good ≡ true → unit x y ≡ vector_turned (turn_by (nearest_axis x y)) right) → Like w
    → IsCores
    (run w (as_core (sets (when good (setting.Direction (nearest_axis x y)))).steps ++ letters_steps (when good (letter.Direction (pair_of x y)))))
    (core.run w.core (sets (when good (setting.Direction (nearest_axis x y)))).steps)
vector_run w x y true u h = direction_run w (nearest_axis x y) (pair_of x y) (u refl) h
vector_run w x y false u h = record { same = refl; like = h }

di_run : (w : FullWorld) (ns : List ℤ) → is_slanted ns ≡ false → Like w
    → IsCores (run w (params_steps first_context Direction ns)) (core.run w.core (meaning Direction ns).steps)
di_run w [] e h = direction_run w rotation.None (pair_of (pos 1000000) (pos 0)) to_right h
di_run w (x ∷ []) e h = record { same = refl; like = h }
di_run w (x ∷ (y ∷ ns)) e h = vector_run w x y (is_vector x y) (λ (v : is_vector x y ≡ true). axis_leads x y v e) h

-- each instruction is its steps in core, and what it does besides
to_end : (o : Option FullWorld) → full_followed o (λ (v : FullWorld). Some v) ≡ o
to_end None = refl
to_end (Some v) = refl

steps_are : (i : Instruction) (ns : List ℤ) → params_steps first_context i ns ≡ as_core (meaning i ns).steps ++ more_steps i ns
steps_are PenWidth ns = sym (append-nil (as_core (meaning PenWidth ns).steps))
steps_are PenColour ns = sym (append-nil (as_core (meaning PenColour ns).steps))
steps_are i ns = refl

in_two : (w : FullWorld) (i : Instruction) (ns : List ℤ)
    → run w (params_steps first_context i ns) ≡ full_followed (run w (as_core (meaning i ns).steps)) (λ (v : FullWorld). run v (more_steps i ns))
in_two w i ns =
    ap (λ (ss : List FullStep). run w ss) (steps_are i ns) ∙ run-append w (as_core (meaning i ns).steps) (more_steps i ns)

still_run : (w : FullWorld) (i : Instruction) (ns : List ℤ) → sets_labels i ≡ false → Like w
    → IsCores (run w (params_steps first_context i ns)) (core.run w.core (meaning i ns).steps)
still_run w i ns t h =
    let d : Labelling = labelling w.core.state in
    let o : Option FullWorld = run w (as_core (meaning i ns).steps) in
    subst (λ (x : Option FullWorld). IsCores x (core.run w.core (meaning i ns).steps)) (sym (in_two w i ns))
    (with_more d d o (core.run w.core (meaning i ns).steps) (more_steps i ns) (still_steps d (meaning i ns).steps w (params_still i ns t) h refl)
    (λ (v : FullWorld) (l : IsLikeCore d v) (k : labelling v.core.state ≡ d). after_still d i ns v t l k))

params_run : (w : FullWorld) (i : Instruction) (ns : List ℤ) → is_core_body (Params i ns) ≡ true → Like w
    → IsCores (run w (params_steps first_context i ns)) (core.run w.core (meaning i ns).steps)
params_run w Initialize ns e h =
    let d : Labelling = labelling w.core.state in
    set_then w usual_labelling setting.Start (Restart ∷ []) h (λ page s k. refl)
    (λ (v : FullWorld) (l : IsLikeCore d v) (k : labelling v.core.state ≡ usual_labelling). after_restart d v l k)
params_run w DefaultValues ns e h =
    let d : Labelling = labelling w.core.state in
    set_then w usual_labelling setting.Defaults (Restyle ∷ []) h (λ page s k. refl)
    (λ (v : FullWorld) (l : IsLikeCore d v) (k : labelling v.core.state ≡ usual_labelling). after_restyle d v l k)
params_run w CharacterSize ns e h = si_run w ns h
params_run w Direction ns e h = di_run w ns (not-true (is_slanted ns) e) h
params_run w i ns e h = still_run w i ns refl h

-- an item of steps alone
steps_run : (w : FullWorld) (ts : List Step) → AllStill ts → Like w → IsCores (run w (as_core ts)) (core.run w.core ts)
steps_run w ts all h =
    let d : Labelling = labelling w.core.state in
    let o : Option FullWorld = run w (as_core ts) in
    subst (λ (x : Option FullWorld). IsCores x (core.run w.core ts)) (to_end o)
    (with_more d d o (core.run w.core ts) [] (still_steps d ts w all h refl)
    (λ (v : FullWorld) (l : IsLikeCore d v) (k : labelling v.core.state ≡ d). nothing d v l k))

core_label : (long : Bool) (text : List ℕ) → (not long && list_all is_core_byte text) ≡ true → nat_lt 67108864 (length text) ≡ long → IsCoreLabel text
core_label true text e k = absurd (true≢false (sym e))
core_label false text e k = record { short = k; plain = e }

item_run : (w : FullWorld) (b : BodyShape) → is_core_body b ≡ true → Like w → IsCores (run w (full_steps first_context b)) (core.run w.core (body_steps b))
item_run w (Params i ns) e h = params_run w i ns e h
item_run w (Further f ns) e h = absurd (true≢false (sym e))
item_run w (Label text) e h =
    steps_run w (Write text ∷ []) (((λ d page s k. k), core_label (nat_lt 67108864 (length text)) text e refl), tt) h
item_run w (Coded entries) e h = steps_run w (entry_steps entries) (entries_still entries) h
item_run w (DamagedMoves moves ns) e h = absurd (true≢false (sym e))
item_run w (DamagedCurves relative ns) e h = absurd (true≢false (sym e))
item_run w (Kept bytes) e h = absurd (true≢false (sym e))
item_run w (Symbol byte) e h = absurd (true≢false (sym e))
item_run w (shape.Escape taken) e h = absurd (true≢false (sym e))
item_run w shape.FormFeed e h = absurd (true≢false (sym e))
item_run w Known e h = absurd (true≢false (sym e))
item_run w b e h = record { same = refl; like = h }

-- items of core are read as they are, and change nothing in how items are read
core_read : (b : BodyShape) → is_core_body b ≡ true → read_in first_context b ≡ b
core_read (Params i ns) e = refl
core_read (Further f ns) e = absurd (true≢false (sym e))
core_read b e = refl

taken_as_is : (w : FullWorld) (b : BodyShape) → is_core_body b ≡ true → Like w → taken w b ≡ run w (full_steps first_context b)
taken_as_is w b e h =
    ap (λ (c : Context). run (record w { context = context_after c b }) (full_steps c (read_in c b))) h.first
    ∙ ap (λ (r : BodyShape). run (record w { context = context_after first_context b }) (full_steps first_context r)) (core_read b e)
    ∙ ap (λ (c : Context). run (record w { context = c }) (full_steps first_context b)) (stays_first b e ∙ sym h.first)

-- the items, one after another
record EndsLike (r : Result FullWorld PlotFault) (x : Result core.World PlotFault) : Type 0 where
  same : core_part r ≡ x
  one_sheet : ends_in r ≡ []
  no_areas : areas_of r ≡ []
  no_images : images_in r ≡ []
  closes : (end : ℕ) → finished end r ≡ r

-- without an open image nothing closes
closes_as_is : (w : FullWorld) (end : ℕ) → w.graphics ≡ no_graphics → finished end (Ok w) ≡ Ok w
closes_as_is w end e =
    ap (λ (g : Graphics). image_closed (record w { graphics = g }) end (closed g.machine)) e
    ∙ ap (λ (g : Graphics). Ok (record w { graphics = g })) (sym e)

not_too_much : (w : FullWorld) → Like w → is_too_much w ≡ w.core.full
not_too_much w h =
    let e : length w.core.kept + w.extra ≡ length w.core.kept = rw h.no_extra (omega arith) in
    rw (e, le-ltb 4194304 (length w.core.kept) h.few, le-ltb 4194304 w.buffer.places h.few_places) (elim (cases_Bool w.core.full) [
      | inl t ↦ rw t refl
      | inr t ↦ rw t refl
    ])

judged : (full : Bool) (e : PlotFault) (r : Result FullWorld PlotFault) (x : Result core.World PlotFault) → EndsLike r x
    → EndsLike (if full then Err e else r) (if full then Err e else x)
judged true e r x h = record { same = refl; one_sheet = refl; no_areas = refl; no_images = refl; closes = λ end. refl }
judged false e r x h = h

next_item : (at : ℕ) (more : List ItemShape) (o : Option FullWorld) → LikeNow o
    → ((v : FullWorld) → Like v → EndsLike (full_runs v more) (core.runs v.core more))
    → EndsLike (full_ended o at (λ (v : FullWorld). full_runs v more)) (core.ended (core_of o) at (λ (c : core.World). core.runs c more))
next_item at more None h go = record { same = refl; one_sheet = refl; no_areas = refl; no_images = refl; closes = λ end. refl }
next_item at more (Some v) h go =
    rw (not_too_much v h) (judged v.core.full (fault.TooManyStrokes at) (full_runs v more) (core.runs v.core more) (go v h))

items_run : (w : FullWorld) (items : List ItemShape) → All IsCoreItem items → Like w → EndsLike (full_runs w items) (core.runs w.core items)
items_run w [] all h = record { same = refl; one_sheet = h.no_ends; no_areas = h.no_areas; no_images = ap (λ (g : Graphics). g.images) h.no_escapes; closes = λ end. closes_as_is w end h.no_escapes }
items_run w (i ∷ more) all h =
    let is_core : is_core_body i.body ≡ true = All-head IsCoreItem i more all in
    let one : IsCores (taken w i.body) (core.run w.core (steps_of i)) =
    subst (λ (o : Option FullWorld). IsCores o (core.run w.core (steps_of i))) (sym (taken_as_is w i.body is_core h)) (item_run w i.body is_core h) in
    subst
    (λ (p : Option core.World). EndsLike (full_ended (taken w i.body) i.at (λ (v : FullWorld). full_runs v more)) (core.ended p i.at (λ (c : core.World). core.runs c more)))
    one.same
    (next_item i.at more (taken w i.body) one.like (λ (v : FullWorld) (l : Like v). items_run v more (All-tail IsCoreItem i more all) l))

like_at_start : (encoding : Encoding) (carousel : Carousel) (page : Page) → IsTrue (reads_ascii encoding usual_characters.sets)
    → Like (full_at_start_with encoding carousel page)
like_at_start encoding carousel page plain = record {
  solid = refl;
  first = refl;
  plain = plain;
  usual = refl;
  no_symbol = refl;
  led = usual_led;
  no_extra = refl;
  no_ends = refl;
  no_areas = refl;
  no_escapes = refl;
  few = omega arith;
  few_places = omega arith;
}

pub runs_as_in_core : (page : Page) (items : List ItemShape) → All IsCoreItem items
    → core_part (full_runs (full_at_start page) items) ≡ core.runs (core.far_start empty page) items
runs_as_in_core page items all = (items_run (full_at_start page) items all (like_at_start ByPlot empty page refl)).same

-- what core leaves is what its definitions say
refusal_told : (page : Page) (before : List Step) (items : List ItemShape) (r : Result FullWorld PlotFault) → Told FARTHEST_END page before [] items (core_part r)
    → refusal_in r ≡ refusal_after FARTHEST_END page before 0 items
refusal_told page before items (Ok w) t = sym t.0
refusal_told page before items (Err e) t = sym t

strokes_told : (page : Page) (before : List Step) (items : List ItemShape) (r : Result FullWorld PlotFault) → Told FARTHEST_END page before [] items (core_part r)
    → refusal_after FARTHEST_END page before 0 items ≡ None → strokes_in r ≡ strokes_after page before items
strokes_told page before items (Ok w) t n = t.1
strokes_told page before items (Err e) t n = absurd (none-some e (sym n ∙ t))

-- from a world with the core after some steps, and no strokes
draws_from : (page : Page) (before : List Step) (w : FullWorld) (items : List ItemShape) (end : ℕ) → w.core ≡ world FARTHEST_END page before [] false → Like w → All IsCoreItem items
    → Draws (finished end (full_runs w items)) (refusal_after FARTHEST_END page before 0 items) (strokes_after page before items)
draws_from page before w items end is l all =
    let r : Result FullWorld PlotFault = full_runs w items in
    let h : EndsLike r (core.runs w.core items) = items_run w items all l in
    let same : core_part r ≡ core.runs (world FARTHEST_END page before [] false) items = h.same ∙ ap (λ (c : core.World). core.runs c items) is in
    let t : Told FARTHEST_END page before [] items (core_part r) =
    subst (λ (x : Result core.World PlotFault). Told FARTHEST_END page before [] items x) (sym same) (told FARTHEST_END page before [] items (omega arith)) in
    subst (λ (o : Result FullWorld PlotFault). Draws o (refusal_after FARTHEST_END page before 0 items) (strokes_after page before items)) (sym (h.closes end))
    (refusal_told page before items r t, strokes_told page before items r t, h.one_sheet, h.no_areas, h.no_images)

pub draws_as_in_core : (page : Page) (items : List ItemShape) (end : ℕ) → All IsCoreItem items
    → Draws (finished end (full_runs (full_at_start page) items)) (far_refusal page items) (strokes page items)
draws_as_in_core page items end all = draws_from page [] (full_at_start page) items end refl (like_at_start ByPlot empty page refl) all

pub draws_as_in_core_with : (encoding : Encoding) (carousel : Carousel) (page : Page) (items : List ItemShape) (end : ℕ)
    → IsTrue (reads_ascii encoding usual_characters.sets) → All IsCoreItem items
    → Draws (finished end (full_runs (full_at_start_with encoding carousel page) items)) (far_refusal_with carousel page items) (strokes_with carousel page items)
draws_as_in_core_with encoding carousel page items end plain all =
    draws_from page (Load carousel ∷ []) (full_at_start_with encoding carousel page) items end refl (like_at_start encoding carousel page plain) all
