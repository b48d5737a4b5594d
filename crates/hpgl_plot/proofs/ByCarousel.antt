-- A carousel changes only the widths and the colours of strokes.
use Rattle.std.proofs.Common.{◌≡◌, ◌∙◌, ap, ap₂, sym, refl, inl, inr, ℕ, ◌+◌, ◌&&◌, not, Bool, true, false, ℤ, List, [], ◌∷◌, ◌++◌, map, length, nat_eq, nat_lt, slice_index, slice_index_or, Option, Some, None}
use Rattle.std.specs.Prelude.{if◌then◌else◌, ⊤}
use Rattle.std.specs.List.{flat_map, list_all}
use Rattle.std.specs.Option.{unwrap_or}
use Rattle.std.proofs.lemmas.Bool.{cases_Bool}
use Rattle.std.proofs.lemmas.List.{length-map, map-append}
use Rattle.carousel.proofs.Empty.{empty_width, empty_colour}
use Rattle.carousel.specs.Carousels.{empty}
use Rattle.carousel.specs.declared.carousel.Carousel.{Carousel}
use Rattle.exact.specs.declared.spot.Spot.{Spot}
use Rattle.hpgl_text.specs.EntryShapes.{PartShape, EntryShape}
use Rattle.hpgl_text.specs.EntryShapes as part
use Rattle.hpgl_text.specs.Shapes.{BodyShape, ItemShape, Params, Coded, Label}
use Rattle.hpgl_text.specs.declared.instruction.Instruction.{Instruction}
use Rattle.hpgl_text.specs.declared.instruction.Instruction.TheVariants as is
use Rattle.plot_page.specs.declared.colour.Colour.{Colour}
use Rattle.plot_page.specs.declared.page.Page.{Page}
use Rattle.plot_page.specs.declared.stroke.TheConstants.{FARTHEST_PLACE}
use Rattle.plot_page.specs.Segments.{Segment}
use Rattle.plot_settings.specs.Colours.{black}
use Rattle.plot_settings.specs.Meanings.{Step, Set, Touch, Lower, Relate, Move, Go, Edge, DrawCircle, DrawArc, Write, Load, asks, body_steps, edges, entry_steps, lowered_then, meaning, moves, part_steps, steps_of}
use Rattle.plot_settings.specs.declared.setting.Setting.{Setting}
use Rattle.plot_settings.specs.declared.setting.Setting.TheVariants.{Start, Defaults, PageCorners, FirstPoint, BothPoints, Scale, Rotate, PageWindow, CornerWindow, Pen, Width, WidthOfAll, PenColour, DefaultColours, Size, Direction}
use Rattle.hpgl_plot.specs.declared.fault.PlotFault.{PlotFault}
use Rattle.hpgl_plot.specs.declared.fault.PlotFault.TheVariants.{OffRange, TooManyStrokes}
use Rattle.hpgl_plot.specs.declared.state.State.{State}
use Rattle.hpgl_plot.specs.Laws.{by_carousel, CarouselChangesOnlyPens}
use Rattle.hpgl_plot.specs.Inks.{own_colour, screened}
use Rattle.hpgl_plot.specs.Machine.{after, set_to}
use Rattle.hpgl_plot.specs.Paths.{Path, path}
use Rattle.hpgl_plot.specs.States.{state_of}
use Rattle.hpgl_plot.specs.Strokes.{are_in_range, drawn, history, joined, path_strokes, refusal, refusal_after, refusal_with, stay_in_range, stroke, strokes, strokes_after, strokes_from, strokes_with}
use Rattle.hpgl_plot.proofs.Bridge.{one_more_step}

-- no carousel is loaded
abbrev IsUsual : Step → Type 0
IsUsual (Load c) = ⊥
IsUsual _ = ⊤

abbrev AreUsual : List Step → Type 0
AreUsual [] = ⊤
AreUsual (t ∷ ts) = IsUsual t × AreUsual ts

-- no item loads one
asks_usual : {A : Type 0} (step : A → Step) → ((a : A) → IsUsual (step a)) → (o : Option A) → AreUsual (asks step o).steps
asks_usual step h (Some a) = (h a, tt)
asks_usual step h None = tt

moves_usual : (ns : List ℤ) → AreUsual (moves ns)
moves_usual [] = tt
moves_usual (x ∷ []) = tt
moves_usual (x ∷ (y ∷ ns)) = (tt, moves_usual ns)

lowered_usual : (ts : List Step) → AreUsual ts → AreUsual (lowered_then ts)
lowered_usual [] h = (tt, (tt, tt))
lowered_usual (t ∷ ts) h = (tt, h)

edges_usual : (relative : Bool) (ns : List ℤ) → AreUsual (edges relative ns).steps
edges_usual relative [] = tt
edges_usual relative (x ∷ []) = tt
edges_usual relative (x ∷ (y ∷ ns)) = (tt, tt)

meaning_usual : (i : Instruction) (ns : List ℤ) → AreUsual (meaning i ns).steps
meaning_usual is.PenUp ns = (tt, moves_usual ns)
meaning_usual is.PenDown ns = lowered_usual (moves ns) (moves_usual ns)
meaning_usual is.PlotAbsolute ns = (tt, moves_usual ns)
meaning_usual is.PlotRelative ns = (tt, moves_usual ns)
meaning_usual is.EdgeAbsolute ns = edges_usual false ns
meaning_usual is.EdgeRelative ns = edges_usual true ns
meaning_usual is.Circle ns = asks_usual DrawCircle (λ a. tt) _
meaning_usual is.ArcAbsolute ns = asks_usual (DrawArc false) (λ a. tt) _
meaning_usual is.ArcRelative ns = asks_usual (DrawArc true) (λ a. tt) _
meaning_usual is.Initialize ns = (tt, tt)
meaning_usual is.DefaultValues ns = (tt, tt)
meaning_usual is.InputPoints ns = asks_usual Set (λ a. tt) _
meaning_usual is.Scale ns = asks_usual Set (λ a. tt) _
meaning_usual is.Rotate ns = asks_usual Set (λ a. tt) _
meaning_usual is.InputWindow ns = asks_usual Set (λ a. tt) _
meaning_usual is.SelectPen ns = asks_usual Set (λ a. tt) _
meaning_usual is.PenWidth ns = asks_usual Set (λ a. tt) _
meaning_usual is.PenColour ns = asks_usual Set (λ a. tt) _
meaning_usual is.CharacterSize ns = asks_usual Set (λ a. tt) _
meaning_usual is.Direction ns = asks_usual Set (λ a. tt) _

part_then_usual : (p : PartShape) (ts : List Step) → AreUsual ts → AreUsual (part_steps p ++ ts)
part_then_usual (part.Pen n) ts h = (tt, h)
part_then_usual (part.Pair up absolute x y) ts h = (tt, (tt, h))
part_then_usual part.Bad ts h = h
part_then_usual (part.Stray byte) ts h = h

entries_usual : (entries : List EntryShape) → AreUsual (entry_steps entries)
entries_usual [] = tt
entries_usual (e ∷ rest) = part_then_usual e.what (entry_steps rest) (entries_usual rest)

body_usual : (body : BodyShape) → AreUsual (body_steps body)
body_usual (Params i ns) = meaning_usual i ns
body_usual (Coded entries) = entries_usual entries
body_usual (Label bytes) = (tt, tt)
body_usual _ = tt

-- with another carousel
abbrev loaded : Carousel → State → State
loaded c s = record s { carousel = c }

set_loaded : (page : Page) (c : Carousel) (s : State) (t : Setting) → set_to page (loaded c s) t ≡ loaded c (set_to page s t)
set_loaded page c s Start = refl
set_loaded page c s Defaults = refl
set_loaded page c s PageCorners = refl
set_loaded page c s (FirstPoint x y) = refl
set_loaded page c s (BothPoints p) = refl
set_loaded page c s (Scale r) = refl
set_loaded page c s (Rotate r) = refl
set_loaded page c s PageWindow = refl
set_loaded page c s (CornerWindow w) = refl
set_loaded page c s (Pen n) = refl
set_loaded page c s (Width n w) = refl
set_loaded page c s (WidthOfAll w) = refl
set_loaded page c s (PenColour n k) = refl
set_loaded page c s DefaultColours = refl
set_loaded page c s (Size z) = refl
set_loaded page c s (Direction r) = refl

after_loaded : (page : Page) (c : Carousel) (s : State) (t : Step) → IsUsual t → after page (loaded c s) t ≡ loaded c (after page s t)
after_loaded page c s (Set t) h = set_loaded page c s t
after_loaded page c s Touch h = refl
after_loaded page c s (Lower b) h = refl
after_loaded page c s (Relate b) h = refl
after_loaded page c s (Move x y) h = refl
after_loaded page c s (Go r x y) h = refl
after_loaded page c s (Edge r x y) h = refl
after_loaded page c s (DrawCircle k) h = refl
after_loaded page c s (DrawArc r a) h = refl
after_loaded page c s (Write bytes) h = refl
after_loaded page c s (Load k) h = absurd h

path_loaded : (page : Page) (c : Carousel) (s : State) (t : Step) → path page (loaded c s) t ≡ path page s t
path_loaded page c s (Set t) = refl
path_loaded page c s Touch = refl
path_loaded page c s (Lower b) = refl
path_loaded page c s (Relate b) = refl
path_loaded page c s (Move x y) = refl
path_loaded page c s (Go r x y) = refl
path_loaded page c s (Edge r x y) = refl
path_loaded page c s (DrawCircle k) = refl
path_loaded page c s (DrawArc r a) = refl
path_loaded page c s (Write bytes) = refl
path_loaded page c s (Load k) = refl

-- the state after some steps is the one after others with another carousel, and there the carousel is empty
record IsLoaded (page : Page) (c : Carousel) (a b : List Step) : Type 0 where
  state_is : state_of page a ≡ loaded c (state_of page b)
  none : state_of page b ≡ loaded empty (state_of page b)

next_loaded : (page : Page) (c : Carousel) (a b : List Step) (t : Step) → IsUsual t → IsLoaded page c a b → IsLoaded page c (t ∷ a) (t ∷ b)
next_loaded page c a b t u h =
    let x : State = state_of page b in
    record {
      state_is = sym (one_more_step page a t)
          ∙ ap (λ (s : State). after page s t) h.state_is ∙ after_loaded page c x t u ∙ ap (loaded c) (one_more_step page b t);
      none = sym (one_more_step page b t)
          ∙ ap (λ (s : State). after page s t) h.none ∙ after_loaded page empty x t u ∙ ap (loaded empty) (one_more_step page b t);
    }

history_loaded : (page : Page) (c : Carousel) (a b ts : List Step) → AreUsual ts → IsLoaded page c a b → IsLoaded page c (history a ts) (history b ts)
history_loaded page c a b [] u h = h
history_loaded page c a b (t ∷ ts) u h = history_loaded page c (t ∷ a) (t ∷ b) ts u.1 (next_loaded page c a b t u.0 h)

-- strokes
-- strokes are neither screened nor hidden
record IsBare (s : State) : Type 0 where
  screen_is : s.screen ≡ None
  hides_no : s.hides_white ≡ false

stroke_loaded : (c : Carousel) (s : State) (a b : Spot) → IsBare s → stroke (loaded c s) a b ≡ by_carousel c (stroke (loaded empty s) a b)
stroke_loaded c s a b h =
    ap (λ (x : Option ℕ). record (stroke (loaded c s) a b) { colour = screened x (own_colour (loaded c s)) }) h.screen_is
    ∙ own
    ∙ ap (λ (x : Option ℕ). by_carousel c (record (stroke (loaded empty s) a b) { colour = screened x (own_colour (loaded empty s)) })) (sym h.screen_is)
  where
    own : record (stroke (loaded c s) a b) { colour = own_colour (loaded c s) } ≡ by_carousel c (record (stroke (loaded empty s) a b) { colour = own_colour (loaded empty s) })
    own =
        ap₂ (λ (w : Option ℕ) (k : Option Colour). by_carousel c (record (stroke (loaded c s) a b) {
          width = unwrap_or w (slice_index s.widths s.pen);
          colour = unwrap_or k (slice_index_or s.colours s.pen black);
        })) (sym (empty_width s.pen)) (sym (empty_colour s.pen))

drawn_loaded : (c : Carousel) (s : State) (a b : Spot) → IsBare s → drawn (loaded c s) a b ≡ map (by_carousel c) (drawn (loaded empty s) a b)
drawn_loaded c s a b h = elim (cases_Bool (nat_eq s.pen 0)) [
  | inl t ↦ rw t refl
  | inr t ↦ rw (t, h.hides_no) (ap (λ (k : Segment). k ∷ []) (stroke_loaded c s a b h))
]

joined_loaded : (c : Carousel) (s : State) (places : List Spot) → IsBare s → joined (loaded c s) places ≡ map (by_carousel c) (joined (loaded empty s) places)
joined_loaded c s [] h = refl
joined_loaded c s (a ∷ []) h = refl
joined_loaded c s (a ∷ (b ∷ rest)) h =
    ap₂ (λ (x y : List Segment). x ++ y) (drawn_loaded c s a b h) (joined_loaded c s (b ∷ rest) h)
    ∙ sym (map-append (by_carousel c) (drawn (loaded empty s) a b) (joined (loaded empty s) (b ∷ rest)))

lines_loaded : (c : Carousel) (s : State) (lines : List (List Spot)) → IsBare s → flat_map (joined (loaded c s)) lines ≡ map (by_carousel c) (flat_map (joined (loaded empty s)) lines)
lines_loaded c s [] h = refl
lines_loaded c s (l ∷ ls) h =
    ap₂ (λ (x y : List Segment). x ++ y) (joined_loaded c s l h) (lines_loaded c s ls h)
    ∙ sym (map-append (by_carousel c) (joined (loaded empty s) l) (flat_map (joined (loaded empty s)) ls))

drawn_if : (c : Carousel) (s : State) (draws : Bool) (lines : List (List Spot)) → IsBare s
    → (if draws then flat_map (joined (loaded c s)) lines else []) ≡ map (by_carousel c) (if draws then flat_map (joined (loaded empty s)) lines else [])
drawn_if c s true lines h = lines_loaded c s lines h
drawn_if c s false lines h = refl

step_loaded : (page : Page) (c : Carousel) (a b : List Step) (t : Step) → IsLoaded page c a b
    → path_strokes (state_of page a) (path page (state_of page a) t) ≡ map (by_carousel c) (path_strokes (state_of page b) (path page (state_of page b) t))
step_loaded page c a b t h =
    let s : State = state_of page b in
    let p : Path = path page s t in
    ap (λ (x : State). path_strokes x (path page x t)) h.state_is
    ∙ ap (λ (q : Path). path_strokes (loaded c s) q) (path_loaded page c s t)
    ∙ drawn_if c s p.draws p.lines (record { screen_is = refl; hides_no = refl })
    ∙ ap (λ (x : State). map (by_carousel c) (path_strokes x p)) (sym h.none)

steps_loaded : (page : Page) (c : Carousel) (a b ts : List Step) → AreUsual ts → IsLoaded page c a b
    → strokes_from page a ts ≡ map (by_carousel c) (strokes_from page b ts)
steps_loaded page c a b [] u h = refl
steps_loaded page c a b (t ∷ ts) u h =
    ap₂ (λ (x y : List Segment). x ++ y) (step_loaded page c a b t h) (steps_loaded page c (t ∷ a) (t ∷ b) ts u.1 (next_loaded page c a b t u.0 h))
    ∙ sym (map-append (by_carousel c) (path_strokes (state_of page b) (path page (state_of page b) t)) (strokes_from page (t ∷ b) ts))

items_loaded : (page : Page) (c : Carousel) (a b : List Step) (items : List ItemShape) → IsLoaded page c a b
    → strokes_after page a items ≡ map (by_carousel c) (strokes_after page b items)
items_loaded page c a b [] h = refl
items_loaded page c a b (i ∷ more) h =
    let u : AreUsual (steps_of i) = body_usual i.body in
    ap₂ (λ (x y : List Segment). x ++ y) (steps_loaded page c a b (steps_of i) u h)
    (items_loaded page c (history a (steps_of i)) (history b (steps_of i)) more (history_loaded page c a b (steps_of i) u h))
    ∙ sym (map-append (by_carousel c) (strokes_from page b (steps_of i)) (strokes_after page (history b (steps_of i)) more))

-- refusals
range_loaded : (range : ℕ) (page : Page) (c : Carousel) (a b ts : List Step) → AreUsual ts → IsLoaded page c a b
    → stay_in_range range page a ts ≡ stay_in_range range page b ts
range_loaded range page c a b [] u h = refl
range_loaded range page c a b (t ∷ ts) u h =
    ap₂ (λ (x y : Bool). x && y)
    (ap (λ (x : State). list_all (are_in_range range) (path page x t).lines) h.state_is ∙ ap (λ (q : Path). list_all (are_in_range range) q.lines) (path_loaded page c (state_of page b) t))
    (range_loaded range page c (t ∷ a) (t ∷ b) ts u.1 (next_loaded page c a b t u.0 h))

-- how an item is refused, with the refusal of the items after it
abbrev refused_by : ℕ → Bool → ℕ → Option PlotFault → Option PlotFault
refused_by at in_range total rest =
    if not in_range then Some (OffRange at) else
    if nat_lt 4194304 total then Some (TooManyStrokes at) else
    rest

refused_loaded : (range : ℕ) (page : Page) (c : Carousel) (a b : List Step) (count : ℕ) (items : List ItemShape) → IsLoaded page c a b
    → refusal_after range page a count items ≡ refusal_after range page b count items
refused_loaded range page c a b count [] h = refl
refused_loaded range page c a b count (i ∷ more) h =
    let ts = steps_of i in
    let u : AreUsual ts = body_usual i.body in
    let as_many : length (strokes_from page a ts) ≡ length (strokes_from page b ts) =
    ap length (steps_loaded page c a b ts u h) ∙ length-map (strokes_from page b ts) (by_carousel c) in
    ap₂ (λ (x : Bool) (n : ℕ). refused_by i.at x (count + n) (refusal_after range page (history a ts) (count + n) more)) (range_loaded range page c a b ts u h) as_many
    ∙ ap (λ (r : Option PlotFault). refused_by i.at (stay_in_range range page b ts) (count + length (strokes_from page b ts)) r)
    (refused_loaded range page c (history a ts) (history b ts) _ more (history_loaded page c a b ts u h))

-- a carousel that is loaded before the first item
first_loaded : (page : Page) (c : Carousel) → IsLoaded page c (Load c ∷ []) []
first_loaded page c = record { state_is = refl; none = refl }

pub only_pens : CarouselChangesOnlyPens
only_pens c page items =
    (items_loaded page c (Load c ∷ []) [] items (first_loaded page c), refused_loaded FARTHEST_PLACE page c (Load c ∷ []) [] 0 items (first_loaded page c))

-- an empty one changes nothing
unchanged : (ss : List Segment) → map (by_carousel empty) ss ≡ ss
unchanged [] = refl
unchanged (s ∷ ss) =
    ap₂ (λ (x : Segment) (y : List Segment). x ∷ y)
    (ap₂ (λ (w : Option ℕ) (k : Option Colour). record s { width = unwrap_or w s.width; colour = unwrap_or k s.colour }) (empty_width s.pen) (empty_colour s.pen))
    (unchanged ss)

pub strokes_with_none : (page : Page) (items : List ItemShape) → strokes_with empty page items ≡ strokes page items
strokes_with_none page items = (only_pens empty page items).0 ∙ unchanged (strokes page items)

pub refusal_with_none : (page : Page) (items : List ItemShape) → refusal_with empty page items ≡ refusal page items
refusal_with_none page items = (only_pens empty page items).1
