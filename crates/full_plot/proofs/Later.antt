-- What all steps leave alone: how items are read, that no more strokes are kept than a plot may have, that the sheets that
-- have ended and the areas are parts of them, in order, that the edges of an area are alike, and that no area goes on where one
-- did not.
use Rattle.std.proofs.Common.{◌≡◌, ◌∙◌, ◌≤◌, ℕ, refl, ap, subst, arith, Bool, true, false, List, [], ◌∷◌, ◌++◌, append-nil, append_assoc, length, length-append, map, Result, Ok, Err, Option, Some, None}
use Rattle.std.specs.Prelude.{if◌then◌else◌, ⊤}
use Rattle.std.specs.List.{All}
use Rattle.std.proofs.lemmas.List.{length_push}
use Rattle.std.proofs.lemmas.List.Elements.{All-nil}
use Rattle.areas.specs.Shapes.{AreApart, NoneGoesOn, edges_of}
use Rattle.areas.specs.declared.area.Area.{Area}
use Rattle.carousel.specs.declared.carousel.Carousel.{Carousel}
use Rattle.character_sets.specs.declared.encoding.Encoding.{Encoding}
use Rattle.line_types.specs.declared.run.Run.{Run}
use Rattle.page_images.specs.PageImages.{ImageShape, page_image}
use Rattle.plot_page.specs.Segments.{Segment}
use Rattle.raster_graphics.specs.declared.fault.Fault.{Fault}
use Rattle.raster_graphics.specs.declared.image.Image.{Image}
use Rattle.raster_graphics.specs.declared.machine.Machine.{Machine}
use Rattle.raster_graphics.specs.Machines.{closed}
use Rattle.polygons.specs.declared.lines.Rule.{Rule}
use Rattle.polygons.specs.declared.span.Span.{Span}
use Rattle.plot_page.specs.declared.page.Page.{Page}
use Rattle.full_text.specs.Cut.{full_cut}
use Rattle.hpgl_text.specs.Shapes.{ItemShape, BodyShape}
use Rattle.hpgl_plot.specs.declared.fault.PlotFault.{PlotFault}
use Rattle.hpgl_plot.specs.declared.fault.PlotFault.TheVariants as fault
use Rattle.hpgl_plot.specs.declared.state.State.{State}
use Rattle.hpgl_plot.specs.Machine as core
use Rattle.full_notes.specs.Contexts.{Context, read_in}
use Rattle.full_notes.specs.Notes.{context_after}
use Rattle.full_plot.specs.Drawings.{AreAlike, Ascend, befores, finished, full_at_start_with, full_ended, image_closed, is_too_much, full_runs, outcome_with, CarriesOut}
use Rattle.full_plot.specs.Fills.{edge_span, edges_inked, solid_filled}
use Rattle.full_plot.specs.Items.{full_steps, taken}
use Rattle.full_plot.specs.Commands.{gathered, with_machine}
use Rattle.full_plot.specs.Sheets.{ends_with, is_begun, sheet_ended}
use Rattle.full_plot.specs.Laws.{SheetsJoin, SheetsJoinIn}
use Rattle.full_plot.specs.Worlds.{FullWorld, Graphics}
use Rattle.full_plot.proofs.AlikeEdges.{alike_added, spans_inked, thin_look}
use Rattle.full_plot.proofs.AreasHave.{GoesOn, Have, all_have, have_on, on_kept, on_none, on_then}
use Rattle.full_plot.proofs.AreasInOrder.{AreUpTo, are_apart, are_within, up_to_added, up_to_more}
use Rattle.full_plot.proofs.BesideAreas.{NoneAtEnds, none_at_ends_with_later, none_at_next, none_at_next_end, none_with_later}
use Rattle.full_plot.proofs.Changes.{In}
use Rattle.full_plot.proofs.FittingSteps.{all_fit}
use Rattle.full_plot.proofs.FullChanges.{Changes, run_holds}
use Rattle.full_plot.proofs.JoinedSheets.{ascend_on, ascend_with, images_are_sheets, strokes_are_sheets}
use Rattle.full_plot.proofs.Nexts.{Grows, few_kept}
use Rattle.full_plot.proofs.RoundEdges.{no_area, no_end, no_image}

-- images are in order among so many strokes, no area goes on at one of them, and sheets that end after so many ends end among them
pub record AreImagesInOrder (areas : List Area) (count sheets : ℕ) (g : Graphics) : Type 0 where
  pub ascend : Ascend 0 (befores g.images) count
  pub beside : NoneAtEnds (befores g.images) areas
  pub ends : Ascend 0 g.ends (length g.images)
  pub sheets_are : length g.ends ≡ sheets

-- these strokes are no more than a plot may have, the ends of sheets ascend up to them, as areas do, the edges of an area are
-- alike, no area goes on where a sheet ends, and images are in order
abbrev InOrder : List ℕ → List Area → List Segment → Graphics → Type 0
InOrder ends areas kept g =
    (length kept ≤ 4194304) × Ascend 0 ends (length kept) × AreUpTo 0 areas (length kept) × Have AreAlike kept areas
    × NoneAtEnds ends areas × AreImagesInOrder areas (length kept) (length ends) g

abbrev pub IsInOrder : FullWorld → Type 0
IsInOrder w = InOrder w.ends w.areas w.core.kept w.graphics

-- a later world
pub record IsLater (w v : FullWorld) : Type 0 where
  pub context_is : v.context ≡ w.context
  pub in_order : IsInOrder w → IsInOrder v
  pub grows : length w.core.kept ≤ length v.core.kept
  pub goes_on : GoesOn w.core.kept v.core.kept
  pub none_goes_on : (n : ℕ) → n ≤ length w.core.kept → NoneGoesOn n w.areas → NoneGoesOn n v.areas

later_then : (w v u : FullWorld) → IsLater w v → IsLater v u → IsLater w u
later_then w v u h k = record {
  context_is = k.context_is ∙ h.context_is;
  in_order = λ order. k.in_order (h.in_order order);
  grows = omega (arith, h.grows, k.grows);
  goes_on = on_then w.core.kept v.core.kept u.core.kept h.goes_on k.goes_on;
  none_goes_on = λ n before none. k.none_goes_on n (omega (arith, before, h.grows)) (h.none_goes_on n before none);
}

later_drawn : (w : FullWorld) (s : State) (ss : List Segment) (r : Option Run) → IsLater w (record w { core = core.with_strokes w.core s ss; run = r })
later_drawn w s ss r =
    let g : Grows (length w.core.kept) (length (core.kept_with w.core.kept w.core.full ss)) = few_kept w.core.kept w.core.full ss in
    let on : GoesOn w.core.kept (core.kept_with w.core.kept w.core.full ss) = on_kept w.core.kept w.core.full ss in
    record {
      context_is = refl;
      in_order = λ h. (
        g.1 h.0,
        ascend_on 0 w.ends _ _ g.0 h.1,
        up_to_more 0 w.areas _ _ g.0 h.2,
        have_on AreAlike _ _ w.areas on h.3,
        h.4,
        record {
          ascend = ascend_on 0 (befores w.graphics.images) _ _ g.0 h.5.ascend;
          beside = h.5.beside;
          ends = h.5.ends;
          sheets_are = h.5.sheets_are;
        },
      );
      grows = g.0;
      goes_on = on;
      none_goes_on = λ n before none. none;
    }

later_aside : (w v : FullWorld) → v.context ≡ w.context → v.core.kept ≡ w.core.kept → v.ends ≡ w.ends → v.areas ≡ w.areas
    → v.graphics ≡ w.graphics → IsLater w v
later_aside w v c k e a i = record {
  context_is = c;
  in_order = λ h. rw (k, e, a, i) h;
  grows = rw k (omega arith);
  goes_on = rw k (on_none w.core.kept);
  none_goes_on = λ n before none. rw a none;
}

-- a sheet ends in both lists or in neither
same_ends : (more : Bool) (ends image_ends : List ℕ) (count images : ℕ) → length image_ends ≡ length ends
    → length (ends_with more image_ends images) ≡ length (ends_with more ends count)
same_ends true ends image_ends count images e = omega (arith, e, length_push ends count, length_push image_ends images)
same_ends false ends image_ends count images e = e

later_ended : (w : FullWorld) → IsLater w (sheet_ended w)
later_ended w =
    let count : ℕ = length w.core.kept in
    let more : Bool = is_begun w in
    record {
      context_is = refl;
      in_order = λ h. (
        h.0,
        ascend_with more w.ends count h.1,
        h.2,
        h.3,
        none_at_next_end more w.ends w.areas count h.2 h.4,
        record {
          ascend = h.5.ascend;
          beside = h.5.beside;
          ends = ascend_with more w.graphics.ends (length w.graphics.images) h.5.ends;
          sheets_are = same_ends more w.ends w.graphics.ends count (length w.graphics.images) h.5.sheets_are;
        },
      );
      grows = omega arith;
      goes_on = on_none w.core.kept;
      none_goes_on = λ n before none. none;
    }

-- where only what escapes make is another
later_graphics : (w : FullWorld) (g : Graphics)
    → (AreUpTo 0 w.areas (length w.core.kept) → AreImagesInOrder w.areas (length w.core.kept) (length w.ends) w.graphics
    → AreImagesInOrder w.areas (length w.core.kept) (length w.ends) g)
    → IsLater w (record w { graphics = g })
later_graphics w g k = record {
  context_is = refl;
  in_order = λ h. (h.0, h.1, h.2, h.3, h.4, k h.2 h.5);
  grows = omega arith;
  goes_on = on_none w.core.kept;
  none_goes_on = λ n before none. none;
}

later_machine : (w : FullWorld) (m : Machine) → IsLater w (with_machine w m)
later_machine w m = later_graphics w _ (λ up h. record { ascend = h.ascend; beside = h.beside; ends = h.ends; sheets_are = h.sheets_are })

-- with images that are drawn after all strokes
ascend_more : (start : ℕ) (befores : List ℕ) (count : ℕ) (images : List Image) (page : Page) → Ascend start befores count
    → Ascend start (befores ++ map (λ (i : Image). (page_image page i count).before) images) count
ascend_more start [] count [] page h = h
ascend_more start [] count (i ∷ is) page h = (h, ascend_more count [] count is page (omega arith))
ascend_more start (b ∷ bs) count is page h = (h.0, ascend_more b bs count is page h.1)

none_at_more : (befores : List ℕ) (areas : List Area) (count : ℕ) (images : List Image) (page : Page) → AreUpTo 0 areas count
    → NoneAtEnds befores areas → NoneAtEnds (befores ++ map (λ (i : Image). (page_image page i count).before) images) areas
none_at_more befores areas count [] page up h = rw append-nil h
none_at_more befores areas count (i ∷ is) page up h =
    rw (← append_assoc befores (count ∷ []) (map (λ (j : Image). (page_image page j count).before) is))
    (none_at_more (befores ++ count ∷ []) areas count is page up (none_at_next befores areas count up h))

gathered_befores : (images : List ImageShape) (page : Page) (count : ℕ) (more : List Image)
    → befores (images ++ map (λ (i : Image). page_image page i count) more)
    ≡ befores images ++ map (λ (i : Image). (page_image page i count).before) more
gathered_befores [] page count [] = refl
gathered_befores [] page count (i ∷ is) = ap (λ (bs : List ℕ). count ∷ bs) (gathered_befores [] page count is)
gathered_befores (j ∷ js) page count more = ap (λ (bs : List ℕ). j.before ∷ bs) (gathered_befores js page count more)

later_gathered : (w : FullWorld) → IsLater w (gathered w)
later_gathered w =
    let count : ℕ = length w.core.kept in
    let done : List Image = w.graphics.machine.images in
    let images : List ImageShape = w.graphics.images in
    let page : Page = w.core.page in
    let more : List ImageShape = map (λ (i : Image). page_image page i count) done in
    later_graphics w _ (λ up h. record {
      ascend = rw (gathered_befores images page count done) (ascend_more 0 (befores images) count done page h.ascend);
      beside = rw (gathered_befores images page count done) (none_at_more (befores images) w.areas count done page up h.beside);
      ends = ascend_on 0 w.graphics.ends (length images) (length (images ++ more)) (omega (arith, length-append images more)) h.ends;
      sheets_are = h.sheets_are;
    })

later_area : (w : FullWorld) (rule : Rule) → IsLater w (edges_inked w) → IsLater w (solid_filled rule w)
later_area w rule h =
    let v : FullWorld = edges_inked w in
    let spans : List Span = map edge_span w.buffer.edges in
    let a : v.areas ≡ w.areas = no_area spans w in
    let e : v.ends ≡ w.ends = no_end spans w in
    let i : v.graphics ≡ w.graphics = no_image spans w in
    record {
      context_is = h.context_is;
      in_order = λ order.
          let after : IsInOrder v = h.in_order order in
          let alike : Have AreAlike w.core.kept v.areas = rw a order.3 in (
            after.0,
            after.1,
            up_to_added 0 v.areas (length w.core.kept) (length v.core.kept) rule h.grows (rw a order.2),
            alike_added w.core.kept v.core.kept v.areas rule (thin_look w.core.state) refl (spans_inked spans w) alike,
            none_at_ends_with_later v.ends v.areas (length w.core.kept) (length v.core.kept) rule (rw e order.1) after.4,
            record {
              ascend = after.5.ascend;
              beside = none_at_ends_with_later (befores v.graphics.images) v.areas (length w.core.kept) (length v.core.kept) rule
                  (rw i order.5.ascend) after.5.beside;
              ends = after.5.ends;
              sheets_are = after.5.sheets_are;
            },
          );
      grows = h.grows;
      goes_on = h.goes_on;
      none_goes_on = λ n before none. none_with_later n v.areas (length w.core.kept) (length v.core.kept) rule before (rw a none);
    }

later_changes : Changes IsLater ⊤
later_changes = record {
  joined = later_then;
  context_is = λ w v h. h.context_is;
  drawn = λ w s ss r m. later_drawn w s ss r;
  aside = λ w v c k e a i full b. later_aside w v c k e a i;
  ended = later_ended;
  machine = later_machine;
  gathers = later_gathered;
  area = λ w rule off h. later_area w rule h;
}

-- an item leaves the context after it, no more strokes than a plot may have, and sheets in order
abbrev pub IsAfter : FullWorld → BodyShape → FullWorld → Type 0
IsAfter w b v = IsLater (record w { context = context_after w.context b }) v

pub after_item : (w : FullWorld) (b : BodyShape) → In (IsAfter w b) (taken w b)
after_item w b =
    let within : FullWorld = record w { context = context_after w.context b } in
    run_holds later_changes (full_steps w.context (read_in w.context b)) within (λ e. tt) (all_fit w.context b)

-- an item that is not refused
abbrev LeavesAfter : Context → Result FullWorld PlotFault → Type 0
LeavesAfter c (Ok v) = v.context ≡ c
LeavesAfter c (Err e) = ⊤

leaves_if : (c : Context) (full : Bool) (e : PlotFault) (v : FullWorld) → v.context ≡ c → LeavesAfter c (if full then Err e else Ok v)
leaves_if c true e v h = tt
leaves_if c false e v h = h

by_end : (w : FullWorld) (b : BodyShape) (o : Option FullWorld) (at : ℕ) → In (IsAfter w b) o → LeavesAfter (context_after w.context b) (full_ended o at (λ (v : FullWorld). Ok v))
by_end w b None at h = tt
by_end w b (Some v) at h = leaves_if (context_after w.context b) (is_too_much v) (fault.TooManyStrokes at) v h.context_is

pub told_as_set : (w v : FullWorld) (i : ItemShape) → full_runs w (i ∷ []) ≡ Ok v → v.context ≡ context_after w.context i.body
told_as_set w v i h = subst (LeavesAfter (context_after w.context i.body)) h (by_end w i.body (taken w i.body) i.at (after_item w i.body))

pub carried_out : {U : Type 0} (w v : FullWorld) (i : ItemShape) (r : Result U PlotFault) (u : U) → CarriesOut full_runs w i v r → r ≡ Ok u
    → (more : List ItemShape) → full_runs w (i ∷ more) ≡ full_runs v more
carried_out w v i (Ok x) u h e = h
carried_out w v i (Err x) u h e = absurd (cc e)

-- all items
abbrev InOrderAfter : Result FullWorld PlotFault → Type 0
InOrderAfter (Ok w) = IsInOrder w
InOrderAfter (Err e) = ⊤

order_judged : (full : Bool) (e : PlotFault) (r : Result FullWorld PlotFault) → InOrderAfter r → InOrderAfter (if full then Err e else r)
order_judged true e r h = tt
order_judged false e r h = h

order_ended : (w : FullWorld) (b : BodyShape) (o : Option FullWorld) (at : ℕ) (more : List ItemShape) → In (IsAfter w b) o → IsInOrder w
    → ((v : FullWorld) → IsInOrder v → InOrderAfter (full_runs v more)) → InOrderAfter (full_ended o at (λ (v : FullWorld). full_runs v more))
order_ended w b None at more h k go = tt
order_ended w b (Some v) at more h k go = order_judged (is_too_much v) (fault.TooManyStrokes at) (full_runs v more) (go v (h.in_order k))

order_by_items : (items : List ItemShape) (w : FullWorld) → IsInOrder w → InOrderAfter (full_runs w items)
order_by_items [] w h = h
order_by_items (i ∷ more) w h =
    order_ended w i.body (taken w i.body) i.at more (after_item w i.body) h (λ (v : FullWorld) (k : IsInOrder v). order_by_items more v k)

pub at_start_in_order : (encoding : Encoding) (carousel : Carousel) (page : Page) → IsInOrder (full_at_start_with encoding carousel page)
at_start_in_order encoding carousel page = (
  omega arith,
  omega arith,
  omega arith,
  tt,
  All-nil (λ (end : ℕ). NoneGoesOn end []),
  record { ascend = omega arith; beside = All-nil (λ (end : ℕ). NoneGoesOn end []); ends = omega arith; sheets_are = refl },
)

-- a plot that is accepted
in_order_at_end : (encoding : Encoding) (carousel : Carousel) (page : Page) (items : List ItemShape) (v : FullWorld)
    → full_runs (full_at_start_with encoding carousel page) items ≡ Ok v → IsInOrder v
in_order_at_end encoding carousel page items v e =
    subst InOrderAfter e (order_by_items items (full_at_start_with encoding carousel page) (at_start_in_order encoding carousel page))

pub few_strokes : (encoding : Encoding) (carousel : Carousel) (page : Page) (items : List ItemShape) (v : FullWorld)
    → full_runs (full_at_start_with encoding carousel page) items ≡ Ok v → length v.core.kept ≤ 4194304
few_strokes encoding carousel page items v e =
    (in_order_at_end encoding carousel page items v e).0

-- its areas are apart, and end before the last stroke or with it
pub areas_apart : (encoding : Encoding) (carousel : Carousel) (page : Page) (items : List ItemShape) (v : FullWorld)
    → full_runs (full_at_start_with encoding carousel page) items ≡ Ok v → AreApart 0 v.areas
areas_apart encoding carousel page items v e = are_apart 0 v.areas _ (in_order_at_end encoding carousel page items v e).2

pub areas_within : (encoding : Encoding) (carousel : Carousel) (page : Page) (items : List ItemShape) (v : FullWorld)
    → full_runs (full_at_start_with encoding carousel page) items ≡ Ok v → All (λ (a : Area). a.end ≤ length v.core.kept) v.areas
areas_within encoding carousel page items v e = are_within 0 v.areas _ (in_order_at_end encoding carousel page items v e).2

-- and the edges of each are alike
pub areas_alike : (encoding : Encoding) (carousel : Carousel) (page : Page) (items : List ItemShape) (v : FullWorld)
    → full_runs (full_at_start_with encoding carousel page) items ≡ Ok v → All (λ (a : Area). AreAlike (edges_of v.core.kept a)) v.areas
areas_alike encoding carousel page items v e = all_have AreAlike v.core.kept v.areas (in_order_at_end encoding carousel page items v e).3

-- and none of them goes on where a sheet ends
pub no_area_at_ends : (encoding : Encoding) (carousel : Carousel) (page : Page) (items : List ItemShape) (v : FullWorld)
    → full_runs (full_at_start_with encoding carousel page) items ≡ Ok v → All (λ (end : ℕ). NoneGoesOn end v.areas) v.ends
no_area_at_ends encoding carousel page items v e = (in_order_at_end encoding carousel page items v e).4

-- the images of a plot are in order, once the one that is open is closed
order_closed : (w : FullWorld) (at : ℕ) (r : Result Machine Fault) → IsInOrder w → InOrderAfter (image_closed w at r)
order_closed w at (Ok m) h = (later_gathered (with_machine w m)).in_order ((later_machine w m).in_order h)
order_closed w at (Err f) h = tt

pub images_in_order : (encoding : Encoding) (carousel : Carousel) (page : Page) (items : List ItemShape) (v u : FullWorld) (at : ℕ)
    → full_runs (full_at_start_with encoding carousel page) items ≡ Ok v → finished at (Ok v) ≡ Ok u
    → AreImagesInOrder u.areas (length u.core.kept) (length u.ends) u.graphics
images_in_order encoding carousel page items v u at e f =
    let end : IsInOrder u = subst InOrderAfter f (order_closed v at (closed v.graphics.machine) (in_order_at_end encoding carousel page items v e)) in end.5

-- the sheets of a plot that is refused, too
sheets_in_order : (r : Result FullWorld PlotFault) → InOrderAfter r → SheetsJoinIn r
sheets_in_order (Ok w) h = record {
  strokes = strokes_are_sheets w.core.kept w.ends w.graphics.ends (length w.graphics.images) h.1;
  images = images_are_sheets w.graphics.images w.ends w.graphics.ends (length w.core.kept) h.5.ends h.5.sheets_are;
}
sheets_in_order (Err e) h = record {
  strokes = strokes_are_sheets [] [] [] 0 (omega arith);
  images = images_are_sheets [] [] [] 0 (omega arith) refl;
}

order_finished : (at : ℕ) (r : Result FullWorld PlotFault) → InOrderAfter r → InOrderAfter (finished at r)
order_finished at (Ok w) h = order_closed w at (closed w.graphics.machine) h
order_finished at (Err e) h = tt

pub sheets_joined : SheetsJoin
sheets_joined encoding carousel page plot =
    let start : FullWorld = full_at_start_with encoding carousel page in
    sheets_in_order (outcome_with encoding carousel page plot)
    (order_finished (length plot) (full_runs start (full_cut plot)) (order_by_items (full_cut plot) start (at_start_in_order encoding carousel page)))

-- an item that is carried out makes no stroke fewer
pub no_fewer : (w v : FullWorld) (b : BodyShape) → taken w b ≡ Some v → length w.core.kept ≤ length v.core.kept
no_fewer w v b e =
    let h : IsAfter w b v = subst (In (IsAfter w b)) e (after_item w b) in h.grows
