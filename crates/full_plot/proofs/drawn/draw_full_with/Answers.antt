use Rattle.std.proofs.Common.{◌≡◌, ◌∙◌, ◌≤◌, ap, subst, sym, arith, All, ℕ, length, List, [], ◌∷◌, ◌++◌, Ok}
use Rattle.areas.specs.Laws.{AreRound}
use Rattle.areas.specs.Shapes.{AreApart, NoneGoesOn, edges_of}
use Rattle.areas.specs.declared.area.Area.{Area}
use Rattle.labels.specs.Labels.{AreBeside}
use Rattle.hpgl_text.specs.Shapes.{ItemShape}
use Rattle.full_text.specs.Cut.{full_cut}
use Rattle.full_plot.specs.Drawings.{AreAlike, befores, full_at_start_with, full_runs}
use Rattle.full_plot.proofs.BesideAreas.{NoneAtEnds}
use Rattle.page_images.specs.PageImages.{ImageShape}
use Rattle.full_plot.specs.Machine.{seen}
use Rattle.full_notes.specs.Contexts.{Context}
use Rattle.full_notes.specs.Notes.{notes_from}
use Rattle.full_notes.proofs.FewNotes.{few_notes}
use Rattle.full_plot.specs.Labels.{labels_from, labels_kept, labels_of}
use Rattle.full_plot.specs.Noted.{told_from, told_of}
use Rattle.full_plot.specs.Worlds.{FullWorld}
use Rattle.full_plot.proofs.Finished.{finishes}
use Rattle.full_plot.proofs.BesideLabels.{labels_beside}
use Rattle.full_plot.proofs.LabelsOver.{kept_at_end, kept_past}
use Rattle.full_plot.proofs.Later.{areas_alike, areas_apart, areas_within, carried_out, few_strokes, images_in_order, no_area_at_ends, told_as_set}
use Rattle.full_plot.proofs.OrderedLabels.{kept_ordered, labels_ordered}
use Rattle.full_plot.proofs.RoundAreas.{areas_round}
use Rattle.full_plot.proofs.ToldEscapes.{notes_split, told_more}
use Rattle.full_plot.proofs.drawn.draw_full_with.Goals as goal

-- the notes so far and those on this item are some of those on the plot, which has fewer than 2^63 bytes
pub count_notes-noted-requires : goal.count_notes-noted-requires
count_notes-noted-requires c =
    let old = seen c.items.plotter in
    let new = seen c.advance.new.self in
    let item = c.in-Some.item in
    let goes_on = carried_out old new item c.advance.result c.in_ok-own.own c.advance.ensures.carried c.in_ok-own.was in
    let notes = notes_split old new item c.next.new.self _ c.in_ok-own.own c.in-Some.ensures.steps (goes_on []) c.in_ok-own.ensures.noted in
    let told = told_of c.args.encoding c.args.carousel.now c.args.page.now c.args.text.now in
    omega (arith, c.items.invariant.noted, notes, few_notes told c.args.text.now)

pub overflow_add-noted : goal.overflow_add-noted
overflow_add-noted c =
    let old = seen c.items.plotter in
    let new = seen c.advance.new.self in
    let item = c.in-Some.item in
    let goes_on = carried_out old new item c.advance.result c.in_ok-own.own c.advance.ensures.carried c.in_ok-own.was in
    let notes = notes_split old new item c.next.new.self _ c.in_ok-own.own c.in-Some.ensures.steps (goes_on []) c.in_ok-own.ensures.noted in
    let told = told_of c.args.encoding c.args.carousel.now c.args.page.now c.args.text.now in
    omega (arith, c.items.invariant.noted, notes, c.count_notes-noted.ensures, few_notes told c.args.text.now)

-- the plotter that carried out this item has the context that notes have after it
pub items-preserved : goal.items-preserved
items-preserved c =
    let item = c.in-Some.item in
    let rest = c.next.new.self in
    let old = seen c.items.plotter in
    let new = seen c.advance.new.self in
    let goes_on : (more : List ItemShape) → full_runs old (item ∷ more) ≡ full_runs new more =
    carried_out old new item c.advance.result c.in_ok-own.own c.advance.ensures.carried c.in_ok-own.was in
    let notes = notes_split old new item rest _ c.in_ok-own.own c.in-Some.ensures.steps (goes_on []) c.in_ok-own.ensures.noted in
    record {
      same = sym (goes_on rest) ∙ sym (ap (λ (is : List ItemShape). full_runs old is) c.in-Some.ensures.steps) ∙ c.items.invariant.same;
      noted = omega (
        arith,
        c.items.invariant.noted,
        notes,
        ap (λ (b : Context). length (notes_from b (told_from new rest) rest)) (told_as_set old new item (goes_on [])),
        c.count_notes-noted.ensures,
      );
      told = told_more old new item rest _ c.in_ok-own.own c.items.told.items c.tell.new.told.items c.in-Some.ensures.steps (goes_on [])
          c.in_ok-own.ensures.noted c.in_ok-tell.ensures.done ∙ c.items.invariant.told;
      labelled =
          kept_past c.args.keeps_labels old new item rest c.items.labels.items c.advance.new.labels.items (goes_on []) c.in_ok-own.ensures.labels
          ∙ ap (λ (is : List ItemShape). c.items.labels.items ++ labels_kept c.args.keeps_labels (labels_from old is)) (sym c.in-Some.ensures.steps)
          ∙ c.items.invariant.labelled;
    }

pub returns-clause-limit : goal.returns-clause-limit
returns-clause-limit c =
    let w = seen c.items.plotter in
    let u = seen c.finish.new.self in
    let same : u ≡ record w { graphics = u.graphics } = finishes w u _ c.in_ok-finish.ensures.done in
    let ran : full_runs (full_at_start_with c.args.encoding c.args.carousel.now c.args.page.now) (full_cut c.args.text.now) ≡ Ok w =
    sym c.items.invariant.same ∙ ap (λ (is : List ItemShape). full_runs w is) c.in_default.ensures.steps.0 in
    subst (λ (v : FullWorld). length v.core.kept ≤ 4194304) (sym same)
    (few_strokes c.args.encoding c.args.carousel.now c.args.page.now (full_cut c.args.text.now) w ran)

pub returns-clause-apart : goal.returns-clause-apart
returns-clause-apart c =
    let w = seen c.items.plotter in
    let u = seen c.finish.new.self in
    let same : u ≡ record w { graphics = u.graphics } = finishes w u _ c.in_ok-finish.ensures.done in
    let ran : full_runs (full_at_start_with c.args.encoding c.args.carousel.now c.args.page.now) (full_cut c.args.text.now) ≡ Ok w =
    sym c.items.invariant.same ∙ ap (λ (is : List ItemShape). full_runs w is) c.in_default.ensures.steps.0 in
    subst (λ (v : FullWorld). AreApart 0 v.areas) (sym same)
    (areas_apart c.args.encoding c.args.carousel.now c.args.page.now (full_cut c.args.text.now) w ran)

pub returns-clause-within : goal.returns-clause-within
returns-clause-within c =
    let w = seen c.items.plotter in
    let u = seen c.finish.new.self in
    let same : u ≡ record w { graphics = u.graphics } = finishes w u _ c.in_ok-finish.ensures.done in
    let ran : full_runs (full_at_start_with c.args.encoding c.args.carousel.now c.args.page.now) (full_cut c.args.text.now) ≡ Ok w =
    sym c.items.invariant.same ∙ ap (λ (is : List ItemShape). full_runs w is) c.in_default.ensures.steps.0 in
    subst (λ (v : FullWorld). All (λ (a : Area). a.end ≤ length v.core.kept) v.areas) (sym same)
    (areas_within c.args.encoding c.args.carousel.now c.args.page.now (full_cut c.args.text.now) w ran)

pub returns-clause-alike : goal.returns-clause-alike
returns-clause-alike c =
    let w = seen c.items.plotter in
    let u = seen c.finish.new.self in
    let same : u ≡ record w { graphics = u.graphics } = finishes w u _ c.in_ok-finish.ensures.done in
    let ran : full_runs (full_at_start_with c.args.encoding c.args.carousel.now c.args.page.now) (full_cut c.args.text.now) ≡ Ok w =
    sym c.items.invariant.same ∙ ap (λ (is : List ItemShape). full_runs w is) c.in_default.ensures.steps.0 in
    subst (λ (v : FullWorld). All (λ (a : Area). AreAlike (edges_of v.core.kept a)) v.areas) (sym same)
    (areas_alike c.args.encoding c.args.carousel.now c.args.page.now (full_cut c.args.text.now) w ran)

pub returns-clause-round : goal.returns-clause-round
returns-clause-round c =
    let w = seen c.items.plotter in
    let u = seen c.finish.new.self in
    let same : u ≡ record w { graphics = u.graphics } = finishes w u _ c.in_ok-finish.ensures.done in
    let ran : full_runs (full_at_start_with c.args.encoding c.args.carousel.now c.args.page.now) (full_cut c.args.text.now) ≡ Ok w =
    sym c.items.invariant.same ∙ ap (λ (is : List ItemShape). full_runs w is) c.in_default.ensures.steps.0 in
    subst (λ (v : FullWorld). All (λ (a : Area). AreRound (edges_of v.core.kept a)) v.areas) (sym same)
    (areas_round c.args.encoding c.args.carousel.now c.args.page.now (full_cut c.args.text.now) w ran)

pub returns-clause-ends_beside : goal.returns-clause-ends_beside
returns-clause-ends_beside c =
    let w = seen c.items.plotter in
    let u = seen c.finish.new.self in
    let same : u ≡ record w { graphics = u.graphics } = finishes w u _ c.in_ok-finish.ensures.done in
    let ran : full_runs (full_at_start_with c.args.encoding c.args.carousel.now c.args.page.now) (full_cut c.args.text.now) ≡ Ok w =
    sym c.items.invariant.same ∙ ap (λ (is : List ItemShape). full_runs w is) c.in_default.ensures.steps.0 in
    subst (λ (v : FullWorld). All (λ (end : ℕ). NoneGoesOn end v.areas) v.ends) (sym same)
    (no_area_at_ends c.args.encoding c.args.carousel.now c.args.page.now (full_cut c.args.text.now) w ran)

pub returns-clause-same_sheets : goal.returns-clause-same_sheets
returns-clause-same_sheets c =
    let w = seen c.items.plotter in
    let u = seen c.finish.new.self in
    let ran : full_runs (full_at_start_with c.args.encoding c.args.carousel.now c.args.page.now) (full_cut c.args.text.now) ≡ Ok w =
    sym c.items.invariant.same ∙ ap (λ (is : List ItemShape). full_runs w is) c.in_default.ensures.steps.0 in
    let order = images_in_order c.args.encoding c.args.carousel.now c.args.page.now (full_cut c.args.text.now) w u _ ran c.in_ok-finish.ensures.done in
    rw c.into_parts-images.ensures.ends order.sheets_are

pub returns-clause-images_in_order : goal.returns-clause-images_in_order
returns-clause-images_in_order c =
    let w = seen c.items.plotter in
    let u = seen c.finish.new.self in
    let ran : full_runs (full_at_start_with c.args.encoding c.args.carousel.now c.args.page.now) (full_cut c.args.text.now) ≡ Ok w =
    sym c.items.invariant.same ∙ ap (λ (is : List ItemShape). full_runs w is) c.in_default.ensures.steps.0 in
    let order = images_in_order c.args.encoding c.args.carousel.now c.args.page.now (full_cut c.args.text.now) w u _ ran c.in_ok-finish.ensures.done in
    rw c.into_parts-images.ensures.images order.ascend

pub returns-clause-images_beside : goal.returns-clause-images_beside
returns-clause-images_beside c =
    let w = seen c.items.plotter in
    let u = seen c.finish.new.self in
    let ran : full_runs (full_at_start_with c.args.encoding c.args.carousel.now c.args.page.now) (full_cut c.args.text.now) ≡ Ok w =
    sym c.items.invariant.same ∙ ap (λ (is : List ItemShape). full_runs w is) c.in_default.ensures.steps.0 in
    let order = images_in_order c.args.encoding c.args.carousel.now c.args.page.now (full_cut c.args.text.now) w u _ ran c.in_ok-finish.ensures.done in
    subst (λ (images : List ImageShape). NoneAtEnds (befores images) u.areas) (sym c.into_parts-images.ensures.images) order.beside

pub returns-clause-labels_beside : goal.returns-clause-labels_beside
returns-clause-labels_beside c =
    let w = seen c.items.plotter in
    let u = seen c.finish.new.self in
    let same : u ≡ record w { graphics = u.graphics } = finishes w u _ c.in_ok-finish.ensures.done in
    let ran : full_runs (full_at_start_with c.args.encoding c.args.carousel.now c.args.page.now) (full_cut c.args.text.now) ≡ Ok w =
    sym c.items.invariant.same ∙ ap (λ (is : List ItemShape). full_runs w is) c.in_default.ensures.steps.0 in
    let all : c.items.labels.items ≡ labels_kept c.args.keeps_labels (labels_of c.args.encoding c.args.carousel.now c.args.page.now c.args.text.now) =
    kept_at_end c.args.keeps_labels w c.items.items c.items.labels.items _ c.in_default.ensures.steps.0 c.items.invariant.labelled in
    subst (λ (v : FullWorld). AreBeside v.areas c.items.labels.items) (sym same)
    (rw all (labels_beside c.args.keeps_labels c.args.encoding c.args.carousel.now c.args.page.now c.args.text.now w ran))

pub returns-clause-labels_in_order : goal.returns-clause-labels_in_order
returns-clause-labels_in_order c =
    let all : c.items.labels.items ≡ labels_kept c.args.keeps_labels (labels_of c.args.encoding c.args.carousel.now c.args.page.now c.args.text.now) =
    kept_at_end c.args.keeps_labels (seen c.items.plotter) c.items.items c.items.labels.items _ c.in_default.ensures.steps.0 c.items.invariant.labelled in
    rw all
    (kept_ordered c.args.keeps_labels (labels_of c.args.encoding c.args.carousel.now c.args.page.now c.args.text.now)
    (labels_ordered c.args.encoding c.args.carousel.now c.args.page.now c.args.text.now))
