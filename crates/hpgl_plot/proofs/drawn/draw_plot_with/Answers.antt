use Rattle.std.proofs.Common.{[], ◌∷◌, Option, ap, arith, length, length-append}
use Rattle.hpgl_text.specs.Cut.{cut}
use Rattle.plot_settings.specs.Meanings.{Load}
use Rattle.hpgl_plot.specs.Machine.{seen}
use Rattle.hpgl_plot.specs.declared.note.NoteKind.{NoteKind}
use Rattle.hpgl_plot.specs.Notes.{notes, notes_of, notes_with}
use Rattle.hpgl_plot.proofs.ItemLists.{if_err}
use Rattle.hpgl_plot.proofs.Ends.{refused_at, all_drawn}
use Rattle.hpgl_plot.proofs.NoteCounts.{notes_few}
use Rattle.hpgl_plot.proofs.drawn.draw_plot_with.Goals as goal

-- the notes so far and those on this item are some of those on the plot, which has fewer than 2^63 bytes
pub count_notes-noted-requires : goal.count_notes-noted-requires
count_notes-noted-requires c =
    omega (
      arith,
      c.items.invariant.noted,
      ap (λ is. length (notes is)) c.in-Some.ensures.steps,
      length-append (notes_of c.in-Some.item) (notes c.next.new.self),
      ap (λ (own : Option NoteKind). length (notes_with own c.in-Some.item)) c.in_ok-own.ensures.noted,
      notes_few c.args.text.now,
    )

pub overflow_add-noted : goal.overflow_add-noted
overflow_add-noted c =
    omega (
      arith,
      c.items.invariant.noted,
      ap (λ is. length (notes is)) c.in-Some.ensures.steps,
      length-append (notes_of c.in-Some.item) (notes c.next.new.self),
      c.count_notes-noted.ensures,
      ap (λ (own : Option NoteKind). length (notes_with own c.in-Some.item)) c.in_ok-own.ensures.noted,
      notes_few c.args.text.now,
    )

pub returns-in_err-own-clause-refused : goal.returns-in_err-own-clause-refused
returns-in_err-own-clause-refused c =
    if_err c.from_residual.result c.in_err-own.field-0.0 _ c.from_residual.ensures.1 (refused_at c.args.page.now (Load c.args.carousel.now ∷ []) (cut c.args.text.now) c.items.items (seen c.items.plotter) c.in-Some.item c.next.new.self c.items.noted c.in_err-own.field-0.0
    c.items.invariant c.in-Some.ensures.steps c.in_err-own.ensures.carried)

pub returns-clause-accepted : goal.returns-clause-accepted
returns-clause-accepted c = (all_drawn c.args.page.now (Load c.args.carousel.now ∷ []) (cut c.args.text.now) c.items.items (seen c.items.plotter) c.items.noted c.items.invariant c.in_default.ensures.steps.0).0

pub returns-clause-strokes : goal.returns-clause-strokes
returns-clause-strokes c = (all_drawn c.args.page.now (Load c.args.carousel.now ∷ []) (cut c.args.text.now) c.items.items (seen c.items.plotter) c.items.noted c.items.invariant c.in_default.ensures.steps.0).1

pub returns-clause-limit : goal.returns-clause-limit
returns-clause-limit c = (all_drawn c.args.page.now (Load c.args.carousel.now ∷ []) (cut c.args.text.now) c.items.items (seen c.items.plotter) c.items.noted c.items.invariant c.in_default.ensures.steps.0).2

pub returns-clause-notes : goal.returns-clause-notes
returns-clause-notes c = (all_drawn c.args.page.now (Load c.args.carousel.now ∷ []) (cut c.args.text.now) c.items.items (seen c.items.plotter) c.items.noted c.items.invariant c.in_default.ensures.steps.0).3
