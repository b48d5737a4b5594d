use Rattle.std.proofs.Common.{List, flat_map, ap, arith, length, length-append, refl, ◌∙◌}
use Rattle.hpgl_plot.specs.declared.note.Note.{Note}
use Rattle.pieces.proofs.Texts.{all_left, all_put, next_put}
use Rattle.plot_report.specs.Report.{note_line}
use Rattle.plot_report.proofs.Lengths.{note_few}
use Rattle.plot_report.proofs.report.put_notes.Goals as goal

pub notes-init : goal.notes-init
notes-init g c = record { left = all_left c.requires.sound refl; few = omega arith }

pub notes-preserved : goal.notes-preserved
notes-preserved g c =
    let note = c.in-Some.note in
    let others = flat_map note_line (g.N.NoteSource.notes c.next_note.new.self) in
    let next = c.in-Some.ensures in
    let lines = ap (λ (ns : List Note). flat_map note_line ns) next in
    let size = ap length lines ∙ length-append (note_line note) others in
    let fewer = ap (λ (ns : List Note). length ns) next in
    record {
      left = next_put c.notes.invariant.left c.put_note_line.ensures.puts lines;
      few = omega (arith, size, fewer, c.notes.invariant.few, note_few note c.put_note_line.ensures.letters);
    }

pub returns : goal.returns
returns g c =
    let none = c.in_default.ensures.0 in
    let nothing = ap (λ (ns : List Note). flat_map note_line ns) none in
    record {
      puts = all_put c.notes.invariant.left nothing;
      few = omega (arith, c.notes.invariant.few, ap length nothing, ap (λ (ns : List Note). length ns) none);
    }
