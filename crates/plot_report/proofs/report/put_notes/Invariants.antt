use Rattle.std.proofs.Common.{◌+◌, ◌*◌, ◌≤◌, flat_map, length}
use Rattle.pieces.proofs.Texts.{Left}
use Rattle.plot_report.specs.Report.{note_line}
use Rattle.plot_report.proofs.report.put_notes.Given as goal

-- the lines of the notes that are left
abbrev pub invariant-notes : goal.invariant-notes
invariant-notes g l =
    let all = g.N.NoteSource.notes l.fn.notes in
    let rest = g.N.NoteSource.notes l.rest in
    record {
      left : Left g.K.Sink.state l.fn.text l.text (flat_map note_line rest) (flat_map note_line all);
      few : length (flat_map note_line all) + 1000 * length rest ≤ length (flat_map note_line rest) + 1000 * length all;
    }

abbrev pub decreases-notes : goal.decreases-notes
decreases-notes g l = length (g.N.NoteSource.notes l.rest)
