use Rattle.std.proofs.Common.{◌≡◌, ◌++◌, ◌∙◌, List, ℕ, ap, append_assoc, flat_map}
use Rattle.pieces.proofs.Texts.{◌then◌, all_counted, puts_as, writes, written}
use Rattle.areas.specs.Shapes.{ShapeList, shapes}
use Rattle.plot_report.specs.Report.{note_line, page_line, pen_lines, report_of, shape_lines, strokes_line}
use Rattle.plot_report.proofs.Lengths.{report_few}
use Rattle.plot_report.proofs.Plain.{lines_without_areas}
use Rattle.plot_report.proofs.report.put_report.Goals as goal

-- the lines of the strokes and of the pens are put together
apart : (a b p n : List ℕ) → (a ++ (b ++ p)) ++ n ≡ ((a ++ b) ++ p) ++ n
apart a b p n = simp append_assoc

pub returns : goal.returns
returns g c =
    let state = g.K.Sink.state in
    let notes = g.N.NoteSource.notes c.args.notes in
    let strokes = c.args.strokes.now in
    let plain_lines = ap (λ (list : ShapeList). shape_lines 0 (shapes list.strokes list.areas)) c.of_strokes.ensures.shapes ∙ lines_without_areas strokes in
    let lines = c.put_page_line.ensures.puts then (puts_as c.put_shapes.ensures.puts plain_lines) then c.put_notes.ensures.puts in
    let puts = puts_as lines (apart (page_line c.args.page) (strokes_line strokes) (pen_lines strokes) (flat_map note_line notes)) in
    let few = report_few c.args.page c.args.strokes.now notes c.requires.notes c.put_notes.ensures.few in
    let first = state c.args.text.now.sink.now in
    let last = state c.finish.new.self.sink.now in
    let text = report_of c.args.page c.args.strokes.now notes in
    let all = written state c.args.text.now c.put_notes.new.text last text c.finish.result c.requires.new puts c.finish.ensures.finishes in
    record {
      same = c.finish.ensures.same ∙ puts.same;
      writes = writes first last text c.finish.result few all;
      count = all_counted first last text c.finish.result few all;
    }
