use Rattle.std.proofs.Common.{◌∙◌}
use Rattle.areas.specs.Views.{shapes_in}
use Rattle.pieces.proofs.Texts.{◌then◌, all_counted, writes, written}
use Rattle.plot_report.specs.Report.{full_report_of}
use Rattle.plot_report.proofs.Lengths.{full_report_few}
use Rattle.plot_report.proofs.report.put_full_report.Goals as goal

pub returns : goal.returns
returns g c =
    let state = g.K.Sink.state in
    let notes = g.N.NoteSource.notes c.args.notes in
    let list = shapes_in c.args.shapes in
    let images = c.args.images.now in
    let puts = c.put_page_line.ensures.puts then c.put_sheets_line.ensures.puts then c.put_shapes.ensures.puts then c.put_images.ensures.puts then c.put_notes.ensures.puts in
    let few = full_report_few c.args.page c.args.sheets list images notes c.requires.images c.requires.notes c.put_notes.ensures.few in
    let first = state c.args.text.now.sink.now in
    let last = state c.finish.new.self.sink.now in
    let text = full_report_of c.args.page c.args.sheets list images notes in
    let all = written state c.args.text.now c.put_notes.new.text last text c.finish.result c.requires.new puts c.finish.ensures.finishes in
    record {
      same = c.finish.ensures.same ∙ puts.same;
      writes = writes first last text c.finish.result few all;
      count = all_counted first last text c.finish.result few all;
    }
