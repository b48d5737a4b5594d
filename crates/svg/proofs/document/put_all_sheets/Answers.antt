use Rattle.std.proofs.Common.{◌++◌, ◌∙◌, List, ap}
use Rattle.pieces.proofs.Texts.{◌then◌, puts_as, written}
use Rattle.svg.specs.Clips.{clips_text}
use Rattle.svg.specs.Documents.{head_text}
use Rattle.svg.specs.declared.places.Rectangle.{Rectangle}
use Rattle.svg.proofs.document.put_all_sheets.Goals as goal

pub returns : goal.returns
returns g c =
    let start = puts_as c.put_start.ensures.puts (ap (λ (rs : List Rectangle). head_text c.args.view.now.page.now ++ clips_text rs) c.requires.clips) in
    let puts = start then c.put_shown_sheets.ensures.puts then c.put.ensures.puts in
    record {
      same = c.finish.ensures.same ∙ puts.same;
      writes = written g.K.Sink.state c.args.text.now c.put.new.self _ _ c.finish.result c.requires.new puts c.finish.ensures.finishes;
    }
