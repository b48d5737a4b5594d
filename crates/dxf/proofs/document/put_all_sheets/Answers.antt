use Rattle.std.proofs.Common.{◌∙◌}
use Rattle.pieces.proofs.Texts.{◌then◌, written}
use Rattle.dxf.proofs.document.put_all_sheets.Goals as goal

pub returns : goal.returns
returns g c =
    let puts = c.put_head.ensures.puts then c.put_sheets.ensures.puts then c.put_middle.ensures.puts then c.put_sheets-2.ensures.puts then c.put_foot.ensures.puts in
    record {
      same = c.finish.ensures.same ∙ puts.same;
      writes = written g.K.Sink.state c.args.text.now c.put_foot.new.text _ _ c.finish.result c.requires.new puts c.finish.ensures.finishes;
    }
