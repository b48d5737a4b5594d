use Rattle.std.proofs.Common.{◌++◌, [], length-append, arith}
use Rattle.pieces.proofs.Texts.{◌then◌}
use Rattle.pdf.proofs.stream.put_stream.Goals as goal

pub returns : goal.returns
returns g c =
    let filled = c.put_content.ensures.fills in
    let ended = c.finish.ensures.ends in
    record {
      puts = record {
        stream = filled.sent ++ ended.sent;
        reads = ended.stream filled.sent _ (filled.holds [] [] c.new-content.ensures.fresh);
        puts = filled.puts then ended.puts;
        counts = omega (arith, ended.counts, filled.size, c.new-content.ensures.size, length-append filled.sent ended.sent);
      };
    }
