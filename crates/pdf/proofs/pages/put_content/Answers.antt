use Rattle.pdf.proofs.AddedPages.{stream_added}
use Rattle.pdf.proofs.pages.put_content.Goals as goal

pub returns : goal.returns
returns g c =
    let begin = c.begin_object.ensures in
    record { adds = stream_added begin.puts begin.noted begin.size c.put_stream_start.ensures.puts c.put_stream-size.ensures.puts c.put.ensures.puts c.end_object.ensures.puts }
