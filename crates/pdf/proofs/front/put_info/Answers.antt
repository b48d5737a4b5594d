use Rattle.pieces.proofs.Texts.{◌then◌, puts_as}
use Rattle.pdf.proofs.AddedObjects.{object_added}
use Rattle.pdf.proofs.front.put_info.Goals as goal

pub returns : goal.returns
returns g c =
    let begin = c.begin_object.ensures in
    record {
      adds = object_added begin.puts begin.noted begin.size
          (c.put.ensures.puts then puts_as c.put-2.ensures.puts c.as_bytes.ensures.value then c.put-3.ensures.puts then c.put_title.ensures.puts then c.put-4.ensures.puts) c.end_object.ensures.puts;
    }
