use Rattle.pdf.proofs.AddedObjects.{object_added}
use Rattle.pdf.proofs.fonts.put_unicode.Goals as goal

pub returns : goal.returns
returns g c =
    let begin = c.begin_object.ensures in
    record { adds = object_added begin.puts begin.noted begin.size c.put_map.ensures.puts c.end_object.ensures.puts }
