use Rattle.pdf.proofs.AddedObjects.{object_added}
use Rattle.pdf.proofs.objects.put_object.Goals as goal

pub returns : goal.returns
returns g c =
    let begin = c.begin_object.ensures in
    record { adds = object_added begin.puts begin.noted begin.size c.put.ensures.puts c.end_object.ensures.puts }
