use Rattle.pieces.proofs.Texts.{◌then◌}
use Rattle.pdf.proofs.AddedObjects.{object_added}
use Rattle.pdf.proofs.pages.put_start.Goals as goal

pub returns : goal.returns
returns g c =
    let begin = c.begin_object.ensures in
    record { adds = object_added begin.puts begin.noted begin.size (c.put.ensures.puts then c.put_user_unit.ensures.puts then c.put-2.ensures.puts then c.put_reference.ensures.puts then c.put-3.ensures.puts) c.end_object.ensures.puts }
