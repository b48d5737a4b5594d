use Rattle.std.proofs.Common.{◌+◌, ℕ, ap, length}
use Rattle.pieces.proofs.Texts.{◌then◌, puts_as}
use Rattle.pdf.specs.Documents.{kids_text}
use Rattle.pdf.proofs.AddedObjects.{object_added}
use Rattle.pdf.proofs.front.put_kids.Goals as goal

pub returns : goal.returns
returns g c =
    let begin = c.begin_object.ensures in
    let pages = puts_as c.put_pages.ensures.puts (ap (λ (k : ℕ). kids_text (5 + length c.args.pens.now + k) c.args.ends.now) c.font_count.ensures.value) in
    record { adds = object_added begin.puts begin.noted begin.size (c.put_shared.ensures.puts then pages then c.put.ensures.puts) c.end_object.ensures.puts }
