use Rattle.pieces.proofs.Texts.{◌then◌, puts_as}
use Rattle.std.proofs.Common.{ℕ, ap, length}
use Rattle.pdf.specs.Objects.{trailer_text}
use Rattle.pdf.proofs.document.put_end.Goals as goal

pub returns : goal.returns
returns g c =
    let trailer = puts_as c.put_trailer.ensures.puts (ap (λ (k : ℕ). trailer_text (length c.args.offsets.now) k) c.count-at.ensures) in
    record { puts = c.put_table.ensures.puts then trailer }
