use Rattle.std.proofs.Common.{◌≡◌, ◌++◌, ◌∙◌, List, ℕ, Some, ap, sym, take, append_assoc, append-nil, length-append, arith}
use Rattle.deflate.specs.Zlib.{unzlib}
use Rattle.pieces.proofs.Texts.{◌then◌}
use Rattle.pdf.proofs.Contained.{◌next◌}
use Rattle.pdf.proofs.content.PageContent.finish.Goals as goal

pub returns : goal.returns
returns g c =
    let so_far = c.encode.ensures.fills next c.hand_on.ensures.fills in
    let last = c.bytes-bytes.result.now in
    let content = c.hand_on.new.self in
    let empty : content.used ≡ 0 = c.hand_on.ensures.kept ∙ c.encode.ensures.empty in
    record {
      ends = record {
        sent = so_far.sent ++ last;
        puts = so_far.puts then c.put.ensures.puts;
        counts = omega (arith, so_far.size, length-append so_far.sent last);
        stream = λ before text h.
            let held = so_far.holds before text h in
            let whole : held.encoded ≡ text = sym (append-nil held.encoded) ∙ ap (λ (n : ℕ). held.encoded ++ take n content.piece) (sym empty) ∙ held.whole ∙ append-nil text in
            ap unzlib (sym (append_assoc before so_far.sent last))
            ∙ ap (λ (z : List ℕ). unzlib ((before ++ so_far.sent) ++ z)) c.bytes-bytes.ensures.bytes
            ∙ c.end.ensures (before ++ so_far.sent) held.encoded held.encodes ∙ ap Some whole;
      };
    }
