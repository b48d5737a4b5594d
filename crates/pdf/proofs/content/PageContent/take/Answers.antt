use Rattle.std.proofs.Common.{◌++◌, ◌∙◌, refl, sym, append-nil, take, arith}
use Rattle.pdf.proofs.content.PageContent.take.Goals as goal

pub returns : goal.returns
returns c =
    let waits = take c.args.self.now.used c.args.self.now.piece in
    record {
      keeps = record {
        encoder = refl;
        within = omega arith;
        size = refl;
        holds = λ before text h.
            record {
              encoded = h.encoded ++ waits;
              encodes = c.take.ensures before h.encoded h.encodes;
              whole = append-nil (h.encoded ++ waits) ∙ h.whole ∙ sym (append-nil text);
            };
      };
      empty = refl;
    }
