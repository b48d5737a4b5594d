use Rattle.std.proofs.Common.{◌++◌, ◌∙◌, List, ℕ, refl, sym, ap, append_assoc, arith}
use Rattle.pdf.proofs.content.PageContent.keep.Goals as goal

pub returns : goal.returns
returns c = record {
  keeps = record {
    encoder = refl;
    within = omega (arith, c.requires, c.append-self.ensures.used);
    size = refl;
    holds = λ before text h.
        record {
          encoded = h.encoded;
          encodes = h.encodes;
          whole = ap (λ (z : List ℕ). h.encoded ++ z) c.append-self.ensures.piece ∙ sym (append_assoc h.encoded _ c.args.bytes.now) ∙ ap (λ (z : List ℕ). z ++ c.args.bytes.now) h.whole;
        };
  };
}
