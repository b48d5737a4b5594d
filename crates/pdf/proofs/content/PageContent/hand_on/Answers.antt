use Rattle.std.proofs.Common.{◌++◌, ◌∙◌, List, ℕ, refl, sym, append-nil, arith, subst}
use Rattle.deflate.specs.Histories.{EncodesText}
use Rattle.pdf.proofs.content.PageContent.hand_on.Goals as goal

pub returns : goal.returns
returns g c = record {
  fills = record {
    encoder = refl;
    sound = (c.put.ensures.puts.sound, c.requires.open.1);
    sent = c.bytes-bytes.result.now;
    puts = c.put.ensures.puts;
    size = omega arith;
    holds = λ before text h.
        record {
          encoded = h.encoded;
          encodes = subst (λ (z : List ℕ). EncodesText (before ++ z) c.let_go.new.self h.encoded) (sym c.bytes-bytes.ensures.bytes) (c.let_go.ensures.encodes before h.encoded h.encodes);
          whole = h.whole ∙ sym (append-nil text);
        };
  };
  room = c.let_go.ensures.room;
  kept = refl;
}
