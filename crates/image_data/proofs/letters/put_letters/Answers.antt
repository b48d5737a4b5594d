use Rattle.std.proofs.Common.{◌+◌, ◌++◌, ◌∙◌, List, ℕ, ap, drop, get_or, sym}
use Rattle.std.proofs.lemmas.List.{drop_more}
use Rattle.pieces.proofs.Texts.{next_put}
use Rattle.image_data.specs.Base64.{letters, letters_with, waiting_after}
use Rattle.image_data.specs.declared.waiting.Waiting.{Waiting}
use Rattle.image_data.proofs.letters.put_letters.Goals as goal

pub loop-byte-preserved : goal.loop-byte-preserved
loop-byte-preserved g c =
    let l = c.loop-byte in
    let i = l.byte-index in
    let all = c.args.bytes.now in
    let rest = drop (i + 1) all in
    let next = drop_more all i 0 c.loop-byte-test.true in
    let is = sym c.waiting_with-result.ensures in
    record {
      left = next_put l.invariant.left c.put_letters_with.ensures.puts
          (ap (λ (z : List ℕ). letters l.result z) next ∙ ap (λ (w : Waiting). letters_with l.result (get_or all i 0) ++ letters w rest) is);
      after = ap (λ (w : Waiting). waiting_after w rest) (sym is) ∙ ap (λ (z : List ℕ). waiting_after l.result z) (sym next) ∙ l.invariant.after;
    }
