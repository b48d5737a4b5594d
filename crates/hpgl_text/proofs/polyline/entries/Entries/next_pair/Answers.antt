use Rattle.std.proofs.Common.{◌∙◌, sym, refl, arith}
use Rattle.hpgl_text.proofs.EntriesLeft.{pair_read}
use Rattle.hpgl_text.proofs.polyline.entries.Entries.next_pair.Goals as goal

pub returns : goal.returns
returns c =
    let s = c.self.inside in
    let rest = pair_read s.closed s.coding _ s.at _ s.text.now c.past-self-inside.result.now _ _ _ _ (omega (arith, c.in-Some.ensures.within))
    (c.in-Some.ensures.pair s.closed) c.pair_in.ensures refl refl c.past-self-inside.ensures in
    let done = c.if-not-is_done.ensures in
    sym c.self.view_is ∙ rw done rest
