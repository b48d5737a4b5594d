use Rattle.std.proofs.Common.{refl}
use Rattle.std.proofs.lemmas.List.{drop_all}
use Rattle.pdf.proofs.Contained.{all_filled, all_remain, kept, next_filled, ◌next◌}
use Rattle.pdf.proofs.Lists.{next_at}
use Rattle.pdf.proofs.content.PageContent.put_on.Goals as goal

pub loop-byte-init : goal.loop-byte-init
loop-byte-init g c = all_remain c.requires.open refl

pub loop-byte-preserved : goal.loop-byte-preserved
loop-byte-preserved g c =
    let l = c.loop-byte in
    let place = c.make_place.ensures.fills in
    next_filled l.invariant (place next kept place.sound c.keep.ensures.keeps) (next_at c.args.bytes.now l.byte-index c.loop-byte-test.true)

pub returns : goal.returns
returns g c =
    let l = c.loop-byte in
    record { fills = all_filled l.invariant (drop_all l.byte-index c.args.bytes.now c.loop-byte-test.false) }
