use Rattle.std.proofs.Common.{◌≡◌, ◌∙◌, ℤ}
use Rattle.polygons.specs.Fills.{share_of_distance}
use Rattle.polygons.proofs.Shares.{part_read, same_place}
use Rattle.polygons.proofs.ways.moved.Goals as goal

pub shortened-part-requires : goal.shortened-part-requires
shortened-part-requires c =
    let read = part_read c.args.t c.args.u c.requires in
    rw (read.first, read.second) c.requires

pub place_on-requires : goal.place_on-requires
place_on-requires c =
    let part = c.shortened-part.ensures.part in
    let read = part_read c.shortened-part.result.t c.shortened-part.result.u part in
    rw (read.wide_first, read.wide_second) part

pub returns : goal.returns
returns c =
    let read = part_read c.args.t c.args.u c.requires in
    let p = c.shortened-part.result.t in
    let q = c.shortened-part.result.u in
    let shorter = part_read p q c.shortened-part.ensures.part in
    let same : (d : ℤ) → share_of_distance d p q ≡ share_of_distance d c.args.t c.args.u = rw (read.first, read.second) at c.shortened-part.ensures.same in
    rw (shorter.wide_first, shorter.wide_second) at c.place_on.ensures ∙ same_place c.args.from c.args.to c.args.t c.args.u p q same
