use Rattle.pdf.proofs.Contained.{kept, ◌next◌}
use Rattle.pdf.proofs.content.PageContent.encode.Goals as goal

pub returns : goal.returns
returns g c =
    let room = c.make_room.ensures.fills in
    record { fills = room next kept room.sound c.take.ensures.keeps; empty = c.take.ensures.empty }
