use Rattle.stroke_raster.proofs.InkRows.{inked_rows}
use Rattle.stroke_raster.proofs.bits.BitsCanvas.lends_what_it_shows.Goals as goal

pub returns : goal.returns
returns c = λ test n first shows.
    let b = c.args.self.now in
    inked_rows test n first b.rows b.columns b.stride b.bytes.items shows c.requires.sound.after (rw c.as_slice.ensures.value at c.are_bytes.ensures) c.requires.sound.size c.requires.sound.stride_is
