use Rattle.hpgl_plot.proofs.Fed.{within}
use Rattle.hpgl_plot.proofs.Sound.{sound_at}
use Rattle.hpgl_plot.proofs.plotter.Plotter.arrive.Goals as goal

pub set_position-requires-clause-x_near : goal.set_position-requires-clause-x_near
set_position-requires-clause-x_near c =
    let p = c.args.self.now in
    let end = c.args.end in
    (sound_at p.page p.range p.axes p.state end.coordinates end.place p.sound c.requires.placed (within p.range end.place c.requires.place_in)).x_near

pub set_position-requires-clause-y_near : goal.set_position-requires-clause-y_near
set_position-requires-clause-y_near c =
    let p = c.args.self.now in
    let end = c.args.end in
    (sound_at p.page p.range p.axes p.state end.coordinates end.place p.sound c.requires.placed (within p.range end.place c.requires.place_in)).y_near
