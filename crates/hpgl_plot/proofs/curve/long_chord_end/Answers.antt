use Rattle.std.proofs.Common.{refl}
use Rattle.hpgl_plot.proofs.Curves.{point_right, point_above}
use Rattle.hpgl_plot.proofs.curve.long_chord_end.Goals as goal

pub place_on-place-requires-clause-x_near : goal.place_on-place-requires-clause-x_near
place_on-place-requires-clause-x_near c =
    rw c.curve_point-coordinates.ensures (point_right c.args.page.now c.args.frame.now c.args.axes.now c.args.curve c.args.k c.requires.axes c.requires.curve)

pub place_on-place-requires-clause-y_near : goal.place_on-place-requires-clause-y_near
place_on-place-requires-clause-y_near c =
    rw c.curve_point-coordinates.ensures (point_above c.args.page.now c.args.frame.now c.args.axes.now c.args.curve c.args.k c.requires.axes c.requires.curve)

pub returns : goal.returns
returns c = rw (c.place_on-place.ensures, c.curve_point-coordinates.ensures) refl
